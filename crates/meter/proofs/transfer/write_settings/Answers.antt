use Rattle.std.proofs.Common.{◌≡◌, [], get_or, ap, ◌∙◌, map, subst}
use Rattle.std.proofs.lemmas.Result.{err_from_is_err_and}
use Rattle.chip.specs.Chip.{write}
use Rattle.chip.specs.Driver.{wanted_of, write_of}
use Rattle.chip.specs.declared.driver.RegisterWrite.{RegisterWrite}
use Rattle.meter.proofs.Items.{next_is}
use Rattle.meter.proofs.Writing.{one_written, write_failed}
use Rattle.meter.proofs.transfer.write_settings.Goals as goal
use Rattle.wire.specs.Wire.{Transacted, denied, heard}

abbrev no_write : RegisterWrite
no_write = record { address = 0; bytes = []; length = 0 }

pub returns-in_err-write : goal.returns-in_err-write
returns-in_err-write g c =
    let m = g.W.Make.Make.sheet in
    let ps = m.settings_writes (wanted_of c.args.wanted) c.args.mark in
    let xs = c.as_slice-write-items.result.now in
    let i = c.loop-write.write-index in
    let w = get_or xs i no_write in
    let listed : map write_of xs ≡ ps = ap (map write_of) c.as_slice-write-items.ensures.value ∙ c.settings_writes-writes.ensures in
    let p = err_from_is_err_and c.from_residual.result c.from_residual.ensures.1 in
    let went = subst (λ bs. Transacted g.W.Wire.goes c.loop-write.wire (write w.address bs) (denied c.in_err-write.field-0.0) c.write.new.self)
    c.bytes.ensures c.in_err-write.ensures in
    rw (p.1, p.2) (write_failed g.W.Wire.goes m ps c.args.wire.now i (write_of w) (next_is write_of xs ps listed i no_write c.loop-write-test.true) c.loop-write.invariant
    c.in_err-write.field-0.0 went)

pub loop-write-preserved : goal.loop-write-preserved
loop-write-preserved g c =
    let m = g.W.Make.Make.sheet in
    let ps = m.settings_writes (wanted_of c.args.wanted) c.args.mark in
    let xs = c.as_slice-write-items.result.now in
    let i = c.loop-write.write-index in
    let w = get_or xs i no_write in
    let listed : map write_of xs ≡ ps = ap (map write_of) c.as_slice-write-items.ensures.value ∙ c.settings_writes-writes.ensures in
    let went = subst (λ bs. Transacted g.W.Wire.goes c.loop-write.wire (write w.address bs) (heard []) c.write.new.self) c.bytes.ensures c.in_ok-write.ensures in
    one_written g.W.Wire.goes m ps c.args.wire.now i (write_of w) (next_is write_of xs ps listed i no_write c.loop-write-test.true) c.loop-write.invariant went
