use Rattle.std.proofs.Common.{drop}
use Rattle.account.specs.Dialogue.{Meter, sets}
use Rattle.chip.specs.Driver.{wanted_of}
use Rattle.meter.proofs.transfer.write_settings.Given as goal
use Rattle.meter.specs.Parts.{Leads}

abbrev pub invariant-loop-write : goal.invariant-loop-write
invariant-loop-write g l =
    let m = g.W.Make.Make.sheet in
    let ps = m.settings_writes (wanted_of l.fn.wanted) l.mark in
    (t : Meter) → Leads g.W.Wire.goes (sets m t ps) l.initial.wire (sets m t (drop l.write-index ps)) l.wire
