use Rattle.std.proofs.Common.{length, Err, sym, refl, rules}
use Rattle.chip.specs.Chip.{read}
use Rattle.chip.specs.declared.refusal.Refusal.TheVariants.{NotAcknowledged, Broken}
use Rattle.chip.specs.declared.refusal.Who.TheVariants.{Wire}
use Rattle.wire.proofs.Plays.{heard_bytes, heard_with, played, with_bytes}
use Rattle.wire.specs.Wire.{Transacted, too_short_or_long}
use Rattle.wire.proofs.scripted.ScriptedWire.read.Goals as goal

pub returns-then-not-is_readable-clause-went : goal.returns-then-not-is_readable-clause-went
returns-then-not-is_readable-clause-went g c = too_short_or_long (sym c.if-not-is_readable.ensures)

pub returns-in-Pass-clause-went : goal.returns-in-Pass-clause-went
returns-in-Pass-clause-went g c =
    let bs = c.read.new.bytes in
    let q = read c.args.start (length c.args.bytes.now) in
    rw (← heard_with bs c.read.result) (played g.W.Wire.goes q (sym c.if-not-is_readable.ensures) heard_bytes (λ e. refl)
    {asks = λ u r w. Transacted g.W.Wire.goes u q (heard_bytes r) w}
    (record { oldest = rw (← c.in-Pass.ensures.value) (rw (heard_with bs c.read.result) c.read.ensures.went); taken = c.take.ensures.after; same = c.take.ensures.same })
    (λ u w r a. a))

pub returns-in-Refuse-clause-went : goal.returns-in-Refuse-clause-went
returns-in-Refuse-clause-went g c =
    let q = read c.args.start (length c.args.bytes.now) in
    played g.W.Wire.goes q (sym c.if-not-is_readable.ensures) heard_bytes (λ e. refl)
    {asks = λ u r w. Transacted g.W.Wire.goes u q (heard_bytes r) w} {r = Err (NotAcknowledged Wire c.args.start)}
    (record { oldest = rw (← c.in-Refuse.ensures.value) (refl, refl); taken = c.take.ensures.after; same = c.take.ensures.same })
    (λ u w r a. a)

pub returns-in-Break-clause-went : goal.returns-in-Break-clause-went
returns-in-Break-clause-went g c =
    let q = read c.args.start (length c.args.bytes.now) in
    played g.W.Wire.goes q (sym c.if-not-is_readable.ensures) heard_bytes (λ e. refl)
    {asks = λ u r w. Transacted g.W.Wire.goes u q (heard_bytes r) w} {r = Err (Broken c.args.start)}
    (record { oldest = rw (← c.in-Break.ensures.value) (refl, refl); taken = c.take.ensures.after; same = c.take.ensures.same })
    (λ u w r a. a)

pub returns-in-DropReply-clause-went : goal.returns-in-DropReply-clause-went
returns-in-DropReply-clause-went g c =
    let q = read c.args.start (length c.args.bytes.now) in
    let bs = c.read-in-DropReply.new.bytes in
    played g.W.Wire.goes q (sym c.if-not-is_readable.ensures) heard_bytes (λ e. refl)
    {asks = λ u r w. Transacted g.W.Wire.goes u q (heard_bytes r) w} {r = Err (Broken c.args.start)}
    (record {
      oldest = rw (← c.in-DropReply.ensures.value) (refl, (with_bytes bs c.read-in-DropReply.result, rw (heard_with bs c.read-in-DropReply.result) (search rules)));
      taken = c.take.ensures.after;
      same = c.take.ensures.same;
    })
    (λ u w r a. a)
