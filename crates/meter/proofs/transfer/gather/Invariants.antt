use Rattle.std.proofs.Common.{◌≡◌, ◌+◌, take, drop}
use Rattle.chip.specs.Laws.{replies_length}
use Rattle.meter.proofs.Gathering.{SoFar}
use Rattle.meter.proofs.transfer.gather.Given as goal

abbrev pub invariant-loop-span : goal.invariant-loop-span
invariant-loop-span g l =
    let ps = g.W.Make.Make.sheet.booking_reads in
    (l.end + replies_length (drop l.span-index ps) ≡ replies_length ps)
    × SoFar g.W.Wire.goes ps l.initial.wire l.initial.scratch l.span-index (take l.end l.replies) l.wire l.scratch
