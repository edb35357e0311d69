use Rattle.std.proofs.Common.{◌≡◌, ◌*◌, ◌^◌, ◌≤◌, drop, ◌+ℤ◌, nat_abs}
use Rattle.book.specs.Bill.{weighed}
use Rattle.book.proofs.bill.weighed.Given as goal

abbrev pub invariant-loop-entry : goal.invariant-loop-entry
invariant-loop-entry l =
    (nat_abs l.total ≤ 2 ^ 71 * l.entry-index)
    × (l.total +ℤ weighed l.channel (drop l.entry-index l.entries) ≡ weighed l.channel l.entries)
