use Rattle.std.proofs.Common.{◌≡◌, drop}
use Rattle.book.specs.Bill.{sums_hold}
use Rattle.book.proofs.ranges.sums_hold.Given as goal

-- the sums that are left decide
abbrev pub invariant-loop-channel : goal.invariant-loop-channel
invariant-loop-channel g l =
    sums_hold g.M.Make.sheet l.two_way l.channel (drop l.channel l.sums) ≡ sums_hold g.M.Make.sheet l.two_way 0 l.sums
