use Rattle.std.proofs.Common.{◌≡◌}
use Rattle.chip.specs.Chip.{add_all, any_leaves}
use Rattle.chip.proofs.Cycles.{so_far, left_so_far}
use Rattle.chip.proofs.state.add_all.Given as goal

abbrev pub invariant-loop-i : goal.invariant-loop-i
invariant-loop-i g l =
    (so_far g.M.Make.sheet l.settings l.i l.codes l.channels ≡ add_all g.M.Make.sheet l.settings 0 l.codes l.initial.channels)
    × (left_so_far g.M.Make.sheet l.settings l.left l.i l.codes l.channels ≡ any_leaves g.M.Make.sheet l.settings 0 l.codes l.initial.channels)
