use Rattle.std.proofs.Common.{◌≤◌, length}
use Rattle.console.proofs.metered.serve_lines.Given as goal
use Rattle.lines.specs.Cuts.{lines}

abbrev pub invariant-loop-line : goal.invariant-loop-line
invariant-loop-line g l =
    (goal.iterator-loop-line g).can_next l.input × (goal.iterator-loop-line g).is_finite l.input
    × (length (lines l.input.rest.now) ≤ length (lines l.initial.input.rest.now))
