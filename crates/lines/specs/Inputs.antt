-- The lines that an `Input` has still to give.
use Rattle.std.specs.Prelude.{ℕ, List}
use Rattle.lines.specs.Cuts.{lines}
use Rattle.lines.specs.declared.input.Input.{Input}

abbrev pub lines_left : Input → List (List ℕ)
lines_left i = lines i.rest.now
