use Rattle.std.proofs.Common.{◌≡◌}
use Rattle.lines.specs.Cuts.{pieces_left}
use Rattle.lines.specs.Lines.{numbers}
use Rattle.lines.specs.Numbers.{items}
use Rattle.lines.proofs.Pieces.{joined}
use Rattle.lines.proofs.line.all_numbers.Given as goal

abbrev pub invariant-loop-token : goal.invariant-loop-token
invariant-loop-token l = joined (items l.fields) (numbers (pieces_left l.token-iterator.rest)) ≡ numbers (pieces_left l.initial.tokens.rest)
