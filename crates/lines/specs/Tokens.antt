-- The tokens that a `Tokens` has still to give.
use Rattle.std.specs.Prelude.{ℕ, List}
use Rattle.lines.specs.Cuts.{pieces_left, placed}
use Rattle.lines.specs.declared.token.Tokens.{Tokens}

-- the bytes of each, and its place
abbrev pub tokens_left : Tokens → List (List ℕ × ℕ)
tokens_left t = placed t.place (pieces_left t.rest)
