-- What a line says.
use Rattle.std.specs.Prelude.{ℕ, cond, ◌&&◌, List, [], ◌∷◌, length, Some, None, Option, nat_le}
use Rattle.lines.specs.Cuts.{pieces}
use Rattle.lines.specs.Fields.{proper, worth}

-- a number before others
abbrev pub before : ℕ → Option (List ℕ) → Option (List ℕ)
before n None = None
before n (Some ns) = Some (n ∷ ns)

-- the numbers in some pieces; none if one is not proper
abbrev pub numbers : List (List ℕ) → Option (List ℕ)
numbers [] = Some []
numbers (p ∷ ps) = cond (proper p) (before (worth p) (numbers ps)) None

-- at most nine: no line takes more
abbrev pub few : Option (List ℕ) → Option (List ℕ)
few None = None
few (Some ns) = cond (nat_le (length ns) 9) (Some ns) None

-- a word and its fields
pub record Said : Type 0 where
  pub word : List ℕ
  pub fields : List ℕ

abbrev pub with_fields : (word : List ℕ) → Option (List ℕ) → Option Said
with_fields w None = None
with_fields w (Some ns) = Some (record { word = w; fields = ns })

-- the first piece is the word, the others are the fields
abbrev pub of_pieces : List (List ℕ) → Option Said
of_pieces [] = None
of_pieces (p ∷ ps) = with_fields p (few (numbers ps))

-- a line of 1 to 80 bytes; none if it cannot be read
abbrev pub said : List ℕ → Option Said
said bs = cond (nat_le 1 (length bs) && nat_le (length bs) 80) (of_pieces (pieces bs)) None
