-- A text cut into lines, and a line cut at its commas.
use Rattle.std.specs.Prelude.{ℕ, ◌+◌, cond, List, [], ◌∷◌, length, take, Some, None, Option, ◌==◌}
use Rattle.std.specs.List.{onto_first, slice_split}
use denote.Ref.{Bor}

-- the part of an input that is read: its first 64 KiB
abbrev pub read_part : List ℕ → List ℕ
read_part text = take 65536 text

-- the lines of a text: only LF ends one, and the last needs none
abbrev pub lines : List ℕ → List (List ℕ)
lines [] = []
lines (b ∷ bs) = cond (b == 10) ([] ∷ lines bs) (onto_first b (lines bs))

-- a line cut at its commas
abbrev pub pieces : List ℕ → List (List ℕ)
pieces bs = slice_split (λ b. b == 44) bs

-- the pieces in the rest of a line; after the last there is no rest
abbrev pub pieces_left : Option (Bor (List ℕ)) → List (List ℕ)
pieces_left None = []
pieces_left (Some rest) = pieces rest.now

-- pieces and where they start: the first at `place`, and each of the others after the one before and its comma
abbrev pub placed : (place : ℕ) → List (List ℕ) → List (List ℕ × ℕ)
placed place [] = []
placed place (p ∷ ps) = (p, place) ∷ placed (place + (length p + 1)) ps

-- how far it is from the start of the rest to past its end
abbrev pub extent : Option (Bor (List ℕ)) → ℕ
extent None = 0
extent (Some rest) = length rest.now + 1
