-- What comes first in a text that is cut at a mark.
use Rattle.std.proofs.Common.{◌≡◌, ◌≢◌, ℕ, ◌+◌, ◌<◌, ◌≤◌, ◌⊎◌, List, [], ◌∷◌, ◌++◌, map, length, take, Some, None, Option, Bor, All, refl, sym, ap, ◌∙◌, inl, inr, arith, rules}
use Rattle.std.proofs.lemmas.List.{take_all}
use Rattle.std.proofs.lemmas.Bool.{cond-false, ne_eqb}
use Rattle.std.proofs.lemmas.List.Elements.{All-head, All-tail, All-weaker}
use Rattle.std.proofs.lemmas.List.Splits.{slice_split_at, slice_split_none}
use Rattle.std.specs.List.{onto_first, slice_range}
use Rattle.std.specs.Option.{MatchOption, unwrap_or}
use Rattle.lines.specs.Cuts.{lines, pieces, pieces_left, placed}

-- the first n bytes of a text, or all of it where there are no more
pub first_bytes : (n : ℕ) (text : Bor (List ℕ)) (o : Option (Bor (List ℕ)))
    → MatchOption o ((n < 0) ⊎ (length text.now < n)) (λ x. (0 ≤ n) × (n ≤ length text.now) × (x.now ≡ slice_range text.now 0 n) × (length x.now + 0 ≡ n))
    → (unwrap_or o text).now ≡ take n text.now
first_bytes n text None (inl below) = absurd (omega arith)
first_bytes n text None (inr short) = sym (take_all n text.now (omega arith))
first_bytes n text (Some x) found = found.2 ∙ search rules

-- a text is a piece, and the mark and the rest if there is a rest
abbrev Whole : (mark : ℕ) (text piece : List ℕ) → Option (Bor (List ℕ)) → Type 0
Whole mark text piece rest = MatchOption rest (text ≡ piece) (λ r. text ≡ piece ++ mark ∷ r.now)

pub first_piece : (line piece : List ℕ) (rest : Option (Bor (List ℕ))) → All (λ b. b ≢ 44) piece → Whole 44 line piece rest → pieces line ≡ piece ∷ pieces_left rest
first_piece line piece None other whole = ap pieces whole ∙ slice_split_none _ piece (All-weaker _ _ (λ b. ne_eqb b 44) piece other)
first_piece line piece (Some r) other whole = ap pieces whole ∙ slice_split_at _ piece 44 r.now (All-weaker _ _ (λ b. ne_eqb b 44) piece other) refl

line_on : (b : ℕ) (bs : List ℕ) → b ≢ 10 → lines (b ∷ bs) ≡ onto_first b (lines bs)
line_on b bs other = cond-false _ _ _ (ne_eqb b 10 other)

ended_line : (line rest : List ℕ) → All (λ b. b ≢ 10) line → lines (line ++ 10 ∷ rest) ≡ line ∷ lines rest
ended_line [] rest other = refl
ended_line (b ∷ bs) rest other = line_on b (bs ++ 10 ∷ rest) (All-head (λ x. x ≢ 10) b bs other) ∙ ap (onto_first b) (ended_line bs rest (All-tail (λ x. x ≢ 10) b bs other))

last_line : (line : List ℕ) → 0 < length line → All (λ b. b ≢ 10) line → lines line ≡ line ∷ []
last_line [] some other = absurd (omega arith)
last_line (b ∷ []) some other = line_on b [] (All-head (λ x. x ≢ 10) b [] other)
last_line (b ∷ c ∷ cs) some other = line_on b (c ∷ cs) (All-head (λ x. x ≢ 10) b (c ∷ cs) other) ∙ ap (onto_first b) (last_line (c ∷ cs) (omega arith) (All-tail (λ x. x ≢ 10) b (c ∷ cs) other))

pub first_line : (text line : List ℕ) (rest : Option (Bor (List ℕ))) (later none : Bor (List ℕ)) → 0 < length text → All (λ b. b ≢ 10) line → Whole 10 text line rest
    → later ≡ unwrap_or rest none → none.now ≡ [] → lines text ≡ line ∷ lines later.now
first_line text line None later none some other whole is empty =
    ap lines whole ∙ last_line line (rw whole at some) other ∙ ap (λ bs. line ∷ lines bs) (sym (ap (λ x. x.now) is ∙ empty))
first_line text line (Some r) later none some other whole is empty = ap lines whole ∙ ended_line line r.now other ∙ ap (λ x. line ∷ lines x.now) (sym is)

-- placed pieces are those pieces
placed_pieces : (place : ℕ) (ps : List (List ℕ)) → map (λ (p : List ℕ × ℕ). p.0) (placed place ps) ≡ ps
placed_pieces place [] = refl
placed_pieces place (p ∷ ps) = ap (λ qs. p ∷ qs) (placed_pieces (place + (length p + 1)) ps)

pub next_piece : (i j : ℕ) (ps qs : List (List ℕ)) (t : List ℕ × ℕ) → placed i ps ≡ t ∷ placed j qs → ps ≡ t.0 ∷ qs
next_piece i j ps qs t e = sym (placed_pieces i ps) ∙ ap (map (λ p. p.0)) e ∙ ap (λ xs. t.0 ∷ xs) (placed_pieces j qs)

pub no_piece : (i : ℕ) (ps : List (List ℕ)) → placed i ps ≡ [] → ps ≡ []
no_piece i ps e = sym (placed_pieces i ps) ∙ ap (map (λ p. p.0)) e
