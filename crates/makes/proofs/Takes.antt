-- What a cursor takes off the replies.
use Rattle.std.proofs.Common.{◌≡◌, ℕ, ◌+◌, ◌*◌, ◌≤◌, min, Bool, List, [], ◌∷◌, take, drop, ℤ, ap, ◌∙◌, ap₂, arith, drop-drop}
use Rattle.chip.specs.Registers.{in_mask, number, register_at, value_of}
use Rattle.makes.specs.Table.{sums_in}

-- a cursor that stands at a place goes on by what is taken
pub moved : (bs : List ℕ) {rest rest' : List ℕ} (at w next : ℕ) → rest ≡ drop at bs → rest' ≡ drop w rest → at + w ≡ next → rest' ≡ drop next bs
moved bs at w next here on sum = on ∙ ap (drop w) here ∙ drop-drop w at bs ∙ ap (λ k. drop k bs) sum

-- what it takes is the register there
pub taken : (bs : List ℕ) {n : ℕ} {rest : List ℕ} (at w : ℕ) → rest ≡ drop at bs → n ≡ number (take w rest) → n ≡ register_at at w bs
taken bs at w here got = got ∙ ap (λ r. number (take w r)) here

-- and as a sum, with its sign
pub taken_sum : (bs : List ℕ) {z : ℤ} {rest : List ℕ} (at w : ℕ) {b b' : Bool} → w ≤ 7 → rest ≡ drop at bs → b ≡ b' → z ≡ value_of (8 * min w 7) b (number (take (min w 7) rest))
    → z ≡ value_of (8 * w) b' (register_at at w bs)
taken_sum bs {z} {rest} at w {b} {b'} few here way got =
    let whole : min w 7 ≡ w = omega arith in
    got ∙ ap (λ k. value_of (8 * k) b (number (take k rest))) whole ∙ ap₂ (λ x r. value_of (8 * w) x (number (take w r))) way here

pub moved_sum : (bs : List ℕ) {rest rest' : List ℕ} (at w next : ℕ) → w ≤ 7 → rest ≡ drop at bs → rest' ≡ drop (min w 7) rest → at + w ≡ next → rest' ≡ drop next bs
moved_sum bs {rest} at w next few here on sum = let whole : min w 7 ≡ w = omega arith in moved bs at w next here (on ∙ ap (λ k. drop k rest) whole) sum

-- the sums from a place on are those of what stands from that place on
pub sums_from : (bytes bits two_way at : ℕ) (bs : List ℕ) → sums_in bytes bits two_way 0 (drop at bs) ≡ sums_in bytes bits two_way at bs
sums_from bytes bits two_way at bs =
    λ i. one 0 0 at (omega arith) i ∷ one 1 (0 + bytes) (at + bytes) (omega arith) i ∷ one 2 (0 + 2 * bytes) (at + 2 * bytes) (omega arith) i
    ∷ one 3 (0 + 3 * bytes) (at + 3 * bytes) (omega arith) i ∷ []
  where
    one : (ch k next : ℕ) → at + k ≡ next → value_of bits (in_mask two_way ch) (register_at k bytes (drop at bs)) ≡ value_of bits (in_mask two_way ch) (register_at next bytes bs)
    one ch k next e = ap (λ r. value_of bits (in_mask two_way ch) (number (take bytes r))) (drop-drop k at bs ∙ ap (λ j. drop j bs) e)
