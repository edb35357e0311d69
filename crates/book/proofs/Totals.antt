-- Totals over entries, one entry on and at the end, and how large a product is.
use Rattle.std.proofs.Common.{◌≡◌, ℕ, zero, suc, ◌+◌, ◌*◌, ◌^◌, ◌<◌, ◌≤◌, Bool, List, [], ◌∷◌, length, get_or, drop, ℤ, pos, negsuc, ◌+ℤ◌, ◌*ℤ◌, neg_ℤ, nat_abs, sym, refl, ap, ◌∙◌, ap₂, arith, pow_mono, SFits, to_z, of_z}
use lib.IntN.{+ℤ_assoc, +ℤ_idr}
use mir.Syntax.{w128}
use Rattle.std.proofs.lemmas.Nat.{mul-le, pow_pos, shl_below}
use Rattle.std.proofs.lemmas.List.{at_drop_all, at_drop_more}
use Rattle.std.proofs.lemmas.Int.{to_z-of_z}
use Rattle.std.proofs.lemmas.Bool.{cond-true, eq-eqb, ne_eqb}
use Rattle.chip.specs.declared.entry.Entry.{Entry}
use Rattle.chip.specs.Registers.{in_mask}
use Rattle.book.specs.Bill.{sound_entries, spoilt_entries, weighed, weight, worth}

-- an unspoilt entry's worth
pub worth_of : (channel : ℕ) (e : Entry) (two_way : Bool) (n : ℕ) → e.spoilt ≡ 0 → two_way ≡ in_mask e.two_way channel → n ≡ weight e.rate two_way
    → get_or e.sums channel (pos 0) *ℤ pos n ≡ worth channel e
worth_of channel e two_way n sound t is =
    ap (λ k. get_or e.sums channel (pos 0) *ℤ pos k) (is ∙ ap (weight e.rate) t) ∙ sym (cond-true _ _ _ (eq-eqb _ _ sound))

module _ (channel : ℕ) (es : List Entry) (i : ℕ) where
  pub weighed_more : (d : Entry) (t w u : ℤ) → i < length es → w ≡ worth channel (get_or es i d) → u ≡ t +ℤ w
      → u +ℤ weighed channel (drop (i + 1) es) ≡ t +ℤ weighed channel (drop i es)
  weighed_more d t w u here is sum =
      ap (λ z. z +ℤ weighed channel (drop (i + 1) es)) (sum ∙ ap (λ z. t +ℤ z) is)
      ∙ +ℤ_assoc t (worth channel (get_or es i d)) (weighed channel (drop (i + 1) es))
      ∙ ap (λ z. t +ℤ z) (sym (at_drop_more (weighed channel) es i d here))

  pub weighed_all : (t : ℤ) → length es ≤ i → t +ℤ weighed channel (drop i es) ≡ t
  weighed_all t all = ap (λ z. t +ℤ z) (at_drop_all (weighed channel) es i all) ∙ +ℤ_idr t

module _ (es : List Entry) (i : ℕ) (d : Entry) (n : ℕ) (here : i < length es) where
  pub spoilt_more : ((get_or es i d).spoilt ≡ 0 → ⊥) → (n + 1) + spoilt_entries (drop (i + 1) es) ≡ n + spoilt_entries (drop i es)
  spoilt_more h = rw (at_drop_more spoilt_entries es i d here, ne_eqb _ _ h) (omega arith)

  pub spoilt_still : (get_or es i d).spoilt ≡ 0 → n + spoilt_entries (drop (i + 1) es) ≡ n + spoilt_entries (drop i es)
  spoilt_still h = rw (at_drop_more spoilt_entries es i d here, eq-eqb _ _ h) (omega arith)

pub spoilt_all : (es : List Entry) (i n : ℕ) → length es ≤ i → n + spoilt_entries (drop i es) ≡ n
spoilt_all es i n all = rw (at_drop_all spoilt_entries es i all) (omega arith)

-- each entry is billed or spoilt
pub sound_or_spoilt : (es : List Entry) → sound_entries es + spoilt_entries es ≡ length es
sound_or_spoilt [] = refl
sound_or_spoilt (e ∷ es) = let more = sound_or_spoilt es in grind arith

magnitude_negated : (n : ℕ) → nat_abs (neg_ℤ (pos n)) ≡ n
magnitude_negated zero = refl
magnitude_negated (suc n) = refl

pub scaled_at_most : (a b : ℕ) (z : ℤ) (s : ℕ) → nat_abs z ≤ a → s ≤ b → nat_abs (z *ℤ pos s) ≤ a * b
scaled_at_most a b (pos n) s h l = mul-le n s a b h l
scaled_at_most a b (negsuc n) s h l = let e = magnitude_negated (suc n * s) in let k = mul-le (suc n) s a b h l in omega arith

pub in_i128 : (z : ℤ) → nat_abs z < 2 ^ 127 → SFits w128 z
in_i128 (pos n) h = record { sfits = h }
in_i128 (negsuc n) h = record { sfits = omega arith }

-- a product of the machine, where it fits
pub product_is : (x y a b : ℤ) → x ≡ a → y ≡ b → nat_abs (a *ℤ b) < 2 ^ 127 → to_z w128 (of_z w128 (x *ℤ y)) ≡ a *ℤ b
product_is x y a b p q small = ap₂ (λ u v. to_z w128 (of_z w128 (u *ℤ v))) p q ∙ to_z-of_z w128 (a *ℤ b) (in_i128 _ small)

-- the parts of a millijoule
pub parts_few : (u k : ℕ) → u < 2 ^ 16 → k ≤ 64 → u * 2 ^ k < 2 ^ 80
parts_few u k h l = let e : 16 + k ≤ 80 = omega arith in let p : 2 ^ (16 + k) ≤ 2 ^ 80 = pow_mono e in omega (arith, shl_below u 16 k h)

pub parts_some : (u k : ℕ) → 1 ≤ u → 0 < u * 2 ^ k
parts_some u k h = let p = pow_pos k in omega (arith, mul-le 1 1 u (2 ^ k) h p)
