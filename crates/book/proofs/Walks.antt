-- A walk over sums or entries: what is left decides, one step on and at the end.
use Rattle.std.proofs.Common.{◌≡◌, ℕ, zero, suc, ◌+◌, ◌<◌, ◌≤◌, Bool, true, false, cond, ◌&&◌, List, [], ◌∷◌, length, get_or, drop, ℤ, Option, Some, None, MatchOption, refl, sym, ap, ◌∙◌, arith}
use Rattle.std.specs.List.{AllWithin, HoldsAt}
use Rattle.std.proofs.lemmas.List.{at_drop_all, at_drop_more}
use Rattle.std.proofs.lemmas.Bool.{and_left, cond-false, cond-true, eq-eqb}
use Rattle.chip.specs.declared.entry.Entry.{Entry}
use Rattle.chip.specs.Datasheet.{Datasheet}
use Rattle.book.specs.Bill.{first_bad, holds, sum_holds, sums_hold}

module _ (m : Datasheet) (two_way : ℕ) (zs : List ℤ) (i : ℕ) (d z : ℤ) (here : i < length zs) (is : z ≡ get_or zs i d) where
  pub sum_refused : false ≡ sum_holds m two_way i z → false ≡ sums_hold m two_way i (drop i zs)
  sum_refused e = sym (at_drop_more (sums_hold m two_way i) zs i d here ∙ and_left _ _ (ap (sum_holds m two_way i) (sym is) ∙ sym e))

  pub sum_passed : true ≡ sum_holds m two_way i z → sums_hold m two_way (i + 1) (drop (i + 1) zs) ≡ sums_hold m two_way i (drop i zs)
  sum_passed e =
      ap (λ b. b && sums_hold m two_way (i + 1) (drop (i + 1) zs)) (e ∙ ap (sum_holds m two_way i) is)
      ∙ sym (at_drop_more (sums_hold m two_way i) zs i d here)

pub sums_passed : (m : Datasheet) (two_way : ℕ) (zs : List ℤ) (i : ℕ) → length zs ≤ i → i ≡ 4 → true ≡ sums_hold m two_way i (drop i zs)
sums_passed m two_way zs i all four = sym (at_drop_all (sums_hold m two_way i) zs i all ∙ eq-eqb i 4 four)

module _ (m : Datasheet) where
  all_hold : (es : List Entry) (n : ℕ) → AllWithin (λ e. true ≡ holds m e) es 0 (length es) → first_bad m n es ≡ None
  all_hold [] n all = refl
  all_hold (e ∷ es) n all =
      cond-true _ _ _ (sym (all 0 e (omega arith) (omega arith))) ∙ all_hold es (n + 1) (λ k d l h. all (suc k) d (omega arith) (omega arith))

  one_fails : (es : List Entry) (n i : ℕ) → i < length es → HoldsAt (λ e. false ≡ holds m e) es i → AllWithin (λ e. true ≡ holds m e) es 0 i
      → first_bad m n es ≡ Some (n + i)
  one_fails [] n i l fails all = absurd (omega arith)
  one_fails (e ∷ es) n zero l fails all = cond-false _ _ _ (sym (fails e)) ∙ ap Some (omega arith)
  one_fails (e ∷ es) n (suc i) l fails all =
      cond-true _ _ _ (sym (all 0 e (omega arith) (omega arith)))
      ∙ one_fails es (n + 1) i (omega arith) fails (λ k d l h. all (suc k) d (omega arith) (omega arith))
      ∙ ap Some (omega arith)

  -- what a search finds is the first place that does not hold
  pub first_found : (es : List Entry) (r : Option ℕ) → MatchOption r (AllWithin (λ e. true ≡ holds m e) es 0 (length es))
      (λ i. (i < length es) × HoldsAt (λ e. false ≡ holds m e) es i × AllWithin (λ e. true ≡ holds m e) es 0 i) → r ≡ first_bad m 0 es
  first_found es None all = sym (all_hold es 0 all)
  first_found es (Some i) (l, fails, all) = sym (one_fails es 0 i l fails all ∙ ap Some (omega arith))

-- a place that is refused is one of the entries'
pub bad_within : (m : Datasheet) (es : List Entry) (n k : ℕ) → Some k ≡ first_bad m n es → k < n + length es
bad_within m [] n k e = let z : ◌≡◌ {A = ℕ} 0 1 = cc in omega arith
bad_within m (e ∷ es) n k is = by (holds m e) (bad_within m es (n + 1) k) is
  where
    by : (b : Bool) → (Some k ≡ first_bad m (n + 1) es → k < (n + 1) + length es) → Some k ≡ cond b (first_bad m (n + 1) es) (Some n) → k < n + length (e ∷ es)
    by true more is = let later = more is in omega arith
    by false more is = let here : k ≡ n = cc in omega arith
