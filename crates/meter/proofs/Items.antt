-- The next item of a list that a loop goes over.
use Rattle.std.proofs.Common.{◌≡◌, ℕ, zero, suc, ◌+◌, ◌<◌, List, [], ◌∷◌, map, length, drop, get_or, sym, ap, ◌∙◌, subst, add-one, drop-cons, arith}
use Rattle.std.proofs.lemmas.List.{drop-map}
use Rattle.chip.specs.Laws.{Every}

-- where code holds the items in a form of its own, each stands for the next of the list
pub next_is : {A B : Type 0} (f : A → B) (xs : List A) (ys : List B) → map f xs ≡ ys → (i : ℕ) (d : A) → i < length xs
    → drop i ys ≡ f (get_or xs i d) ∷ drop (i + 1) ys
next_is f xs ys e i d h = ap (drop i) (sym e) ∙ drop-map f i xs ∙ ap (map f) (drop-cons xs i d h)
    ∙ ap (λ zs. f (get_or xs i d) ∷ zs) (sym (drop-map f (suc i) xs) ∙ ap (λ k. drop k (map f xs)) (sym (add-one i)) ∙ ap (drop (i + 1)) e)

-- what holds of all items holds of the next
pub next_has : {A : Type 0} (P : A → Type 0) (xs ys : List A) (i : ℕ) (x : A) → Every P xs → drop i xs ≡ x ∷ ys → P x
next_has P xs ys zero x all e = (subst (Every P) e all).0
next_has P [] ys (suc i) x all e = let z : ◌≡◌ {A = ℕ} 0 1 = cc in absurd (omega arith)
next_has P (w ∷ xs) ys (suc i) x all e = next_has P xs ys i x all.1 e
