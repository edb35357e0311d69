-- The numbers so far in a line, and those to come.
use Rattle.std.proofs.Common.{◌≡◌, ℕ, ◌≤◌, Bool, true, false, cond, ◌&&◌, leb, List, [], ◌∷◌, ◌++◌, length, Some, None, Ok, Err, Option, Result, sym, refl, ap, ◌∙◌, append_assoc, append-nil, length-append, arith}
use Rattle.std.proofs.lemmas.Bool.Decides.{nat_tests}
use Rattle.chip.specs.declared.refusal.Refusal.{Refusal}
use Rattle.chip.specs.declared.refusal.Refusal.TheVariants.{Unreadable}
use Rattle.lines.specs.Cuts.{pieces}
use Rattle.lines.specs.Fields.{field_of, proper, worth}
use Rattle.lines.specs.Lines.{before, few, numbers, of_pieces, said, with_fields}

-- numbers so far, and those to come
abbrev pub joined : List ℕ → Option (List ℕ) → Option (List ℕ)
joined xs None = None
joined xs (Some ns) = Some (xs ++ ns)

joined_more : (xs : List ℕ) (n : ℕ) (o : Option (List ℕ)) → joined xs (before n o) ≡ joined (xs ++ n ∷ []) o
joined_more xs n None = refl
joined_more xs n (Some ns) = ap Some (sym (append_assoc xs (n ∷ []) ns))

-- nine numbers and one more are too many
too_many : (xs : List ℕ) (n : ℕ) (o : Option (List ℕ)) → length xs ≡ 9 → few (joined xs (before n o)) ≡ None
too_many xs n None e = refl
too_many xs n (Some ns) e = grind (arith, nat_tests, length-append {A = ℕ})

few_enough : (xs : List ℕ) → length xs ≤ 9 → few (joined xs (Some [])) ≡ Some xs
few_enough xs h = ap (λ ys. few (Some ys)) (append-nil xs) ∙ grind (arith, nat_tests)

-- a field, and the numbers after it
abbrev with_field : Result ℕ Refusal → Option (List ℕ) → Option (List ℕ)
with_field (Ok n) o = before n o
with_field (Err r) o = None

by_test : (good : Bool) (w : ℕ) (o : Option (List ℕ)) → cond good (before w o) None ≡ with_field (cond good (Ok w) (Err Unreadable)) o
by_test true w o = refl
by_test false w o = refl

unreadable : (good : Bool) (w : ℕ) (r : Refusal) → ◌≡◌ {A = Result ℕ Refusal} (Err r) (cond good (Ok w) (Err Unreadable)) → r ≡ Unreadable
unreadable true w r e = cc
unreadable false w r e = cc

-- a loop over the pieces ps: xs are the numbers so far, `all` is what the whole comes to
module _ (xs : List ℕ) (ps : List (List ℕ)) (all : Option (List ℕ)) (whole : joined xs (numbers ps) ≡ all) where
  pub at_the_end : ps ≡ [] → length xs ≤ 9 → few all ≡ Some xs
  at_the_end none h = ap few (sym whole ∙ ap (λ qs. joined xs (numbers qs)) none) ∙ few_enough xs h

  module _ (text : List ℕ) (qs : List (List ℕ)) (first : ps ≡ text ∷ qs) where
    to_come : all ≡ joined xs (with_field (field_of text) (numbers qs))
    to_come = sym whole ∙ ap (joined xs) (ap numbers first ∙ by_test (proper text) (worth text) (numbers qs))

    pub one_number_more : (n : ℕ) (ys : List ℕ) → Ok n ≡ field_of text → ys ≡ xs ++ n ∷ [] → joined ys (numbers qs) ≡ all
    one_number_more n ys e more = rw more (sym (joined_more xs n (numbers qs)) ∙ sym (rw (← e) at to_come))

    pub one_too_many : (n : ℕ) → Ok n ≡ field_of text → length xs ≡ 9 → few all ≡ None
    one_too_many n e full = ap few (rw (← e) at to_come) ∙ too_many xs n (numbers qs) full

    pub not_a_number : (r : Refusal) → Err r ≡ field_of text → (r ≡ Unreadable) × (few all ≡ None)
    not_a_number r e = (unreadable (proper text) (worth text) r e, ap few (rw (← e) at to_come))

-- a line of a good length says its first piece and the numbers in the others
pub said_is : (line text : List ℕ) (ps : List (List ℕ)) → 1 ≤ length line → length line ≤ 80 → pieces line ≡ text ∷ ps → said line ≡ with_fields text (few (numbers ps))
said_is line text ps some short first = ap (λ qs. cond (leb 1 (length line) && leb (length line) 80) (of_pieces qs) None) first ∙ grind (arith, nat_tests)
