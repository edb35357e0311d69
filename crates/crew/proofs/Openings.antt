-- The lines before there is a chip.
use Rattle.std.proofs.Common.{◌≡◌, ℕ, true, false, List, [], ◌∷◌, Some, None, Option, is_some, refl, sym, ap, ◌∙◌, subst}
use Rattle.std.proofs.lemmas.Bool.{both_ways}
use Rattle.crew.specs.Asks.{kind_asked}
use Rattle.crew.specs.Obeyed.{opened}
use Rattle.crew.specs.Sessions.{Opening, named, no_line, not_named}
use Rattle.crew.specs.declared.kind.Kind.{Kind}
use Rattle.crew.specs.declared.reply.Reply.{Reply}

-- with where they end: the kind, and the lines that are left
abbrev pub Opens : List (List ℕ) → List Reply → Option Kind × List (List ℕ) → Type 0
Opens bs ps e = Opening bs ps e.0 e.1

module _ {b : List ℕ} {bs left : List (List ℕ)} (answer : Reply × Option Kind) (is : bs ≡ b ∷ left) (was : answer ≡ opened (kind_asked b)) where
  -- a line that names no kind is passed over
  pub passed_over : is_some answer.1 ≡ false → (ps : List Reply) (e : Option Kind × List (List ℕ)) → Opens left ps e → Opens bs (answer.0 ∷ ps) e
  passed_over none ps e rest = subst (λ x. Opens x (answer.0 ∷ ps) e) (sym is) (by_kind (kind_asked b) refl)
    where
      by_kind : (o : Option Kind) → kind_asked b ≡ o → Opens (b ∷ left) (answer.0 ∷ ps) e
      by_kind None asked = subst (λ x. Opens (b ∷ left) (x ∷ ps) e) (sym (ap (λ x. x.0) (was ∙ ap opened asked))) (not_named asked rest)
      by_kind (Some k) asked = absurd (both_ways (is_some answer.1) none (ap (λ x. is_some x.1) (was ∙ ap opened asked)))

  -- and one that does ends them
  pub ended_here : is_some answer.1 ≡ true → Opens bs (answer.0 ∷ []) (answer.1, left)
  ended_here some = subst (λ x. Opens x (answer.0 ∷ []) (answer.1, left)) (sym is) (by_kind (kind_asked b) refl)
    where
      by_kind : (o : Option Kind) → kind_asked b ≡ o → Opens (b ∷ left) (answer.0 ∷ []) (answer.1, left)
      by_kind None asked = absurd (both_ways (is_some answer.1) (ap (λ x. is_some x.1) (was ∙ ap opened asked)) some)
      by_kind (Some k) asked = subst (λ x. Opens (b ∷ left) (x.0 ∷ []) (x.1, left)) (sym (was ∙ ap opened asked)) (named asked)

-- with no line left there is no kind
pub none_named : {bs left : List (List ℕ)} → bs ≡ [] → left ≡ [] → Opens bs [] (None, left)
none_named {bs} {left} e l = subst (λ x. Opens x [] (None, left)) (sym e) (subst (λ x. Opens [] [] (None, x)) (sym l) no_line)
