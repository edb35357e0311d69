-- What holds of every way through a dialogue.
use Rattle.std.proofs.Common.{◌≡◌, Bool, true, false, cond, List, [], ◌∷◌, refl}
use Rattle.account.proofs.Walks.{Ways}
use Rattle.account.specs.Dialogue.{Dialogue, Follows, asks, ended, ends, stepped}
use Rattle.chip.specs.Datasheet.{Datasheet}
use Rattle.chip.specs.declared.state.State.{State}
use Rattle.account.specs.Steps.{Along, Step, goes_on, stays}
use Rattle.wire.specs.Wire.{Reply}

module _ {A : Type 0} where
  -- Q holds of every way through a dialogue
  abbrev pub All : (List Step → A → Type 0) → Dialogue A → Type 0
  All Q (ends a) = Q [] a
  All Q (asks q f) = (b : Bool) (r : Reply) → All (λ ss a. Q (record { asked = q; carried = b; got = r } ∷ ss) a) (f r)

  follow : {s : Dialogue A} {ss : List Step} {a : A} → Follows s ss a → (Q : List Step → A → Type 0) → All Q s → Q ss a
  follow ended Q p = p
  follow (stepped {q = q} {b = b} {r = r} f) Q p = follow f (λ ss. Q (record { asked = q; carried = b; got = r } ∷ ss)) (p b r)

  pub followed : (Q : List Step → A → Type 0) {s : Dialogue A} {ss : List Step} {a : A} → Follows s ss a → All Q s → Q ss a
  followed Q f p = follow f Q p

  pub map_all : (s : Dialogue A) (Q P : List Step → A → Type 0) → ((ss : List Step) (a : A) → Q ss a → P ss a) → All Q s → All P s
  map_all (ends a) Q P f p = f [] a p
  map_all (asks q g) Q P f p = λ b r. map_all (g r) (λ ss. Q (record { asked = q; carried = b; got = r } ∷ ss)) (λ ss. P (record { asked = q; carried = b; got = r } ∷ ss))
      (λ ss a. f (record { asked = q; carried = b; got = r } ∷ ss) a) (p b r)

  pub all_cond : (Q : List Step → A → Type 0) (b : Bool) (s s' : Dialogue A) → All Q s → All Q s' → All Q (cond b s s')
  all_cond Q true s s' p p' = p
  all_cond Q false s s' p p' = p'

  module _ (m : Datasheet) where
    -- the same with the chip at the end
    abbrev pub Wq : (List Step → A → State → Type 0) → Dialogue A → State → Type 0
    Wq Q (ends a) c = Q [] a c
    Wq Q (asks q f) c = Ways m c q (λ b r c'. Wq (λ ss. Q (record { asked = q; carried = b; got = r } ∷ ss)) (f r) c')

    walk_to : {s : Dialogue A} {ss : List Step} {a : A} {c c' : State} → Follows s ss a → Along m c ss c' → (Q : List Step → A → State → Type 0) → Wq Q s c → Q ss a c'
    walk_to ended stays Q w = w
    walk_to (stepped {q = q} {b = b} {r = r} f) (goes_on g al) Q w = walk_to f al (λ ss. Q (record { asked = q; carried = b; got = r } ∷ ss)) (w.each _ _ _ g)

    pub walked_to : (Q : List Step → A → State → Type 0) {s : Dialogue A} {ss : List Step} {a : A} {c c' : State} → Follows s ss a → Along m c ss c' → Wq Q s c → Q ss a c'
    walked_to Q f al w = walk_to f al Q w

    pub wq_cond : (Q : List Step → A → State → Type 0) (b : Bool) (s s' : Dialogue A) (c : State) → Wq Q s c → Wq Q s' c → Wq Q (cond b s s') c
    wq_cond Q true s s' c p p' = p
    wq_cond Q false s s' c p p' = p'

    pub wq_by : (Q : List Step → A → State → Type 0) (b : Bool) (s s' : Dialogue A) (c : State) → (b ≡ true → Wq Q s c) → (b ≡ false → Wq Q s' c) → Wq Q (cond b s s') c
    wq_by Q true s s' c f g = f refl
    wq_by Q false s s' c f g = g refl
