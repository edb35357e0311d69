-- What a call has to show at each of its transactions, and what a transaction may come to.
use Rattle.std.proofs.Common.{◌≡◌, ℕ, Bool, true, false, cond, eqb, ltb, List, [], ◌∷◌, length, Some, None, Option, sym, refl, ◌∙◌, subst, ap₂, arith}
use Rattle.std.proofs.lemmas.Bool.{eq-eqb, ne_eqb}
use Rattle.chip.specs.Chip.{Request, bad_length, does, good_length, latched, no_acknowledge, reacts, read, refreshed, reply, send, takes, with_held, write}
use Rattle.account.specs.Dialogue.{Dialogue, Follows, asks, ended, ends, stepped}
use Rattle.account.specs.History.{History, carried_in, carried_out}
use Rattle.chip.specs.Datasheet.{Datasheet}
use Rattle.chip.specs.declared.refusal.Who.{Who}
use Rattle.chip.specs.declared.refusal.Who.TheVariants.{Chip, Wire}
use Rattle.chip.specs.declared.state.State.{State}
use Rattle.chip.specs.declared.state.Held.{Held}
use Rattle.chip.specs.Registers.{number}
use Rattle.account.specs.Steps.{Along, Step, goes_on, stays}
use Rattle.wire.specs.Wire.{Reply, Went, answered, broke_after, broke_before, broken, by_chip, by_wire, done, unacknowledged}

-- P holds whatever the request comes to
pub record Ways (m : Datasheet) (c : State) (q : Request) (P : Bool → Reply → State → Type 0) : Type 0 where
  pub each : (b : Bool) (r : Reply) (c' : State) → Went m c q b r c' → P b r c'

module _ {A : Type 0} (m : Datasheet) (Q : A → State → History → Type 0) where
  -- what is to be shown of a dialogue at a chip and a history, so that Q holds at its end
  abbrev pub Wp : Dialogue A → State → History → Type 0
  Wp (ends a) c h = Q a c h
  Wp (asks q f) c h = Ways m c q (λ b r c'. Wp (f r) c' (cond b (carried_out q ∷ h) h))

  pub walked : {s : Dialogue A} {ss : List Step} {a : A} {c c' : State} (h : History) → Follows s ss a → Along m c ss c' → Wp s c h → Q a c' (carried_in ss h)
  walked h ended stays w = w
  walked h (stepped f) (goes_on g al) w = walked _ f al (w.each _ _ _ g)

  pub by_cond : (b : Bool) (s s' : Dialogue A) (c : State) (h : History) → (b ≡ true → Wp s c h) → (b ≡ false → Wp s' c h) → Wp (cond b s s') c h
  by_cond true s s' c h f g = f refl
  by_cond false s s' c h f g = g refl

same_does : {c c' : State} {bs bs' : List ℕ} → does c bs ≡ does c' bs' → (c ≡ c') × (bs ≡ bs')
same_does e = (cc, cc)

not_done : {c : State} {bs : List ℕ} → no_acknowledge ≡ does c bs → ⊥
not_done e = let z : ◌≡◌ {A = ℕ} 0 1 = cc in omega arith

not_done_either : {c : State} {bs : List ℕ} → bad_length ≡ does c bs → ⊥
not_done_either e = let z : ◌≡◌ {A = ℕ} 0 1 = cc in omega arith

module _ (m : Datasheet) (c : State) where
  went : {q : Request} {P : Bool → Reply → State → Type 0} → ((c' : State) (bs : List ℕ) → reacts m c q ≡ does c' bs → P true (answered bs) c')
      → ((w : Who) → P false (unacknowledged w) c) → P false broken c → ((c' : State) (bs : List ℕ) → reacts m c q ≡ does c' bs → P true broken c') → Ways m c q P
  went {q} {P} g k l n = record { each = go }
    where
      go : (b : Bool) (r : Reply) (c' : State) → Went m c q b r c' → P b r c'
      go b r c' (done e) = g _ _ e
      go b r c' by_wire = k Wire
      go b r c' (by_chip e) = k Chip
      go b r c' broke_before = l
      go b r c' (broke_after e) = n _ _ e

  -- a request of which the chip's answer is known
  pub went_exactly : {q : Request} {P : Bool → Reply → State → Type 0} (c₁ : State) (bs₁ : List ℕ) → reacts m c q ≡ does c₁ bs₁ → P true (answered bs₁) c₁
      → ((w : Who) → P false (unacknowledged w) c) → P false broken c → P true broken c₁ → Ways m c q P
  went_exactly {q} {P} c₁ bs₁ d g k l n = went
      (λ c' bs e. let p = same_does (sym d ∙ e) in subst (λ x. P true (answered x) c') p.1 (subst (λ x. P true (answered bs₁) x) p.0 g))
      k l
      (λ c' bs e. let p = same_does (sym d ∙ e) in subst (λ x. P true broken x) p.0 n)

  pub does_refresh : reacts m c (send m.refresh) ≡ does (refreshed c) []
  does_refresh = rw (eq-eqb m.refresh m.refresh refl)

  pub does_refresh_v : (m.refresh ≡ m.refresh_v → ⊥) → reacts m c (send m.refresh_v) ≡ does (latched c) []
  does_refresh_v ne = rw (ne_eqb m.refresh_v m.refresh (λ e. ne (sym e)), eq-eqb m.refresh_v m.refresh_v refl)

  reads_only : (g k w : Bool) (r : List ℕ) {c' : State} {bs : List ℕ} → cond g (cond k no_acknowledge (cond w (does c r) no_acknowledge)) bad_length ≡ does c' bs → (c ≡ c')
      × (r ≡ bs)
  reads_only true true w r e = absurd (not_done e)
  reads_only true false true r e = same_does e
  reads_only true false false r e = absurd (not_done e)
  reads_only false k w r e = absurd (not_done_either e)

  -- a read leaves the chip, and brings what it shows
  pub went_read : {a n : ℕ} {P : Bool → Reply → State → Type 0} → (reacts m c (read a n) ≡ does c (reply m c a n) → P true (answered (reply m c a n)) c)
      → ((w : Who) → P false (unacknowledged w) c) → P false broken c → (reacts m c (read a n) ≡ does c (reply m c a n) → P true broken c) → Ways m c (read a n) P
  went_read {a} {n} {P} g k l x = went
      (λ c' bs e. let p = reads_only (good_length n) (m.command a) (ltb 0 (m.width a)) (reply m c a n) e in
      let d : reacts m c (read a n) ≡ does c (reply m c a n) = e ∙ ap₂ does (sym p.0) (sym p.1) in
      subst (λ y. P true (answered y) c') p.1 (subst (λ y. P true (answered (reply m c a n)) y) p.0 (g d)))
      k l
      (λ c' bs e. let p = reads_only (good_length n) (m.command a) (ltb 0 (m.width a)) (reply m c a n) e in
      let d : reacts m c (read a n) ≡ does c (reply m c a n) = e ∙ ap₂ does (sym p.0) (sym p.1) in
      subst (λ y. P true broken y) p.0 (x d))

  takes_only : (b : Bool) (s : Held) {c' : State} {r : List ℕ} → cond b (does (with_held c s) []) no_acknowledge ≡ does c' r → (b ≡ true) × (with_held c s ≡ c')
  takes_only true s e = (refl, (same_does e).0)
  takes_only false s e = absurd (not_done e)

  writes_only : (a : ℕ) (bs : List ℕ) (o : Option Held) {c' : State} {r : List ℕ} → takes m c a bs o ≡ does c' r → (s : Held) × (o ≡ Some s) × (eqb (length bs) (m.width a) ≡ true)
      × (with_held c s ≡ c')
  writes_only a bs None e = absurd (not_done e)
  writes_only a bs (Some s) e = let p = takes_only (eqb (length bs) (m.width a)) s e in (s, refl, p.0, p.1)

  pub went_write : {a : ℕ} {bs : List ℕ} {P : Bool → Reply → State → Type 0} → ((s : Held) (r : List ℕ) → m.keeps a (number bs) c.held ≡ Some s → eqb (length bs) (m.width a)
      ≡ true → reacts m c (write a bs) ≡ does (with_held c s) r → P true (answered r) (with_held c s)) → ((w : Who) → P false (unacknowledged w) c) → P false broken c
      → ((s : Held) (r : List ℕ) → reacts m c (write a bs) ≡ does (with_held c s) r → P true broken (with_held c s)) → Ways m c (write a bs) P
  went_write {a} {bs} {P} g k l x = went
      (λ c' r e. let i = writes_only a bs (m.keeps a (number bs) c.held) e in
      subst (λ y. reacts m c (write a bs) ≡ does y r → P true (answered r) y) i.3 (λ e'. g i.0 r i.1 i.2 e') e)
      k l
      (λ c' r e. let i = writes_only a bs (m.keeps a (number bs) c.held) e in
      subst (λ y. reacts m c (write a bs) ≡ does y r → P true broken y) i.3 (λ e'. x i.0 r e') e)
