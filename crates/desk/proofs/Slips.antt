-- A slip that is out, by the rules of the calls: it fits its meter until it is spent.
use Rattle.std.proofs.Common.{◌≡◌, ℕ, ◌+◌, true, eqb, ◌≤◌, List, [], ◌∷◌, length, Some, None, sym, refl, ap, subst, arith}
use Rattle.std.proofs.lemmas.Bool.{and_from, eq-eqb}
use Rattle.account.proofs.CallsLeave.{refusal_leaves}
use Rattle.account.specs.CallRules.{RefusedOrTaken, RulesKept, all_answered, first_wrong, has_slip_out, tests}
use Rattle.account.specs.Dialogue.{Answer, Call, Condition, Meter, Slip, draw, drew, fits_slip, given_up, handed, is_open, look, looked, refused, set_up, slip_out, stored, write_off, wrote_off}
use Rattle.account.specs.Steps.{Step}
use Rattle.chip.specs.Datasheet.{Datasheet, Wanted}
use Rattle.chip.specs.declared.entry.Entry.{Entry}
use Rattle.chip.specs.declared.refusal.Refusal.{Refusal}
use Rattle.chip.specs.declared.refusal.Refusal.TheVariants.{SlipOut}

-- a draw hands out the open slip of its own meter
pub record HandedOpen (t t' : Meter) (p : Slip) : Type 0 where
  pub meter : p.meter ≡ t.meter
  pub fits : fits_slip t' p ≡ true

-- what is open has a slip out
slip_is_out : (t : Meter) (p : Slip) (k : Condition) → is_open t p k ≡ true → has_slip_out k ≡ true
slip_is_out t p (slip_out n) e = refl
slip_is_out t p k e = cc

no_steps : (ss : List Step) → length ss ≤ 0 → ss ≡ []
no_steps [] l = refl
no_steps (s ∷ ss) l = absurd (omega arith)

module _ (m : Datasheet) {places : ℕ} {es : List Entry} {ss : List Step} {t t' : Meter} where
  pub drawn_open : {p : Slip} → RulesKept m draw t places es ss t' (handed p) → HandedOpen t t' p
  drawn_open {p} k = record {
    meter = ap (λ x. x.meter) k.reason.0;
    fits = subst (λ x. fits_slip x p ≡ true) (sym k.reason.1) (subst (λ x. fits_slip (drew t) x ≡ true) (sym k.reason.0)
        (and_from (eqb t.meter t.meter) (eqb (t.last + 1) (t.last + 1)) (eq-eqb _ _ refl) (eq-eqb _ _ refl)));
  }

  -- with a slip out, what does not spend it leaves it open
  module _ (p : Slip) (fits : fits_slip t p ≡ true) where
    -- a draw is refused
    pub draw_refused : {r : Answer} → RulesKept m draw t places es ss t' r → (t' ≡ t) × (r ≡ refused SlipOut)
    draw_refused {r} k =
        let wrong : first_wrong (tests m draw t places es) ≡ Some SlipOut = rw (slip_is_out t p t.condition fits) refl in
        let is : r ≡ refused SlipOut = k.tested SlipOut wrong in
        ((subst (λ x. RefusedOrTaken m draw x t places es ss t') is k.reason).meter, is)

    -- any other call that is refused leaves all
    pub refusal_leaves_open : {q : Call} {e : Refusal} → (q ≡ draw → ⊥) → RulesKept m q t places es ss t' (refused e) → fits_slip t' p ≡ true
    refusal_leaves_open no_draw k = subst (λ x. fits_slip x p ≡ true) (sym (refusal_leaves m no_draw k)) fits

    pub set_up_leaves_open : (w : Wanted) (r : Answer) → RulesKept m (set_up w) t places es ss t' r → fits_slip t' p ≡ true
    set_up_leaves_open w (refused e) k = refusal_leaves_open (λ is. cc) k
    set_up_leaves_open w stored k = subst (λ x. fits_slip x p ≡ true) (sym k.reason) fits
    set_up_leaves_open w r k = absurd k.reason

    pub look_leaves_open : (ch q : ℕ) (r : Answer) → RulesKept m (look ch q) t places es ss t' r → fits_slip t' p ≡ true
    look_leaves_open ch q (refused e) k = refusal_leaves_open (λ is. cc) k
    look_leaves_open ch q (looked g) k = subst (λ x. fits_slip x p ≡ true) (sym k.reason) fits
    look_leaves_open ch q r k = absurd k.reason

    -- a write-off of the open slip is taken, and sends nothing
    pub write_off_taken : (r : Answer) → RulesKept m (write_off p) t places es ss t' r → (ss ≡ []) × (t' ≡ wrote_off t) × (r ≡ given_up)
    write_off_taken given_up k = (no_steps ss k.few, k.reason, refl)
    write_off_taken (refused e) k =
        let none_wrong : first_wrong (tests m (write_off p) t places es) ≡ None = rw fits refl in
        absurd (k.progress none_wrong (subst all_answered (sym (no_steps ss k.few)) tt) e refl)
    write_off_taken r k = absurd k.reason
