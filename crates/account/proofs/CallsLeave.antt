-- What a call leaves of its meter, by its rules.
use Rattle.std.proofs.Common.{◌≡◌, ℕ, List, refl, ap}
use Rattle.account.specs.CallRules.{RefusedFor, RefusedOrTaken, RulesKept, Taken, condition_left}
use Rattle.account.specs.Dialogue.{Answer, Call, Meter, at, bill_for, billed, book, draw, entered, given_up, handed, look, looked, refused, set_up, stored, write_off}
use Rattle.account.specs.Steps.{Step}
use Rattle.chip.specs.Chip.{Request}
use Rattle.chip.specs.Datasheet.{Datasheet}
use Rattle.chip.specs.declared.entry.Entry.{Entry}
use Rattle.chip.specs.declared.refusal.Refusal.{Refusal}
use Rattle.chip.specs.declared.refusal.Refusal.TheVariants.{Broken, NoSlip, NotAcknowledged, Unreadable}
use Rattle.wire.specs.Wire.{Reply, broken, unacknowledged}

module _ (m : Datasheet) (t : Meter) (places : ℕ) (es : List Entry) (ss : List Step) (t' : Meter) where
  -- its number
  number_refused : (q : Call) (e : Refusal) → RefusedFor m q t places es ss t' e → t'.meter ≡ t.meter
  number_refused q (NotAcknowledged w a) p = ap (λ x. x.meter) p.meter
  number_refused q (Broken a) p = ap (λ x. x.meter) p.meter
  number_refused q Unreadable p = absurd p
  number_refused q NoSlip p = absurd p
  number_refused q e p = ap (λ x. x.meter) p.meter

  number_taken : (q : Call) (r : Answer) → Taken m q r t places es t' → t'.meter ≡ t.meter
  number_taken (set_up w) stored p = ap (λ x. x.meter) p
  number_taken draw (handed x) p = ap (λ x. x.meter) p.1
  number_taken (book x n) (entered e) p = ap (λ x. x.meter) p
  number_taken (write_off x) given_up p = ap (λ x. x.meter) p
  number_taken (look ch k) (looked g) p = ap (λ x. x.meter) p
  number_taken (bill_for kind ch u) (billed z n k) p = ap (λ x. x.meter) p.1
  number_taken q r p = absurd p

  number_stays : (q : Call) (r : Answer) → RefusedOrTaken m q r t places es ss t' → t'.meter ≡ t.meter
  number_stays q (refused e) p = number_refused q e p
  number_stays q r p = number_taken q r p

  -- all of it, where a call is refused that is no draw
  at_its_condition : (q : Call) → (q ≡ draw → ⊥) → (x : Request) (got : Reply) → t' ≡ at t (condition_left q x got t.condition) → t' ≡ t
  at_its_condition draw no_draw x got is = absurd (no_draw refl)
  at_its_condition q no_draw x got is = is

  all_stays : (q : Call) → (q ≡ draw → ⊥) → (e : Refusal) → RefusedFor m q t places es ss t' e → t' ≡ t
  all_stays q no_draw (NotAcknowledged w a) p = at_its_condition q no_draw p.asked (unacknowledged w) p.meter
  all_stays q no_draw (Broken a) p = at_its_condition q no_draw p.asked broken p.meter
  all_stays q no_draw Unreadable p = absurd p
  all_stays q no_draw NoSlip p = absurd p
  all_stays q no_draw e p = p.meter

module _ (m : Datasheet) {q : Call} {t : Meter} {places : ℕ} {es : List Entry} {ss : List Step} {t' : Meter} where
  pub keeps_number : {r : Answer} → RulesKept m q t places es ss t' r → t'.meter ≡ t.meter
  keeps_number {r} k = number_stays m t places es ss t' q r k.reason

  pub refusal_leaves : {e : Refusal} → (q ≡ draw → ⊥) → RulesKept m q t places es ss t' (refused e) → t' ≡ t
  refusal_leaves {e} no_draw k = all_stays m t places es ss t' q no_draw e k.reason
