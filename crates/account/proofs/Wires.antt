-- The direct and the scripted wire keep the meaning, and on any wire that does, steps are a run.
use Rattle.std.proofs.Common.{◌≡◌, ℕ, ◌^◌, ◌<◌, Bool, true, List, [], ◌∷◌, length, sym, refl, ap, ◌∙◌, subst, arith}
use Rattle.std.proofs.lemmas.Bool.{both_ways}
use Rattle.account.proofs.Assembly.{every_run}
use Rattle.account.proofs.CallsAreTrueToChip.{always_true_to_chip}
use Rattle.account.proofs.CallsKeepRules.{rules_always}
use Rattle.account.specs.Calls.{Added, OwnScratch, scratch_after, Begun, CarriesRuns, Followed, MadeCall, MadeCycle, MadeSteps}
use Rattle.chip.specs.Chip.{Request, address_of, fresh_chip, sized}
use Rattle.account.specs.Dialogue.{Answer, Call, Meter, Way, asks, dialogue, ended, ends, new_meter, stepped}
use Rattle.account.specs.History.{History, Reached, called, carried_in, cycle_came, cycle_passed, entries_after, happened_after, made}
use Rattle.chip.specs.Laws.{Lawful}
use Rattle.chip.specs.Datasheet.{Datasheet}
use Rattle.chip.specs.declared.entry.Entry.{Entry}
use Rattle.chip.specs.declared.refusal.Refusal.{Refusal}
use Rattle.chip.specs.declared.refusal.Who.{Who}
use Rattle.chip.specs.declared.refusal.Refusal.TheVariants.{Broken, NotAcknowledged}
use Rattle.chip.specs.Refusals.{number_of}
use Rattle.chip.specs.declared.state.State.{State}
use Rattle.chip.specs.declared.state.Codes.{Codes}
use Rattle.chip.specs.Registers.{number}
use Rattle.account.specs.Statements.{Statements}
use Rattle.account.specs.Steps.{Along, Step, Trip, at_rest, goes_on, onward, stays}
use Rattle.wire.specs.Wire.{Goes, Heard, IsWire, Passes, Reply, Transacted, answered, broken, denied, heard, told, too_short_or_long, transacted, unacknowledged}

module _ (m : Datasheet) {W : Type 0} {chip_of : W → State} {goes : Goes W} {passes : Passes W} (is : IsWire m chip_of goes passes) where
  pub trip_along : {u w : W} {ss : List Step} → Trip goes u ss w → Along m (chip_of u) ss (chip_of w)
  trip_along at_rest = stays
  trip_along (onward g t) = goes_on (is.meant _ _ _ _ _ g) (trip_along t)

  module _ (law : Lawful m) where
    -- the code need show no more than its steps
    pub made_call : {q : Call} {t : Meter} {u : W} {places : ℕ} {es : List Entry} {s : List ℕ} {t' : Meter} {w : W} {es' : List Entry} {s' : List ℕ} {r : Answer}
        → MadeSteps m goes q t u places es s t' w es' s' r → MadeCall m chip_of goes q t u places es s t' w es' s' r
    made_call {q} {t} {u} {places} {es} {s} {t'} {w} {es'} {s'} {r} st = record {
      made = st;
      chip = trip_along st.trip;
      rules = rules_always m law q t t' places es st.steps r st.follows;
      true_to_chip = always_true_to_chip m law q t t' (chip_of u) (chip_of w) places es st.steps r st.follows (trip_along st.trip);
      run = run;
    }
      where
        run : (number last : ℕ) (h : History) → last < 2 ^ 32 → Reached m places number last t (chip_of u) es h
            → Reached m places number last t' (chip_of w) es' (happened_after r (carried_in st.steps h))
            × Statements m places number last t' (chip_of w) es' (happened_after r (carried_in st.steps h))
        run number last h l reached =
            let on = subst (λ x. Reached m places number last t' (chip_of w) x (happened_after r (carried_in st.steps h))) (sym st.the_book)
            (called q reached st.follows (trip_along st.trip)) in
            (on, every_run m law places number last t' (chip_of w) es' _ l on)

    pub made_cycle : {ks : List Codes} {t : Meter} {u : W} {t' : Meter} {w : W} → length ks ≡ 4 → passes u ks w → t' ≡ t → MadeCycle m chip_of passes ks t u t' w
    made_cycle {ks} {t} {u} {t'} {w} four p e = record { wire = p; chip = is.cycle u w ks p; meter = e; run = run }
      where
        run : (places number last : ℕ) (es : List Entry) (h : History) → last < 2 ^ 32 → Reached m places number last t (chip_of u) es h
            → Reached m places number last t' (chip_of w) es (cycle_came ks ∷ h) × Statements m places number last t' (chip_of w) es (cycle_came ks ∷ h)
        run places number last es h l reached =
            let on =
            subst (λ x. Reached m places number last x (chip_of w) es (cycle_came ks ∷ h)) (sym e) (subst (λ x. Reached m places number last t x es (cycle_came ks ∷ h))
            (sym (is.cycle u w ks p)) (cycle_passed ks four reached)) in
            (on, every_run m law places number last t' (chip_of w) es _ l on)

    pub begun : {number last : ℕ} {u w : W} {t : Meter} → w ≡ u → t ≡ new_meter number last → Begun m chip_of number last u t w
    begun {number} {last} {u} {w} {t} same new = record { wire = same; meter = new; run = run }
      where
        run : (places : ℕ) → last < 2 ^ 32 → chip_of u ≡ fresh_chip m → Reached m places number last t (chip_of w) [] [] × Statements m places number last t (chip_of w) [] []
        run places l fresh =
            let on =
            subst (λ x. Reached m places number last x (chip_of w) [] []) (sym new) (subst (λ x. Reached m places number last (new_meter number last) x [] [])
            (sym (ap chip_of same ∙ fresh)) made) in
            (on, every_run m law places number last t (chip_of w) [] [] l on)

-- a part of a dialogue that ends at once, and one that asks first
pub ends_followed : {W : Type 0} {goes : Goes W} {u : W} {t : Meter} {r : Answer} → Followed goes (ends (t, r)) u t u r
ends_followed = record { steps = []; follows = ended; trip = at_rest }

pub asks_followed : {W : Type 0} (goes : Goes W) {u v w : W} (q : Request) (f : Reply → Way) (b : Bool) (x : Reply) {t : Meter} {r : Answer} → goes u q b x v
    → Followed goes (f x) v t w r → Followed goes (asks q f) u t w r
asks_followed goes q f b x g p = record { steps = record { asked = q; carried = b; got = x } ∷ p.steps; follows = stepped p.follows; trip = onward g p.trip }

-- what a wire's promise tells the meter, by what was heard
pub went_so : {W : Type 0} (goes : Goes W) (q : Request) → sized q ≡ true → {u w : W} {h : Heard} → Transacted goes u q h w → (b : Bool) × (r : Reply) × goes u q b r w × (h ≡ told q r)
went_so goes q ok (too_short_or_long bad) = absurd (both_ways (sized q) bad ok)
went_so goes q ok (transacted good g) = (_, _, g, refl)

module _ (q : Request) where
  pub heard_answered : (r : Reply) {bs : List ℕ} → told q r ≡ heard bs → r ≡ answered bs
  heard_answered (answered x) {bs} e = let p : x ≡ bs = cc in ap answered p
  heard_answered (unacknowledged x) e = let z : ◌≡◌ {A = ℕ} 0 1 = cc in absurd (omega arith)
  heard_answered broken e = let z : ◌≡◌ {A = ℕ} 0 1 = cc in absurd (omega arith)

  heard_nack : (r : Reply) {x : Who} {a : ℕ} → told q r ≡ denied (NotAcknowledged x a) → (r ≡ unacknowledged x) × (address_of q ≡ a)
  heard_nack (answered y) e = let z : ◌≡◌ {A = ℕ} 0 1 = cc in absurd (omega arith)
  heard_nack (unacknowledged y) {x} {a} e = let p : y ≡ x = cc in let k : address_of q ≡ a = cc in (ap unacknowledged p, k)
  heard_nack broken e = let z : ◌≡◌ {A = ℕ} 0 1 = cc in absurd (omega arith)

  heard_break : (r : Reply) {a : ℕ} → told q r ≡ denied (Broken a) → (r ≡ broken) × (address_of q ≡ a)
  heard_break (answered y) e = let z : ◌≡◌ {A = ℕ} 0 1 = cc in absurd (omega arith)
  heard_break (unacknowledged y) e = let z : ◌≡◌ {A = ℕ} 0 1 = cc in absurd (omega arith)
  heard_break broken {a} e = let k : address_of q ≡ a = cc in (refl, k)

module _ {W : Type 0} (goes : Goes W) (q : Request) (ok : sized q ≡ true) (f : Reply → Way) {u w : W} {h : Heard} (t : Transacted goes u q h w) where
  -- answered, the dialogue goes on; refused, it ends as the dialogue says
  pub answered_on : {bs : List ℕ} {x : W} {m : Meter} {r : Answer} → h ≡ heard bs → Followed goes (f (answered bs)) w m x r → Followed goes (asks q f) u m x r
  answered_on {x = x} {m} {r} e p = let g =
      went_so goes q ok t in asks_followed goes q f g.0 g.1 g.2 (subst (λ y. Followed goes (f y) w m x r) (sym (heard_answered q g.1 (sym g.3 ∙ e))) p)

  pub nacked_on : {y : Who} {a : ℕ} {x : W} {m : Meter} {r : Answer} → h ≡ denied (NotAcknowledged y a) → (address_of q ≡ a → Followed goes (f (unacknowledged y)) w m x r)
      → Followed goes (asks q f) u m x r
  nacked_on {x = x} {m} {r} e p = let g = went_so goes q ok t in let k =
      heard_nack q g.1 (sym g.3 ∙ e) in asks_followed goes q f g.0 g.1 g.2 (subst (λ y. Followed goes (f y) w m x r) (sym k.0) (p k.1))

  pub broken_on : {a : ℕ} {x : W} {m : Meter} {r : Answer} → h ≡ denied (Broken a) → (address_of q ≡ a → Followed goes (f broken) w m x r) → Followed goes (asks q f) u m x r
  broken_on {x = x} {m} {r} e p = let g = went_so goes q ok t in let k =
      heard_break q g.1 (sym g.3 ∙ e) in asks_followed goes q f g.0 g.1 g.2 (subst (λ y. Followed goes (f y) w m x r) (sym k.0) (p k.1))

  -- a refusal that is neither 2 nor 3 is never heard
  pub nothing_else : (r : Refusal) → h ≡ denied r → (number_of r ≡ 2 → ⊥) → (number_of r ≡ 3 → ⊥) → ⊥
  nothing_else r e no-2 no-3 = let g = went_so goes q ok t in on g.1 (sym g.3 ∙ e)
    where
      on : (x : Reply) → told q x ≡ denied r → ⊥
      on (answered y) e = let z : ◌≡◌ {A = ℕ} 0 1 = cc in omega arith
      on (unacknowledged y) e = let k : NotAcknowledged y (address_of q) ≡ r = cc in no-2 (ap number_of (sym k))
      on broken e = let k : Broken (address_of q) ≡ r = cc in no-3 (ap number_of (sym k))

-- a whole dialogue that is followed, by a call that takes no book and no scratch, is a call of a run
pub whole_call : (m : Datasheet) {W : Type 0} {chip_of : W → State} {goes : Goes W} {passes : Passes W} → IsWire m chip_of goes passes → Lawful m
    → (q : Call) {t : Meter} {u : W} (places : ℕ) (es : List Entry) (s : List ℕ) {t' : Meter} {w : W} {r : Answer} → (p : Followed goes (dialogue m q t places es) u t' w r)
    → OwnScratch q s → es ≡ entries_after r es → s ≡ scratch_after q p.steps s → MadeCall m chip_of goes q t u places es s t' w es s r
whole_call m is law q places es s p own book scratch =
    made_call m is law (record { steps = p.steps; follows = p.follows; trip = p.trip; the_book = book; own_scratch = own; the_scratch = scratch })

-- an outcome added leaves the run where it was
pub added : (m : Datasheet) → Lawful m → {W : Type 0} {chip_of : W → State} {t : Meter} {u : W} {t' : Meter} {w : W} → chip_of w ≡ chip_of u → t' ≡ t → Added m chip_of t u t' w
added m law {chip_of = chip_of} {t} {u} {t'} {w} same is = record { chip = same; meter = is; run = run }
  where
    run : (places number last : ℕ) (es : List Entry) (h : History) → last < 2 ^ 32 → Reached m places number last t (chip_of u) es h
        → Reached m places number last t' (chip_of w) es h × Statements m places number last t' (chip_of w) es h
    run places number last es h l reached =
        let on = subst (λ x. Reached m places number last x (chip_of w) es h) (sym is) (subst (λ x. Reached m places number last t x es h) (sym same) reached) in
        (on, every_run m law places number last t' (chip_of w) es h l on)

pub carries_runs : (m : Datasheet) → Lawful m → {W : Type 0} {chip_of : W → State} {goes : Goes W} {passes : Passes W} → IsWire m chip_of goes passes
    → CarriesRuns m chip_of goes passes
carries_runs m law is = record {
  calls = λ q t u places es s t' w es' s' r st. made_call m is law st;
  cycles = λ ks t u t' w four p e. made_cycle m is law four p e;
  begins = λ number last u w t same new. begun m is law same new;
}
