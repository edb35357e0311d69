-- A wire to a chip that converts on: its transactions as events.
use Rattle.std.proofs.Common.{◌≡◌, ℕ, ◌^◌, ◌<◌, Bool, List, [], ◌∷◌, sym, refl, ap, ◌∙◌, subst}
use Rattle.chip.specs.Chip.{Request}
use Rattle.chip.specs.Datasheet.{Datasheet}
use Rattle.chip.specs.Laws.{Lawful}
use Rattle.chip.specs.declared.entry.Entry.{Entry}
use Rattle.chip.specs.declared.state.Codes.{Codes}
use Rattle.chip.specs.declared.state.State.{State}
use Rattle.wire.specs.Wire.{Goes, IsWire, Passes, Reply, Went}
use Rattle.account.specs.Calls.{MadeSteps}
use Rattle.account.specs.Dialogue.{Answer, Call, Follows, Meter, dialogue, new_meter}
use Rattle.account.specs.History.{History, cycle_came, happened_after}
use Rattle.account.specs.Statements.{Statements}
use Rattle.account.specs.Steps.{Step, Trip, at_rest, onward}
use Rattle.busy.proofs.Assembly.{Whole, every_busy_run}
use Rattle.busy.specs.Events.{Event, Through, at_end, by_conversion, by_transaction, conversion, happened_in, steps_in, transaction}
use Rattle.busy.specs.Plain.{ImageAlone, cycled_by}
use Rattle.busy.specs.Runs.{BusyReached, busy_call, busy_cycle, busy_made}
use Rattle.busy.specs.Wires.{Among, BusyCallMade, CarriesBusyRuns, Idles, IsBusyWire, WentAmong, idles, still}

-- some cycles before some events
converted : List (List Codes) → List Event → List Event
converted [] vs = vs
converted (ks ∷ kss) vs = conversion ks ∷ converted kss vs

converted_steps : (kss : List (List Codes)) (vs : List Event) → steps_in (converted kss vs) ≡ steps_in vs
unfolding converted
converted_steps [] vs = refl
converted_steps (ks ∷ kss) vs = converted_steps kss vs

module _ (m : Datasheet) where
  through_cycles : (kss : List (List Codes)) {c c' : State} {vs : List Event} → Whole kss → Through m (cycled_by m kss c) vs c' → Through m c (converted kss vs) c'
  unfolding converted
  through_cycles [] p th = th
  through_cycles (ks ∷ kss) p th = by_conversion ks p.0 (through_cycles kss p.1 th)

  module _ {W : Type 0} {chip_of : W → State} {goes : Goes W} {passes : Passes W} (is : IsBusyWire m chip_of goes passes) where
    -- a trip of a wire, as events at the chip
    events_of : {u w : W} {ss : List Step} → Trip goes u ss w → (vs : List Event) × (steps_in vs ≡ ss) × Through m (chip_of u) vs (chip_of w)
    events_of at_rest = ([], refl, at_end)
    events_of {w = z} (onward {s = s} g t) =
        let x = is.meant _ _ _ _ _ g in
        let r = events_of t in (
          converted x.earlier (transaction s ∷ converted x.later r.0),
          converted_steps x.earlier (transaction s ∷ converted x.later r.0) ∙ ap (λ ss. s ∷ ss) (converted_steps x.later r.0 ∙ r.1),
          through_cycles x.earlier x.whole.0 (by_transaction x.went (through_cycles x.later x.whole.1
              (subst (λ c. Through m c r.0 (chip_of z)) (sym x.behind) r.2))),
        )

    module _ (law : Lawful m) (alone : ImageAlone m) where
      -- with all that holds of it
      stated : {places number last : ℕ} {t : Meter} {c : State} {es : List Entry} {h : History} → last < 2 ^ 32 → BusyReached m places number last t c es h
          → BusyReached m places number last t c es h × Statements m places number last t c es h
      stated {places} {number} {last} {t} {c} {es} {h} small r = (r, every_busy_run m law alone places number last t c es h small r)

      call_made : {q : Call} {t : Meter} {u : W} {places : ℕ} {es : List Entry} {s : List ℕ} {t' : Meter} {w : W} {es' : List Entry} {s' : List ℕ} {r : Answer}
          → (made : MadeSteps m goes q t u places es s t' w es' s' r) → BusyCallMade m chip_of made
      call_made {q} {t} {u} {places} {es} {s} {t'} {w} {es'} {s'} {r} st =
          let x = events_of st.trip in
          record { events = x.0; its_steps = x.1; chip = x.2; run = run x.0 x.1 x.2 }
        where
          run : (vs : List Event) → steps_in vs ≡ st.steps → Through m (chip_of u) vs (chip_of w) → (number last : ℕ) (h : History) → last < 2 ^ 32
              → BusyReached m places number last t (chip_of u) es h → BusyReached m places number last t' (chip_of w) es' (happened_after r (happened_in vs h))
              × Statements m places number last t' (chip_of w) es' (happened_after r (happened_in vs h))
          run vs e th number last h l reached =
              let on = subst (λ x. BusyReached m places number last t' (chip_of w) x (happened_after r (happened_in vs h))) (sym st.the_book)
              (busy_call q reached (subst (λ x. Follows (dialogue m q t places es) x (t', r)) (sym e) st.follows) th) in
              stated l on

      pub carries_busy_runs : CarriesBusyRuns m chip_of goes passes
      carries_busy_runs = record {
        calls = λ q t u places es s t' w es' s' r made. call_made made;
        cycles = λ ks t u w places number last es h l p small r. stated small
            (subst (λ x. BusyReached m places number last t x es (cycle_came ks ∷ h)) (sym (is.cycle u w ks p)) (busy_cycle ks l r));
        begins = λ places number last u small e. stated small
            (subst (λ x. BusyReached m places number last (new_meter number last) x [] []) (sym e) busy_made);
      }

  module _ {W : Type 0} {chip_of : W → State} {goes : Goes W} {passes : Passes W} (is : IsWire m chip_of goes passes) where
    -- the cycles of a wire that idles
    idled : {u w : W} → Idles passes u w → (kss : List (List Codes)) × Whole kss × (cycled_by m kss (chip_of u) ≡ chip_of w)
    idled still = ([], tt, refl)
    idled (idles {u} {v} {w} {ks} l p i) = let r = idled i in (ks ∷ r.0, (l, r.1), ap (cycled_by m r.0) (sym (is.cycle u v ks p)) ∙ r.2)

    among : (u w : W) (q : Request) (b : Bool) (r : Reply) → Among goes passes u q b r w → WentAmong m (chip_of u) q b r (chip_of w)
    among u w q b r x =
        let i = idled x.earlier in
        let j = idled x.later in
        record {
          earlier = i.0;
          later = j.0;
          whole = (i.1, j.1);
          left = chip_of x.done;
          went = subst (λ c. Went m c q b r (chip_of x.done)) (sym i.2) (is.meant _ _ _ _ _ x.went);
          behind = j.2;
        }

    pub converts_on : IsBusyWire m chip_of (Among goes passes) passes
    converts_on = record { meant = among; cycle = is.cycle }
