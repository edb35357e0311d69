-- Wires to a chip that converts on while a transaction runs.
use Rattle.std.specs.Prelude.{◌≡◌, ℕ, ◌^◌, ◌<◌, Bool, List, [], ◌∷◌, length}
use Rattle.chip.specs.declared.state.Codes.{Codes}
use Rattle.chip.specs.declared.state.State.{State}
use Rattle.chip.specs.declared.entry.Entry.{Entry}
use Rattle.chip.specs.Chip.{Request, cycled, fresh_chip}
use Rattle.chip.specs.Datasheet.{Datasheet}
use Rattle.chip.specs.Laws.{Every}
use Rattle.wire.specs.Wire.{Goes, Passes, Reply, Went}
use Rattle.account.specs.Dialogue.{Meter, new_meter, Answer, Call}
use Rattle.account.specs.History.{History, cycle_came, happened_after}
use Rattle.account.specs.Calls.{MadeSteps}
use Rattle.account.specs.Statements.{Statements}
use Rattle.busy.specs.Events.{Event, steps_in, Through, happened_in}
use Rattle.busy.specs.Runs.{BusyReached}
use Rattle.busy.specs.Plain.{cycled_by}

-- a transaction at a chip that converts on: some cycles, then what it may come to on any wire, then some cycles
pub record WentAmong (m : Datasheet) (c : State) (q : Request) (carried : Bool) (r : Reply) (c' : State) : Type 0 where
  pub earlier : List (List Codes)
  pub later : List (List Codes)
  pub whole : Every (λ ks. length ks ≡ 4) earlier × Every (λ ks. length ks ≡ 4) later
  pub left : State
  pub went : Went m (cycled_by m earlier c) q carried r left
  pub behind : cycled_by m later left ≡ c'

-- what makes something a wire to such a chip
pub record IsBusyWire (m : Datasheet) {W : Type 0} (chip_of : W → State) (goes : Goes W) (passes : Passes W) : Type 0 where
  pub meant : (u w : W) (q : Request) (b : Bool) (r : Reply) → goes u q b r w → WentAmong m (chip_of u) q b r (chip_of w)
  pub cycle : (u w : W) (ks : List Codes) → passes u ks w → chip_of w ≡ cycled m ks (chip_of u)

-- some cycles of a wire, the oldest first
pub data Idles {W : Type 0} (passes : Passes W) : W → W → Type 0 where
  still : {u : W} → Idles passes u u
  idles : {u v w : W} {ks : List Codes} → length ks ≡ 4 → passes u ks v → Idles passes v w → Idles passes u w

-- any wire, with cycles around each of its transactions
pub record Among {W : Type 0} (goes : Goes W) (passes : Passes W) (u : W) (q : Request) (carried : Bool) (r : Reply) (w : W) : Type 0 where
  pub ready : W
  pub done : W
  pub earlier : Idles passes u ready
  pub went : goes ready q carried r done
  pub later : Idles passes done w

-- what the code shows of a call makes a call of a busy run: the chip behind the wire went along with just the call's steps and some cycles, and
-- whatever history led here, that history with these leads on, and all statements hold of it
pub record BusyCallMade (m : Datasheet) {W : Type 0} (chip_of : W → State) {goes : Goes W} {q : Call} {t : Meter} {u : W} {places : ℕ}
    {es : List Entry} {s : List ℕ} {t' : Meter} {w : W} {es' : List Entry} {s' : List ℕ} {r : Answer}
    (made : MadeSteps m goes q t u places es s t' w es' s' r) : Type 0 where
  pub events : List Event
  pub its_steps : steps_in events ≡ made.steps
  pub chip : Through m (chip_of u) events (chip_of w)
  pub run : (number last : ℕ) (h : History) → last < 2 ^ 32 → BusyReached m places number last t (chip_of u) es h
      → BusyReached m places number last t' (chip_of w) es' (happened_after r (happened_in events h))
      × Statements m places number last t' (chip_of w) es' (happened_after r (happened_in events h))

-- on a wire to a chip that converts on: steps are calls of a busy run, its cycles are the run's cycles, and a new meter begins one
pub record CarriesBusyRuns (m : Datasheet) {W : Type 0} (chip_of : W → State) (goes : Goes W) (passes : Passes W) : Type 0 where
  pub calls : (q : Call) (t : Meter) (u : W) (places : ℕ) (es : List Entry) (s : List ℕ) (t' : Meter) (w : W) (es' : List Entry) (s' : List ℕ)
      (r : Answer) → (made : MadeSteps m goes q t u places es s t' w es' s' r) → BusyCallMade m chip_of made
  pub cycles : (ks : List Codes) (t : Meter) (u w : W) (places number last : ℕ) (es : List Entry) (h : History) → length ks ≡ 4 → passes u ks w
      → last < 2 ^ 32 → BusyReached m places number last t (chip_of u) es h
      → BusyReached m places number last t (chip_of w) es (cycle_came ks ∷ h) × Statements m places number last t (chip_of w) es (cycle_came ks ∷ h)
  pub begins : (places number last : ℕ) (u : W) → last < 2 ^ 32 → chip_of u ≡ fresh_chip m
      → BusyReached m places number last (new_meter number last) (chip_of u) [] []
      × Statements m places number last (new_meter number last) (chip_of u) [] []
