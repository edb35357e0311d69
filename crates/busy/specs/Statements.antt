-- What holds of every busy run.
use Rattle.std.specs.Prelude.{◌≡◌, ℕ, ◌-◌, ◌^◌, ◌<◌, true, List, length}
use Rattle.chip.specs.declared.state.State.{State}
use Rattle.chip.specs.declared.entry.Entry.{Entry}
use Rattle.chip.specs.Registers.{in_mask}
use Rattle.chip.specs.Datasheet.{Datasheet, meaning}
use Rattle.chip.specs.Chip.{entry_of}
use Rattle.chip.specs.Laws.{Lawful, Sound}
use Rattle.account.specs.Dialogue.{Meter, Reading, volts, millivolts, Answer, looked, entered, Slip, Follows, Call, dialogue, draws, books, looks}
use Rattle.account.specs.History.{History, Reached}
use Rattle.account.specs.CallRules.{latest_bus, latest_sense, refresh_carried}
use Rattle.account.specs.Statements.{Statements}
use Rattle.busy.specs.Events.{Event, steps_in, before_send, after_send, Through}
use Rattle.busy.specs.Runs.{BusyReached}
use Rattle.busy.specs.Plain.{ImageAlone, Alike, PlainCall, cycled_by}

module _ (m : Datasheet) where
  -- account, conservation and bill, over the true history
  abbrev pub EveryBusyRunOf : Type 0
  EveryBusyRunOf = (places number last : ℕ) (t : Meter) (c : State) (es : List Entry) (h : History) → last < 2 ^ 32
      → BusyReached m places number last t c es h → Statements m places number last t c es h

  -- the same meter, chip and book come of a run whose cycles come between the calls, and of the same account
  abbrev pub BusyIsPlainOf : Type 0
  BusyIsPlainOf = (places number last : ℕ) (t : Meter) (c : State) (es : List Entry) (h : History)
      → BusyReached m places number last t c es h → (h' : History) × Reached m places number last t c es h' × Alike m h h'

  -- each call by itself
  abbrev pub CallsArePlainOf : Type 0
  CallsArePlainOf = (q : Call) (t : Meter) (places : ℕ) (es : List Entry) (t' : Meter) (r : Answer) (c c' : State) (vs : List Event)
      → Follows (dialogue m q t places es) (steps_in vs) (t', r) → Through m c vs c' → PlainCall m (dialogue m q t places es) t' r c vs c'

  -- a draw whose REFRESH was carried out put the settings in force that were wanted at that draw
  abbrev pub BusyObeys : Type 0
  BusyObeys = (t t' : Meter) (c c' : State) (vs : List Event) (r : Answer) → m.offers t.wanted ≡ true → Follows (draws m t) (steps_in vs) (t', r)
      → Through m c vs c' → refresh_carried m (steps_in vs) ≡ true → meaning m c'.active ≡ t.wanted

  -- a look that answers gives the latest code of a chip, by the polarity that was in force there, and leaves the meter
  pub record SeenAt (d : State) (t t' : Meter) (ch q : ℕ) (g : Reading) : Type 0 where
    pub bus : q ≡ 0 → g ≡ volts (latest_bus m d (ch - 1))
    pub sense : q ≡ 1 → g ≡ millivolts (in_mask (m.two_way d.active) (ch - 1)) (latest_sense m d (ch - 1))
    pub meter : t' ≡ t

  -- it is the chip that took the look's REFRESH_V, whatever cycles came afterwards
  abbrev pub BusyLooksTrue : Type 0
  BusyLooksTrue = (t t' : Meter) (c c' : State) (ch q : ℕ) (vs : List Event) (g : Reading) → Follows (looks m t ch q) (steps_in vs) (t', looked g)
      → Through m c vs c' → SeenAt (cycled_by m (before_send vs) c) t t' ch q g

  -- a booking that is taken gives the image's entry under the slip's number, wherever cycles come, and nothing but those cycles changes the chip
  pub record EnteredAt (c c' : State) (p : Slip) (vs : List Event) (e : Entry) : Type 0 where
    pub entry : Sound m c.image.running → e ≡ entry_of m c.image p.draw
    pub chip : c' ≡ cycled_by m (after_send vs) (cycled_by m (before_send vs) c)

  abbrev pub BusyBooksTrue : Type 0
  BusyBooksTrue = (t t' : Meter) (c c' : State) (p : Slip) (places : ℕ) (es : List Entry) (scratch : ℕ) (vs : List Event) (e : Entry)
      → Follows (books m t p places (length es) scratch) (steps_in vs) (t', entered e) → Through m c vs c' → EnteredAt c c' p vs e

  -- and a run whose cycles come between the calls is one of these
  abbrev pub PlainIsBusyOf : Type 0
  PlainIsBusyOf = (places number last : ℕ) (t : Meter) (c : State) (es : List Entry) (h : History)
      → Reached m places number last t c es h → BusyReached m places number last t c es h

-- over every lawful make whose image stands by itself
abbrev pub EveryBusyRun : Type 0
EveryBusyRun = (m : Datasheet) → Lawful m → ImageAlone m → EveryBusyRunOf m

-- what each call promises of the chip, where it converts on; all else that a call promises speaks of its transactions and the meter alone
pub record EveryBusyCallOf (m : Datasheet) : Type 0 where
  pub obeys : BusyObeys m
  pub looks_true : BusyLooksTrue m
  -- where the image stands by itself
  pub books_true : ImageAlone m → BusyBooksTrue m

abbrev pub EveryBusyCall : Type 0
EveryBusyCall = (m : Datasheet) → Lawful m → EveryBusyCallOf m

pub record BusyIsPlain : Type 0 where
  pub runs : (m : Datasheet) → Lawful m → ImageAlone m → BusyIsPlainOf m
  pub calls : (m : Datasheet) → Lawful m → ImageAlone m → CallsArePlainOf m
  pub plain_is_busy : (m : Datasheet) → PlainIsBusyOf m
