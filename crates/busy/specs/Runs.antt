-- Runs in which cycles come during the calls, too.
use Rattle.std.specs.Prelude.{◌≡◌, ℕ, List, [], ◌∷◌, length}
use Rattle.chip.specs.declared.state.Codes.{Codes}
use Rattle.chip.specs.declared.state.State.{State}
use Rattle.chip.specs.declared.entry.Entry.{Entry}
use Rattle.chip.specs.Chip.{cycled, fresh_chip}
use Rattle.chip.specs.Datasheet.{Datasheet}
use Rattle.account.specs.Dialogue.{Meter, new_meter, Answer, Follows, Call, dialogue}
use Rattle.account.specs.History.{History, cycle_came, entries_after, happened_after}
use Rattle.busy.specs.Events.{Event, steps_in, Through, happened_in}

-- all that can have come of a meter made on a fresh chip, with an empty book of so many places, where the chip also converts before, between and
-- after the transactions of a call. The meter sees the transactions alone; the history has each cycle where it came
pub data BusyReached (m : Datasheet) (places number last : ℕ) : Meter → State → List Entry → History → Type 0 where
  busy_made : BusyReached m places number last (new_meter number last) (fresh_chip m) [] []
  busy_cycle : {t : Meter} {c : State} {es : List Entry} {h : History} (ks : List Codes) → length ks ≡ 4
      → BusyReached m places number last t c es h → BusyReached m places number last t (cycled m ks c) es (cycle_came ks ∷ h)
  busy_call : {t t' : Meter} {c c' : State} {es : List Entry} {h : History} {vs : List Event} {r : Answer} (q : Call)
      → BusyReached m places number last t c es h → Follows (dialogue m q t places es) (steps_in vs) (t', r) → Through m c vs c'
      → BusyReached m places number last t' c' (entries_after r es) (happened_after r (happened_in vs h))
