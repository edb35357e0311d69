-- Calls with cycles in their midst: a draw, a booking and a look.
use Rattle.std.specs.Prelude.{◌≡◌, false, List, [], ◌∷◌, ◌++◌, pos, slice_index_or}
use Rattle.chip.specs.declared.state.State.{State}
use Rattle.chip.specs.declared.entry.Entry.{Entry}
use Rattle.chip.specs.Chip.{channel, cycled, fresh_chip, send}
use Rattle.chip.specs.Datasheet.{Datasheet}
use Rattle.makes.specs.Figures.{on_one, codes}
use Rattle.account.specs.Steps.{Step}
use Rattle.account.specs.Dialogue.{Meter, Slip, volts, new_meter, handed, entered, looked, Follows, draw, book, look, dialogue}
use Rattle.account.specs.History.{happened_after}
use Rattle.busy.specs.Events.{Event, transaction, conversion, just, Through, happened_in}
use Rattle.busy.specs.Runs.{BusyReached}

abbrev pub first_slip : Slip
first_slip = record { meter = 1; draw = 1 }

-- a draw with a cycle behind its first write; the other writes and REFRESH follow
abbrev pub drawing : Step → List Step → Step → List Event
drawing first others refresh = transaction first ∷ conversion (on_one 40000 20000) ∷ just (others ++ refresh ∷ [])

-- a booking with a cycle between its two reads
abbrev pub booking : Step → Step → List Event
booking first second = transaction first ∷ conversion (on_one 40000 100) ∷ transaction second ∷ []

-- a new meter draws and books so: the entry counts the first cycle alone, and the second counts for the next stretch
pub record BusyRun (m : Datasheet) : Type 0 where
  pub first_write : Step
  pub other_writes : List Step
  pub refresh : Step
  pub sent : refresh.asked ≡ send m.refresh
  pub first_read : Step
  pub second_read : Step
  pub drawn : Meter
  pub b : State
  pub draws : Follows (dialogue m draw (new_meter 1 0) 64 []) (first_write ∷ (other_writes ++ refresh ∷ [])) (drawn, handed first_slip)
  pub through_the_draw : Through m (fresh_chip m) (drawing first_write other_writes refresh) b
  pub t : Meter
  pub c : State
  pub e : Entry
  pub books : Follows (dialogue m (book first_slip 32) drawn 64 []) (first_read ∷ second_read ∷ []) (t, entered e)
  pub through_the_booking : Through m b (booking first_read second_read) c
  pub run : BusyReached m 64 1 0 t c (e ∷ []) (happened_after (entered e)
      (happened_in (booking first_read second_read) (happened_in (drawing first_write other_writes refresh) [])))
  pub sound : e.spoilt ≡ 0
  pub counted : e.count ≡ 1
  pub sum : slice_index_or e.sums 0 (pos 0) ≡ m.product 0 false (codes 40000 20000)
  pub running : c.running.count ≡ 1

-- a look with a cycle between its REFRESH_V and its read: it shows the code from before
pub record BusyLook (m : Datasheet) : Type 0 where
  pub taken : Step
  pub code_read : Step
  pub t : Meter
  pub c : State
  pub looks : Follows (dialogue m (look 1 0) (new_meter 1 0) 64 []) (taken ∷ code_read ∷ []) (t, looked (volts 40000))
  pub through : Through m (cycled m (on_one 40000 20000) (fresh_chip m))
      (transaction taken ∷ conversion (on_one 100 100) ∷ transaction code_read ∷ []) c
  pub later : (channel 0 c.running).latest.bus ≡ 100
