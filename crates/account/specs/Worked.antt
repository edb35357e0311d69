-- The figures worked on the bench, and runs that show that the statements speak of something.
use Rattle.std.specs.Prelude.{◌≡◌, ℕ, false, List, [], ◌∷◌, ◌++◌, ℤ, pos, negsuc}
use Rattle.chip.specs.declared.state.State.{State}
use Rattle.chip.specs.Datasheet.{Datasheet}
use Rattle.chip.specs.declared.entry.Entry.{Entry}
use Rattle.chip.specs.Chip.{cycled, fresh_chip, fresh_from}
use Rattle.chip.specs.declared.refusal.Refusal.TheVariants.{Broken}
use Rattle.account.specs.Steps.{Step, Along, Trip}
use Rattle.wire.specs.Scripted.{Scripting, ScriptedGoes}
use Rattle.wire.specs.declared.outcome.Outcome.TheVariants.{Pass, DropReply}
use Rattle.wire.specs.Direct.{DirectGoes}
use Rattle.makes.specs.Figures.{Figures, on_one}
use Rattle.book.specs.Bill.{bill, bill_of}
use Rattle.account.specs.Dialogue.{Meter, new_meter, handed, entered, refused, Follows, book, dialogue, draws, in_doubt}
use Rattle.account.specs.History.{History, Reached, carried_in, happened_after}
use Rattle.account.specs.CallRules.{refresh_carried}
use Rattle.account.specs.Statements.{Unspoilt}
use Rattle.makes.specs.Pac193x.{pac193x}
use Rattle.makes.specs.Pac194x.{pac194x}

abbrev pub an_entry : (two_way : ℕ) → (sum : ℤ) → Entry
an_entry two_way z = record { draw = 1; spoilt = 0; count = 1; rate = 0; off = 0; two_way = two_way; sums = z ∷ pos 0 ∷ pos 0 ∷ pos 0 ∷ [] }

-- the figures of the bill
pub record BillFigures : Type 0 where
  -- one two-way PAC193X entry of sum -1, code 0, u 1; the empty book; one cycle of v 40000, s 20000 at a shunt of 10 milliohms
  pub minus_one_bill : bill pac193x 64 (an_entry 8 (negsuc 0) ∷ []) 1 1 ≡ bill_of (negsuc 0) 1 0
  pub empty_bill : bill pac193x 64 [] 1 100 ≡ bill_of (pos 0) 0 0
  pub listed_bill : bill pac193x 64 (an_entry 0 (pos 50000000) ∷ []) 1 100 ≡ bill_of (pos 58) 1 0
  -- the tariffs
  pub tariff_193 : pac193x.tariff ≡ record { factor = 15625; power = 27 }
  pub tariff_194 : pac194x.tariff ≡ record { factor = 140625; power = 34 }

-- one cycle, outcomes 0, 0, 0, 3 on a scripted wire over a direct one: the draw refuses 3; the next makes one transaction and hands out slip 1
pub record LostReply : Type 0 where
  pub after_first : Meter
  pub wire_then : Scripting State
  pub first_steps : List Step
  pub first : Follows (draws pac193x (new_meter 1 0)) first_steps (after_first, refused (Broken 0x00))
  pub first_trip : Trip (ScriptedGoes (DirectGoes pac193x)) (record {
    below = cycled pac193x (on_one 40000 20000) (fresh_chip pac193x);
    outcomes = Pass ∷ Pass ∷ Pass ∷ DropReply ∷ [];
    added = 4;
  }) first_steps wire_then
  pub after_second : Meter
  pub wire_last : Scripting State
  pub second_step : Step
  pub second : Follows (draws pac193x after_first) (second_step ∷ []) (after_second, handed (record { meter = 1; draw = 1 }))
  pub second_trip : Trip (ScriptedGoes (DirectGoes pac193x)) wire_then (second_step ∷ []) wire_last

-- why a run begins at a fresh chip: where the mark in force is 1 already, a first REFRESH that broke and was not carried out is taken for carried out
abbrev pub marked_chip : State
marked_chip = fresh_from (record { control = 4; channels = 0; polarity = 0 })

pub record WhyFresh : Type 0 where
  pub after_first : Meter
  pub chip_then : State
  pub first_steps : List Step
  pub first : Follows (draws pac193x (new_meter 1 0)) first_steps (after_first, refused (Broken 0x00))
  pub first_along : Along pac193x marked_chip first_steps chip_then
  pub after_second : Meter
  pub second_steps : List Step
  pub second : Follows (draws pac193x after_first) second_steps (after_second, handed (record { meter = 1; draw = 1 }))
  pub second_along : Along pac193x chip_then second_steps chip_then
  pub never_carried : refresh_carried pac193x (first_steps ++ second_steps) ≡ false

-- the worked figures, all together
pub record Worked : Type 0 where
  pub figures : Figures
  pub bills : BillFigures
  pub lost_reply : LostReply

-- runs of a make: one ends with a sound entry, one with a write-off
pub record SoundRun (m : Datasheet) : Type 0 where
  pub t : Meter
  pub c : State
  pub e : Entry
  pub h : History
  pub run : Reached m 64 1 0 t c (e ∷ []) h
  pub sound : e.spoilt ≡ 0
  pub counted : e.count ≡ 1
  pub number : e.draw ≡ 1
  -- and meets the premise of conservation
  pub unspoilt : Unspoilt m h

pub record WriteOffRun (m : Datasheet) : Type 0 where
  pub t : Meter
  pub c : State
  pub h : History
  pub run : Reached m 64 1 0 t c [] h
  pub counted : t.write_offs ≡ 1

-- a REFRESH whose acknowledgement got lost leaves the meter in doubt; one transaction later it hands the slip out; and with that slip the stretch is booked
pub record DoubtRun (m : Datasheet) : Type 0 where
  pub doubtful : Meter
  pub drawn : Meter
  pub t : Meter
  pub a : State
  pub b : State
  pub c : State
  pub e : Entry
  pub g : History
  pub asked : Step
  pub reads : List Step
  pub run_to_doubt : Reached m 64 1 0 doubtful a [] g
  pub in_doubt_then : doubtful.condition ≡ in_doubt
  pub settled : Follows (draws m doubtful) (asked ∷ []) (drawn, handed (record { meter = 1; draw = 1 }))
  pub settled_along : Along m a (asked ∷ []) b
  pub booked : Follows (dialogue m (book (record { meter = 1; draw = 1 }) 32) drawn 64 []) reads (t, entered e)
  pub booked_along : Along m b reads c
  pub run : Reached m 64 1 0 t c (e ∷ []) (happened_after (entered e) (carried_in reads (carried_in (asked ∷ []) g)))
  pub sound : e.spoilt ≡ 0
  pub counted : e.count ≡ 1

-- a run that ends with a spoilt entry
pub record SpoiltRun (m : Datasheet) : Type 0 where
  pub t : Meter
  pub c : State
  pub e : Entry
  pub h : History
  pub run : Reached m 64 1 0 t c (e ∷ []) h
  pub spoilt : e.spoilt ≡ 1

pub record Witnessed (m : Datasheet) : Type 0 where
  pub a_sound_run : SoundRun m
  pub a_write_off_run : WriteOffRun m
  pub a_doubt_run : DoubtRun m
