-- What the calls of a desk promise: their answer, and all that the desk is after them.
use Rattle.std.specs.Prelude.{◌≡◌, ℕ, List, length, replicate, Some, None, Ok, Err, Option, Result}
use Rattle.account.specs.Calls.{Added, Begun, MadeBookCall, MadeCycle}
use Rattle.account.specs.Dialogue.{Answer, Meter, Slip, book, draw, entered, given_up, handed, refused, set_up, write_off, wrote_off}
use Rattle.chip.specs.Datasheet.{Datasheet, Wanted}
use Rattle.chip.specs.declared.entry.Entry.{Entry}
use Rattle.chip.specs.declared.refusal.Refusal.{Refusal}
use Rattle.chip.specs.declared.refusal.Refusal.TheVariants.{NoSlip}
use Rattle.chip.specs.declared.state.Codes.{Codes}
use Rattle.chip.specs.declared.state.State.{State}
use Rattle.desk.specs.Standing.{Standing}
use Rattle.meter.specs.Promises.{LookMade, MadeAlone}
use Rattle.meter.specs.Views.{set_up_answer}
use Rattle.meter.specs.declared.reading.Reading.{Reading}
use Rattle.wire.specs.Scripted.{ScriptedGoes, ScriptedPasses, seen}
use Rattle.wire.specs.Scripts.{added_to}
use Rattle.wire.specs.Wire.{Goes, Passes}
use Rattle.wire.specs.declared.scripted.Scripted.{Scripted}

-- what a call's result says to the meter's machine
abbrev pub draw_answer : (meter : ℕ) → Result ℕ Refusal → Answer
draw_answer meter (Ok n) = handed (record { meter = meter; draw = n })
draw_answer meter (Err e) = refused e

abbrev pub book_answer : Result Entry Refusal → Answer
book_answer (Ok e) = entered e
book_answer (Err e) = refused e

-- the hand after a draw, which a refused one leaves, and after a booking of the slip in it
abbrev pub hand_drawn : (meter : ℕ) → Option Slip → Result ℕ Refusal → Option Slip
hand_drawn meter hand (Ok n) = Some (record { meter = meter; draw = n })
hand_drawn meter hand (Err e) = hand

abbrev pub hand_spent : Slip → Result Entry Refusal → Option Slip
hand_spent p (Ok x) = None
hand_spent p (Err e) = Some p

-- the chip behind a script, and how a scripted wire takes a request
abbrev pub chip_below : {W : Type 0} → (W → State) → Scripted W → State
chip_below chip_of s = chip_of s.below

abbrev pub goes_scripted : {W : Type 0} → Goes W → Goes (Scripted W)
goes_scripted goes u q b r w = ScriptedGoes goes (seen u) q b r (seen w)

module _ {W : Type 0} where
  -- all but the meter and its wire stays
  pub record OnlyMeter (d d' : Standing W) : Type 0 where
    pub hand : d'.hand ≡ d.hand
    pub book : d'.book ≡ d.book
    pub scratch : d'.scratch ≡ d.scratch

  module _ (m : Datasheet) (chip_of : W → State) where
    -- meter 1, with no draw number used, an empty book of these places, a scratch of zeros, and no slip in hand
    pub record DeskOpened (wire : Scripted W) (places : List Entry) (d : Standing W) : Type 0 where
      pub meter : Begun m (chip_below chip_of) 1 0 wire d.meter d.wire
      pub hand : d.hand ≡ None
      pub book : d.book ≡ record { places = places; filled = 0 }
      pub scratch : d.scratch ≡ replicate 32 0

    -- an outcome is added to the script, and nothing else changes
    pub record OutcomeAdded (outcome : ℕ) (d : Standing W) (r : Result Unit Refusal) (d' : Standing W) : Type 0 where
      pub run : Added m (chip_below chip_of) d.meter d.wire d'.meter d'.wire
      pub below : d'.wire.below ≡ d.wire.below
      pub script : added_to d.wire.script outcome r d'.wire.script
      pub rest : OnlyMeter d d'

    module _ (passes : Passes W) where
      pub record CycleCame (ks : List Codes) (d d' : Standing W) : Type 0 where
        pub meter : MadeCycle m (chip_below chip_of) (ScriptedPasses passes) ks d.meter d.wire d'.meter d'.wire
        pub rest : OnlyMeter d d'

    module _ (goes : Goes W) where
      pub record SetUpMade (w : Wanted) (d : Standing W) (r : Result Unit Refusal) (d' : Standing W) : Type 0 where
        pub meter : MadeAlone m (chip_below chip_of) (goes_scripted goes) (set_up w) d.meter d.wire d'.meter d'.wire (set_up_answer r)
        pub rest : OnlyMeter d d'

      -- a draw puts its slip in hand
      pub record DrawMade (d : Standing W) (r : Result ℕ Refusal) (d' : Standing W) : Type 0 where
        pub meter : MadeAlone m (chip_below chip_of) (goes_scripted goes) draw d.meter d.wire d'.meter d'.wire (draw_answer d.meter.meter r)
        pub hand : d'.hand ≡ hand_drawn d.meter.meter d.hand r
        pub book : d'.book ≡ d.book
        pub scratch : d'.scratch ≡ d.scratch

      -- the slip in hand is booked, or stays there
      pub record SlipBooked (p : Slip) (d : Standing W) (r : Result Entry Refusal) (d' : Standing W) : Type 0 where
        pub made : MadeBookCall m (chip_below chip_of) (goes_scripted goes) (book p (length d.scratch)) d.meter d.wire d.book d.scratch d'.meter d'.wire d'.book d'.scratch (book_answer r)
        pub hand : d'.hand ≡ hand_spent p r

      -- with no slip in hand a booking and a write-off are refused by 11, and all stays
      abbrev pub BookMade : (hand : Option Slip) (d : Standing W) (r : Result Entry Refusal) (d' : Standing W) → Type 0
      BookMade None d r d' = (r ≡ Err NoSlip) × (d' ≡ d)
      BookMade (Some p) d r d' = SlipBooked p d r d'

      -- the slip in hand is written off, which nothing refuses, and the wire stays as it was
      pub record SlipWrittenOff (p : Slip) (d : Standing W) (r : Result Unit Refusal) (d' : Standing W) : Type 0 where
        pub meter : MadeAlone m (chip_below chip_of) (goes_scripted goes) (write_off p) d.meter d.wire d'.meter d'.wire given_up
        pub taken : r ≡ Ok tt
        pub wire : d'.wire ≡ d.wire
        pub hand : d'.hand ≡ None
        pub book : d'.book ≡ d.book
        pub scratch : d'.scratch ≡ d.scratch

      abbrev pub WriteOffMade : (hand : Option Slip) (d : Standing W) (r : Result Unit Refusal) (d' : Standing W) → Type 0
      WriteOffMade None d r d' = (r ≡ Err NoSlip) × (d' ≡ d)
      WriteOffMade (Some p) d r d' = SlipWrittenOff p d r d'

      pub record LookDone (channel quantity : ℕ) (d : Standing W) (r : Result Reading Refusal) (d' : Standing W) : Type 0 where
        pub meter : LookMade m (chip_below chip_of) (goes_scripted goes) channel quantity d.meter d.wire d'.meter d'.wire r
        pub rest : OnlyMeter d d'

      -- at the end a slip in hand is written off, which nothing refuses
      abbrev pub Ended : (hand : Option Slip) (t : Meter) (u w : Scripted W) → Type 0
      Ended None t u w = Unit {0}
      Ended (Some p) t u w = MadeAlone m (chip_below chip_of) (goes_scripted goes) (write_off p) t u (wrote_off t) w given_up
