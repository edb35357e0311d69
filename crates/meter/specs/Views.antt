-- The meter's code, as the machine's definitions speak of it.
use Rattle.std.specs.Prelude.{◌≡◌, false, Ok, Err, Result}
use Rattle.chip.specs.declared.entry.Entry.{Entry}
use Rattle.chip.specs.declared.refusal.Refusal.{Refusal}
use Rattle.chip.specs.Driver.{wanted_of}
use Rattle.account.specs.Dialogue.{Answer, stored, handed, entered, given_up, refused, ready, unfinished, in_doubt, slip_out}
use Rattle.account.specs.Dialogue as machine
use Rattle.meter.specs.declared.condition.Condition.{Condition}
use Rattle.meter.specs.declared.condition.Condition.TheVariants.{Ready, Unfinished, InDoubt, SlipOut}
use Rattle.meter.specs.declared.meter.Meter.{Meter}
use Rattle.meter.specs.declared.slip.Slip.{Slip}
use Rattle.meter.specs.declared.slip.Unspent.{Unspent}

abbrev pub condition_of : Condition → machine.Condition
condition_of Ready = ready
condition_of Unfinished = unfinished
condition_of InDoubt = in_doubt
condition_of (SlipOut n) = slip_out n

abbrev pub slip_of : Slip → machine.Slip
slip_of p = record { meter = p.meter; draw = p.draw }

abbrev pub meter_of : {W : Type 0} → Meter W → machine.Meter
meter_of t = record {
  meter = t.number;
  last = t.last;
  wanted = wanted_of t.wanted;
  mark = t.mark;
  write_offs = t.write_offs;
  condition = condition_of t.condition;
}

-- what a call's result says
abbrev pub set_up_answer : Result Unit Refusal → Answer
set_up_answer (Ok u) = stored
set_up_answer (Err e) = refused e

abbrev pub draw_answer : Result Slip Refusal → Answer
draw_answer (Ok p) = handed (slip_of p)
draw_answer (Err e) = refused e

abbrev pub book_answer : Result Entry Unspent → Answer
book_answer (Ok e) = entered e
book_answer (Err b) = refused b.refusal

abbrev pub write_off_answer : Result Unit Unspent → Answer
write_off_answer (Ok u) = given_up
write_off_answer (Err b) = refused b.refusal

-- neither booked nor written off
abbrev pub IsUnspent : Slip → Type 0
IsUnspent p = p.spent ≡ false

-- the very slip that was given, as unspent as it was
pub record GivenBack (p : Slip) (b : Unspent) : Type 0 where
  pub same : b.slip ≡ p
  pub unspent : IsUnspent p → IsUnspent b.slip

-- a refused booking or write-off gives back the slip that it was given
abbrev pub GivesBack : {A : Type 0} → Slip → Result A Unspent → Type 0
GivesBack p (Ok a) = Unit {0}
GivesBack p (Err b) = GivenBack p b
