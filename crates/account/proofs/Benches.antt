-- The worked figures and the runs, by computation.
use Rattle.std.proofs.Common.{refl}
use Rattle.makes.proofs.Figures.{figures}
use Rattle.makes.specs.Figures.{on_one}
use Rattle.account.specs.Dialogue.{Slip, book, draw, ended, stepped, write_off}
use Rattle.account.specs.History.{called, cycle_passed, made}
use Rattle.makes.specs.Pac193x.{pac193x}
use Rattle.makes.specs.Pac194x.{pac194x}
use Rattle.account.specs.Steps.{at_rest, goes_on, onward, stays}
use Rattle.wire.specs.Wire.{broke_after, broke_before, broken, done}
use Rattle.wire.specs.Direct.{direct_done}
use Rattle.wire.specs.Scripted.{drops, passes_on, with_none_left}
use Rattle.account.specs.Worked.{BillFigures, DoubtRun, LostReply, SoundRun, WhyFresh, Witnessed, Worked, WriteOffRun}

bills : BillFigures
bills = record { minus_one_bill = refl; empty_bill = refl; listed_bill = refl; tariff_193 = refl; tariff_194 = refl }

lost_reply : LostReply
lost_reply = record {
  after_first = _;
  wire_then = _;
  first_steps = _;
  first = stepped (stepped (stepped (stepped {r = broken} ended)));
  first_trip = onward (passes_on (direct_done refl)) (onward (passes_on (direct_done refl)) (onward (passes_on (direct_done refl)) (onward (drops (direct_done refl)) at_rest)));
  after_second = _;
  wire_last = _;
  second_step = _;
  second = stepped ended;
  second_trip = onward (with_none_left (direct_done refl)) at_rest;
}

pub worked : Worked
worked = record { figures = figures; bills = bills; lost_reply = lost_reply }

abbrev slip : Slip
slip = record { meter = 1; draw = 1 }

sound_193 : SoundRun pac193x
sound_193 = record {
  t = _;
  c = _;
  e = _;
  h = _;
  run = called (book slip 32)
      (called draw (cycle_passed (on_one 40000 20000) refl made)
      (stepped (stepped (stepped (stepped ended))))
      (goes_on (done refl) (goes_on (done refl) (goes_on (done refl) (goes_on (done refl) stays)))))
      (stepped (stepped ended))
      (goes_on (done refl) (goes_on (done refl) stays));
  sound = refl;
  counted = refl;
  number = refl;
  unspoilt = ((tt, tt), tt);
}

off_193 : WriteOffRun pac193x
off_193 = record {
  t = _;
  c = _;
  h = _;
  run = called (write_off slip)
      (called draw (cycle_passed (on_one 40000 20000) refl made)
      (stepped (stepped (stepped (stepped ended))))
      (goes_on (done refl) (goes_on (done refl) (goes_on (done refl) (goes_on (done refl) stays)))))
      ended stays;
  counted = refl;
}

doubt_193 : DoubtRun pac193x
doubt_193 =
    let to_doubt = called draw (cycle_passed (on_one 40000 20000) refl made)
    (stepped (stepped (stepped (stepped {r = broken} ended))))
    (goes_on (done refl) (goes_on (done refl) (goes_on (done refl) (goes_on (broke_after refl) stays)))) in
    record {
      doubtful = _;
      drawn = _;
      t = _;
      a = _;
      b = _;
      c = _;
      e = _;
      g = _;
      asked = _;
      reads = _;
      run_to_doubt = to_doubt;
      in_doubt_then = refl;
      settled = stepped ended;
      settled_along = goes_on (done refl) stays;
      booked = stepped (stepped ended);
      booked_along = goes_on (done refl) (goes_on (done refl) stays);
      run = called (book slip 32) (called draw to_doubt (stepped ended) (goes_on (done refl) stays)) (stepped (stepped ended)) (goes_on (done refl) (goes_on (done refl) stays));
      sound = refl;
      counted = refl;
    }

pub witnessed_193 : Witnessed pac193x
witnessed_193 = record { a_sound_run = sound_193; a_write_off_run = off_193; a_doubt_run = doubt_193 }

sound_194 : SoundRun pac194x
sound_194 = record {
  t = _;
  c = _;
  e = _;
  h = _;
  run = called (book slip 32)
      (called draw (cycle_passed (on_one 40000 20000) refl made)
      (stepped (stepped (stepped ended)))
      (goes_on (done refl) (goes_on (done refl) (goes_on (done refl) stays))))
      (stepped (stepped ended))
      (goes_on (done refl) (goes_on (done refl) stays));
  sound = refl;
  counted = refl;
  number = refl;
  unspoilt = ((tt, tt), tt);
}

off_194 : WriteOffRun pac194x
off_194 = record {
  t = _;
  c = _;
  h = _;
  run = called (write_off slip)
      (called draw (cycle_passed (on_one 40000 20000) refl made)
      (stepped (stepped (stepped ended)))
      (goes_on (done refl) (goes_on (done refl) (goes_on (done refl) stays))))
      ended stays;
  counted = refl;
}

doubt_194 : DoubtRun pac194x
doubt_194 =
    let to_doubt = called draw (cycle_passed (on_one 40000 20000) refl made)
    (stepped (stepped (stepped {r = broken} ended)))
    (goes_on (done refl) (goes_on (done refl) (goes_on (broke_after refl) stays))) in
    record {
      doubtful = _;
      drawn = _;
      t = _;
      a = _;
      b = _;
      c = _;
      e = _;
      g = _;
      asked = _;
      reads = _;
      run_to_doubt = to_doubt;
      in_doubt_then = refl;
      settled = stepped ended;
      settled_along = goes_on (done refl) stays;
      booked = stepped (stepped ended);
      booked_along = goes_on (done refl) (goes_on (done refl) stays);
      run = called (book slip 32) (called draw to_doubt (stepped ended) (goes_on (done refl) stays)) (stepped (stepped ended)) (goes_on (done refl) (goes_on (done refl) stays));
      sound = refl;
      counted = refl;
    }

pub witnessed_194 : Witnessed pac194x
witnessed_194 = record { a_sound_run = sound_194; a_write_off_run = off_194; a_doubt_run = doubt_194 }

pub why_fresh : WhyFresh
why_fresh = record {
  after_first = _;
  chip_then = _;
  first_steps = _;
  first = stepped (stepped (stepped (stepped {r = broken} ended)));
  first_along = goes_on (done refl) (goes_on (done refl) (goes_on (done refl) (goes_on broke_before stays)));
  after_second = _;
  second_steps = _;
  second = stepped ended;
  second_along = goes_on (done refl) stays;
  never_carried = refl;
}
