-- Runs with cycles in the midst of calls, by computation.
use Rattle.std.proofs.Common.{[], ◌∷◌, refl}
use Rattle.makes.specs.Figures.{on_one}
use Rattle.makes.specs.Pac193x.{pac193x}
use Rattle.makes.specs.Pac194x.{pac194x}
use Rattle.account.specs.Dialogue.{book, draw, ended, stepped}
use Rattle.wire.specs.Wire.{done}
use Rattle.busy.specs.Events.{at_end, by_conversion, by_transaction}
use Rattle.busy.specs.Runs.{busy_call, busy_made}
use Rattle.busy.specs.Theorems.{BusyRunsThereAre}
use Rattle.busy.specs.Worked.{BusyLook, BusyRun, first_slip}

busy_193 : BusyRun pac193x
busy_193 = record {
  first_write = _;
  other_writes = _ ∷ _ ∷ [];
  refresh = _;
  sent = refl;
  first_read = _;
  second_read = _;
  drawn = _;
  b = _;
  draws = stepped (stepped (stepped (stepped (ended))));
  through_the_draw = by_transaction (done refl) (by_conversion (on_one 40000 20000) refl (by_transaction (done refl) (by_transaction (done refl) (by_transaction (done refl) (at_end)))));
  t = _;
  c = _;
  e = _;
  books = stepped (stepped ended);
  through_the_booking = by_transaction (done refl) (by_conversion (on_one 40000 100) refl (by_transaction (done refl) at_end));
  run = busy_call (book first_slip 32)
      (busy_call draw busy_made
      (stepped (stepped (stepped (stepped (ended)))))
      (by_transaction (done refl) (by_conversion (on_one 40000 20000) refl (by_transaction (done refl) (by_transaction (done refl) (by_transaction (done refl) (at_end)))))))
      (stepped (stepped ended))
      (by_transaction (done refl) (by_conversion (on_one 40000 100) refl (by_transaction (done refl) at_end)));
  sound = refl;
  counted = refl;
  sum = refl;
  running = refl;
}

busy_194 : BusyRun pac194x
busy_194 = record {
  first_write = _;
  other_writes = _ ∷ [];
  refresh = _;
  sent = refl;
  first_read = _;
  second_read = _;
  drawn = _;
  b = _;
  draws = stepped (stepped (stepped (ended)));
  through_the_draw = by_transaction (done refl) (by_conversion (on_one 40000 20000) refl (by_transaction (done refl) (by_transaction (done refl) (at_end))));
  t = _;
  c = _;
  e = _;
  books = stepped (stepped ended);
  through_the_booking = by_transaction (done refl) (by_conversion (on_one 40000 100) refl (by_transaction (done refl) at_end));
  run = busy_call (book first_slip 32)
      (busy_call draw busy_made
      (stepped (stepped (stepped (ended))))
      (by_transaction (done refl) (by_conversion (on_one 40000 20000) refl (by_transaction (done refl) (by_transaction (done refl) (at_end))))))
      (stepped (stepped ended))
      (by_transaction (done refl) (by_conversion (on_one 40000 100) refl (by_transaction (done refl) at_end)));
  sound = refl;
  counted = refl;
  sum = refl;
  running = refl;
}

look_193 : BusyLook pac193x
look_193 = record {
  taken = _;
  code_read = _;
  t = _;
  c = _;
  looks = stepped (stepped ended);
  through = by_transaction (done refl) (by_conversion (on_one 100 100) refl (by_transaction (done refl) at_end));
  later = refl;
}

look_194 : BusyLook pac194x
look_194 = record {
  taken = _;
  code_read = _;
  t = _;
  c = _;
  looks = stepped (stepped ended);
  through = by_transaction (done refl) (by_conversion (on_one 100 100) refl (by_transaction (done refl) at_end));
  later = refl;
}

pub busy_runs_there_are : BusyRunsThereAre
busy_runs_there_are = record { on_193x = busy_193; on_194x = busy_194; look_193x = look_193; look_194x = look_194 }
