-- A desk, as the meter's machine speaks of it.
use Rattle.std.specs.Prelude.{ℕ, List, Some, None, Option}
use Rattle.account.specs.Dialogue as machine
use Rattle.book.specs.Book.{Pages, pages}
use Rattle.desk.specs.declared.desk.Desk.{Desk}
use Rattle.meter.specs.declared.slip.Slip.{Slip}
use Rattle.meter.specs.Views.{meter_of, slip_of}
use Rattle.wire.specs.declared.scripted.Scripted.{Scripted}

-- all that a desk is
pub record Standing (W : Type 0) : Type 0 where
  pub meter : machine.Meter
  pub wire : Scripted W
  pub hand : Option machine.Slip
  pub book : Pages
  pub scratch : List ℕ

abbrev pub hand_of : Option Slip → Option machine.Slip
hand_of None = None
hand_of (Some p) = Some (slip_of p)

abbrev pub standing : {W : Type 0} → Desk W → Standing W
standing d = record {
  meter = meter_of d.meter;
  wire = d.meter.wire;
  hand = hand_of d.slip;
  book = pages d.book;
  scratch = d.scratch;
}

-- the draw number of a slip in hand
abbrev pub draw_of : Option machine.Slip → Option ℕ
draw_of None = None
draw_of (Some p) = Some p.draw
