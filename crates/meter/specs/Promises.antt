-- What a meter's calls promise, beside a booking's own `MadeBookCall`.
use Rattle.std.specs.Prelude.{◌≡◌, ℕ, ◌<◌, List, length, Ok, Err, Result}
use Rattle.chip.specs.declared.entry.Entry.{Entry}
use Rattle.chip.specs.declared.refusal.Refusal.{Refusal}
use Rattle.chip.specs.declared.state.State.{State}
use Rattle.chip.specs.Datasheet.{Datasheet}
use Rattle.wire.specs.Wire.{Goes}
use Rattle.account.specs.Calls.{MadeBookCall, MadeCall}
use Rattle.account.specs.Dialogue.{Answer, Call, Meter, Slip, at, bill_answer, bill_for, book, entered, look, looked, ready, refused}
use Rattle.account.specs.Dialogue as machine
use Rattle.book.specs.declared.bill.Bill.{Bill}
use Rattle.book.specs.Billed.{bill_seen}
use Rattle.book.specs.Book.{Pages, put}
use Rattle.meter.specs.declared.reading.Reading.{Reading}
use Rattle.meter.specs.Readings.{reading_of}

-- whatever book and scratch there are, they stay
pub record MadeAlone (m : Datasheet) {W : Type 0} (chip_of : W → State) (goes : Goes W) (q : Call) (t : Meter) (u : W) (t' : Meter) (w : W) (r : Answer) : Type 0 where
  pub made : (places : ℕ) (es : List Entry) (s : List ℕ) → MadeCall m chip_of goes q t u places es s t' w es s r

-- a look that answers shows what it read
pub record LookAnswered (m : Datasheet) {W : Type 0} (chip_of : W → State) (goes : Goes W) (ch q : ℕ) (t : Meter) (u : W) (t' : Meter) (w : W) (shown : Reading) : Type 0 where
  pub reading : machine.Reading
  pub shows : shown ≡ reading_of m reading
  pub made : MadeAlone m chip_of goes (look ch q) t u t' w (looked reading)

abbrev pub LookMade : (m : Datasheet) {W : Type 0} (chip_of : W → State) (goes : Goes W) (ch q : ℕ) (t : Meter) (u : W) (t' : Meter) (w : W) → Result Reading Refusal → Type 0
LookMade m chip_of goes ch q t u t' w (Ok x) = LookAnswered m chip_of goes ch q t u t' w x
LookMade m chip_of goes ch q t u t' w (Err e) = MadeAlone m chip_of goes (look ch q) t u t' w (refused e)

-- all of a booking but its end: refused, the call is done; else the entry, with a place free, and then the call is done once it stands there
pub record EntryFound (m : Datasheet) {W : Type 0} (chip_of : W → State) (goes : Goes W) (p : Slip) (t : Meter) (u : W) (b : Pages) (s : List ℕ) (w : W) (s' : List ℕ)
    (e : Entry) : Type 0 where
  pub room : b.filled < length b.places
  pub made : MadeBookCall m chip_of goes (book p (length s)) t u b s (at t ready) w (put e b) s' (entered e)

abbrev pub EntryFor : (m : Datasheet) {W : Type 0} (chip_of : W → State) (goes : Goes W) (p : Slip) (t : Meter) (u : W) (b : Pages) (s : List ℕ) (w : W) (s' : List ℕ)
    → Result Entry Refusal → Type 0
EntryFor m chip_of goes p t u b s w s' (Ok e) = EntryFound m chip_of goes p t u b s w s' e
EntryFor m chip_of goes p t u b s w s' (Err e) = MadeBookCall m chip_of goes (book p (length s)) t u b s t w b s' (refused e)

-- a bill of the meter's own kind leaves the meter, the wire, the book, and whatever scratch there is
pub record MadeBill (m : Datasheet) {W : Type 0} (chip_of : W → State) (goes : Goes W) (ch u : ℕ) (t : Meter) (w : W) (b : Pages) (r : Result Bill Refusal) : Type 0 where
  pub made : (s : List ℕ) → MadeBookCall m chip_of goes (bill_for m ch u) t w b s t w b s (bill_answer (bill_seen r))
