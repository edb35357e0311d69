-- A book: lent places, of which the first are filled.
use Rattle.std.specs.Prelude.{ℕ, ◌+◌, cond, List, length, take, Ok, Err, Result, nat_le, slice_set}
use Rattle.chip.specs.declared.entry.Entry.{Entry}
use Rattle.chip.specs.declared.refusal.Refusal.{Refusal}
use Rattle.chip.specs.declared.refusal.Refusal.TheVariants.{Limits, Full}
use Rattle.chip.specs.Datasheet.{Datasheet}
use Rattle.book.specs.declared.book.Book.{Book}
use Rattle.book.specs.Bill.{Bill, bill, no_bill}

-- what a book holds
pub record Pages : Type 0 where
  pub places : List Entry
  pub filled : ℕ

abbrev pub pages : Book → Pages
pages b = record { places = b.places.now; filled = b.filled }

abbrev pub entries : Pages → List Entry
entries b = take b.filled b.places

-- the next free place gets the entry
abbrev pub put : Entry → Pages → Pages
put e b = record { places = slice_set b.places b.filled e; filled = b.filled + 1 }

-- what putting an entry answers, and the book after it: with no place free it is full
abbrev pub putting : Entry → Pages → Result Unit Refusal × Pages
putting e b = cond (nat_le (length b.places) b.filled) (Err Full, b) (Ok tt, put e b)

-- a book with more filled than it has places is outside its limits
abbrev pub bill_of_pages : Datasheet → Pages → (channel shunt : ℕ) → Bill
bill_of_pages m b ch u = cond (nat_le b.filled (length b.places)) (bill m (length b.places) (entries b) ch u) (no_bill Limits)
