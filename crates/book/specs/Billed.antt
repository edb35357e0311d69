-- A bill as code answers it.
use Rattle.std.specs.Prelude.{Ok, Err, Result}
use Rattle.chip.specs.declared.refusal.Refusal.{Refusal}
use Rattle.book.specs.declared.bill.Bill as code
use Rattle.book.specs.Bill.{Bill, bill_of, no_bill}

abbrev pub bill_seen : Result code.Bill Refusal → Bill
bill_seen (Ok b) = bill_of b.energy b.billed b.spoilt
bill_seen (Err e) = no_bill e
