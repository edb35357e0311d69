use Rattle.std.proofs.Common.{◌≡◌, ◌+◌, ◌≤◌, drop}
use Rattle.book.specs.Bill.{spoilt_entries}
use Rattle.book.proofs.bill.spoilt_entries.Given as goal

abbrev pub invariant-loop-entry : goal.invariant-loop-entry
invariant-loop-entry l = (l.spoilt ≤ l.entry-index) × (l.spoilt + spoilt_entries (drop l.entry-index l.entries) ≡ spoilt_entries l.entries)
