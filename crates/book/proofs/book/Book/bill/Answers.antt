use Rattle.std.proofs.Common.{◌≤◌, length, arith, rules}
use Rattle.book.proofs.Walks.{bad_within}
use Rattle.book.proofs.book.Book.bill.Goals as goal

pub overflow_cast-result : goal.overflow_cast-result
overflow_cast-result g c =
    let in-it = bad_within g.M.Make.sheet c.entries-entries.result.now 0 c.in-Some.place c.in-Some.ensures in
    let few : length c.entries-entries.result.now ≤ 4096 = search rules in
    omega arith
