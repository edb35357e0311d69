use Rattle.std.proofs.Common.{◌≡◌, ◌*◌, ◌%◌, ◌^◌, mod-eq_of_lt, arith}
use Rattle.std.proofs.lemmas.Int.{ints}
use Rattle.book.proofs.Totals.{parts_few, parts_some}
use Rattle.book.proofs.bill.parts.Goals as goal

pub returns : goal.returns
returns c =
    let n = c.args.shunt * 2 ^ c.args.power in
    let few = parts_few c.args.shunt c.args.power (omega arith) (omega arith) in
    let some = parts_some c.args.shunt c.args.power (omega arith) in
    let whole : n % 2 ^ 128 ≡ n = mod-eq_of_lt (omega arith) in
    rw c.from.ensures (record { value = omega (arith, ints); some = omega (arith, ints) })
