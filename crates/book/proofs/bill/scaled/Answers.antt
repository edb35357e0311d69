use Rattle.std.proofs.Common.{◌≡◌, ◌^◌, ◌≤◌, pos, ◌*ℤ◌, nat_abs, ap₂, subst, sym, SFits, arith, to_z, of_z}
use lib.IntN.{*ℤ_comm}
use mir.Syntax.{w128}
use Rattle.std.proofs.lemmas.Int.{ints}
use Rattle.book.proofs.Totals.{in_i128, product_is, scaled_at_most}
use Rattle.book.proofs.bill.scaled.Goals as goal

pub overflow_mul-result : goal.overflow_mul-result
overflow_mul-result c =
    let n = c.args.factor in
    let z = c.args.total in
    let factor : to_z w128 (of_z w128 c.from.result) ≡ pos n = omega (arith, ints, c.from.ensures) in
    let total : to_z w128 (of_z w128 z) ≡ z = omega (arith, ints) in
    let small = scaled_at_most (2 ^ 83) (2 ^ 32) z n (omega arith) (omega arith) in
    let few : nat_abs (pos n *ℤ z) ≤ 2 ^ 115 = rw (*ℤ_comm (pos n) z) small in
    subst (SFits w128) (sym (ap₂ ◌*ℤ◌ factor total)) (in_i128 (pos n *ℤ z) (omega arith))

pub returns : goal.returns
returns c =
    let n = c.args.factor in
    let z = c.args.total in
    let factor : to_z w128 (of_z w128 c.from.result) ≡ pos n = omega (arith, ints, c.from.ensures) in
    let total : to_z w128 (of_z w128 z) ≡ z = omega (arith, ints) in
    let small = scaled_at_most (2 ^ 83) (2 ^ 32) z n (omega arith) (omega arith) in
    let few : nat_abs (pos n *ℤ z) ≤ 2 ^ 115 = rw (*ℤ_comm (pos n) z) small in
    let product = product_is _ _ (pos n) z factor total (omega arith) in
    record { value = product; bound = simp product few }
