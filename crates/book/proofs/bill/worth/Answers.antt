use Rattle.std.proofs.Common.{◌≡◌, ◌^◌, get_or, pos, ◌∙◌, arith, w64, SFits, to_z, of_z, rules}
use mir.Syntax.{w128}
use Rattle.std.proofs.lemmas.Int.{ints}
use Rattle.book.proofs.Totals.{product_is, scaled_at_most, worth_of}
use Rattle.book.proofs.bill.worth.Goals as goal

pub returns : goal.returns
returns c =
    let e = c.args.entry.now in
    let z = get_or e.sums c.args.channel (pos 0) in
    let n = c.weight.result in
    let f : SFits w64 z = search rules in
    let sum : to_z w128 (of_z w128 c.from.result) ≡ z = omega (arith, ints, c.from.ensures) in
    let scale : to_z w128 (of_z w128 c.from-2.result) ≡ pos n = omega (arith, ints, c.from-2.ensures) in
    let small = scaled_at_most (2 ^ 63) 256 z n (omega (arith, ints)) (omega arith) in
    let product = product_is _ _ z (pos n) sum scale (omega arith) in
    record {
      value = product ∙ worth_of c.args.channel e c.in_mask-two_way.result n c.if-entry-ne0.false c.in_mask-two_way.ensures c.weight.ensures.value;
      bound = simp product small;
    }
