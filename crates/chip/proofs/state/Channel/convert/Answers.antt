use Rattle.std.proofs.Common.{◌≡◌, ◌+ℤ◌, not, ap, ap₂, ◌∙◌, w64, SFits, to_z, of_z, rules}
use Rattle.std.proofs.lemmas.Int.{to_z-of_z}
use Rattle.chip.specs.Chip.{sum_after}
use Rattle.chip.specs.Registers.{bits_of, in_range, value_of}
use Rattle.chip.proofs.state.Channel.convert.Goals as goal

pub returns : goal.returns
returns g c =
    let m = g.M.Make.sheet in
    let ch = c.args.self.now in
    let p = c.product-product.result in
    let f : SFits w64 p = search rules in
    let format = c.new-format.result in
    let stored = to_z w64 (of_z w64 p) in
    let two_way = c.new-format.ensures.1 in
    let bits : format.bits ≡ m.sum_bits = c.new-format.ensures.0 ∙ ap (λ x. x.sum_bits) c.constants.ensures in
    let product : stored ≡ m.product c.args.channel c.args.two_way c.args.codes = to_z-of_z w64 p f ∙ c.product-product.ensures in
    let sum : value_of format.bits format.two_way ch.sum +ℤ stored ≡ sum_after m c.args.two_way c.args.channel c.args.codes ch =
    λ j. value_of (bits j) (two_way j) ch.sum +ℤ product j in
    record {
      after = λ j. record { latest = c.args.codes; product = product j; sum = (c.add-sum.ensures.kept ∙ ap₂ bits_of bits sum) j };
      left = c.add-sum.ensures.left ∙ ap not (λ j. in_range (bits j) (two_way j) (sum j));
    }
