use Rattle.std.proofs.Common.{◌≡◌, ◌%◌, ◌^◌, ◌&&◌, not, ℤ, pos, ◌+ℤ◌, ◌-ℤ◌, to_z, of_z, w64, ap, ap₂, ◌∙◌, is_le, is_lt, int_cmp, SFits, arith}
use Rattle.std.proofs.lemmas.Int.{ints}
use Rattle.chip.specs.Registers.{below_zero, value_of}
use Rattle.chip.proofs.Ranges.{low_bits, raised_in_range}
use Rattle.chip.proofs.register.Format.add_in_64.Goals as goal

pub returns-clause-kept : goal.returns-clause-kept
returns-clause-kept c =
    let f = c.args.self in
    let z : ℤ = value_of f.bits f.two_way c.args.register +ℤ c.args.product in
    let above = to_z w64 (of_z w64 (to_z w64 c.above_lowest.result +ℤ to_z w64 (of_z w64 c.args.product))) in
    let fits : SFits w64 z = omega (arith, ints) in
    let sum : to_z w64 (of_z w64 (above -ℤ to_z w64 c.below_zero.result)) ≡ z = omega (arith, ints) in
    ap₂ (λ x y. x % y) (c.cast_unsigned.ensures ∙ ap (of_z w64) sum) c.size_in_64-size.ensures.value
    ∙ low_bits f.bits (omega arith) z fits

pub returns-clause-left : goal.returns-clause-left
returns-clause-left c =
    let f = c.args.self in
    let z : ℤ = value_of f.bits f.two_way c.args.register +ℤ c.args.product in
    let above : to_z w64 (of_z w64 (to_z w64 c.above_lowest.result +ℤ to_z w64 (of_z w64 c.args.product))) ≡ z +ℤ pos (below_zero f.bits f.two_way) = omega (arith, ints) in
    let size : to_z w64 c.size_in_64-size.result ≡ pos (2 ^ f.bits) = omega (arith, ints) in
    ap not (c.contains.ensures.value ∙ ap₂ (λ a s. is_le (int_cmp (pos 0) a) && is_lt (int_cmp a s)) above size ∙ raised_in_range f.bits f.some f.two_way z)
