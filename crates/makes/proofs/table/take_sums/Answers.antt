use Rattle.std.proofs.Common.{◌+◌, ◌*◌, [], ◌∷◌, refl, ◌∙◌, arith, w64}
use Rattle.std.proofs.lemmas.Int.{to_z-of_z}
use Rattle.makes.proofs.Takes.{moved_sum, taken_sum}
use Rattle.makes.proofs.table.take_sums.Goals as goal

pub returns : goal.returns
returns c =
    let w = c.args.width in
    let bs = c.args.cursor.now.rest.now in
    let second = moved_sum bs 0 w (0 + w) c.requires refl c.take_sum.ensures.rest refl in
    let third = moved_sum bs (0 + w) w (0 + 2 * w) c.requires second c.take_sum-2.ensures.rest (omega arith) in
    let fourth = moved_sum bs (0 + 2 * w) w (0 + 3 * w) c.requires third c.take_sum-3.ensures.rest (omega arith) in
    let a = to_z-of_z w64 _ (record { sfits = c.take_sum.type_inv }) ∙ taken_sum bs 0 w c.requires refl c.in_mask.ensures c.take_sum.ensures.value in
    let b = to_z-of_z w64 _ (record { sfits = c.take_sum-2.type_inv }) ∙ taken_sum bs (0 + w) w c.requires second c.in_mask-2.ensures c.take_sum-2.ensures.value in
    let d = to_z-of_z w64 _ (record { sfits = c.take_sum-3.type_inv }) ∙ taken_sum bs (0 + 2 * w) w c.requires third c.in_mask-3.ensures c.take_sum-3.ensures.value in
    let e = to_z-of_z w64 _ (record { sfits = c.take_sum-4.type_inv }) ∙ taken_sum bs (0 + 3 * w) w c.requires fourth c.in_mask-4.ensures c.take_sum-4.ensures.value in
    λ i. a i ∷ b i ∷ d i ∷ e i ∷ []
