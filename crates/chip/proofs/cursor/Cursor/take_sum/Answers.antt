use Rattle.std.proofs.Common.{◌≡◌, ◌*◌, ◌^◌, ◌<◌, ◌≤◌, min, take, drop, nat_abs, ap, ◌∙◌, ap₂, arith, pow_mono, w64, to_z, of_z}
use mir.Syntax.{w128}
use Rattle.std.proofs.lemmas.Int.{ints}
use Rattle.chip.proofs.Bytes.{more_room}
use Rattle.chip.proofs.cursor.Cursor.take_sum.Goals as goal
use Rattle.chip.specs.Registers.{number, value_of}

-- a sum of at most seven bytes fits the machine's words
small : (c : goal.After-value) → nat_abs c.value.result < 2 ^ 57
small c =
    let w = c.min-width.result in
    let seven : w ≤ 7 = omega arith in
    let bits : c.new.result.bits ≤ 56 = omega (arith, c.new.ensures.0) in
    let top = more_room c.take-register.result (min w 8) 7 c.take-register.ensures.bound (omega arith) in
    let size : 2 ^ c.new.result.bits ≤ 2 ^ 56 = pow_mono bits in
    omega (arith, c.value.ensures.narrow)

pub overflow_cast-result : goal.overflow_cast-result
overflow_cast-result c = let s = small c in omega (arith, ints)

pub returns : goal.returns
returns c =
    let s = small c in
    let z = c.value.result in
    let same : to_z w64 (of_z w64 (to_z w128 (of_z w128 z))) ≡ z = omega (arith, ints) in
    let w = c.min-width.ensures in
    let eight : min c.min-width.result 8 ≡ min c.args.width 7 = omega arith in
    record {
      value = same ∙ c.value.ensures.value
          ∙ (λ j. value_of (c.new.ensures.0 j) (c.new.ensures.1 j) c.take-register.result)
          ∙ ap₂ (λ x y. value_of (8 * x) c.args.two_way y) w (c.take-register.ensures.value ∙ ap (λ x. number (take x c.args.self.now.rest.now)) eight);
      rest = c.take-register.ensures.rest ∙ ap (λ x. drop x c.args.self.now.rest.now) eight;
    }
