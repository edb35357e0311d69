use Rattle.std.proofs.Common.{◌≡◌, ◌≤◌, ◌+◌, ◌*◌, ◌-◌, ◌^◌, suc, ◌&&◌, map, drop, get_or, refl, sym, ap, ◌∙◌, arith, lit<, pow-suc}
use native.Mathlib.Nat.{pow-le-pow_right}
use Rattle.std.proofs.Math.Seq.{drop-cons}
use Rattle.std.proofs.lemmas.List.{drop_all, take_all}
use Rattle.std.proofs.lemmas.List.Folds.{list_all_at, list_all_more}
use Rattle.std.specs.Char.{is_ascii_digit}
use Rattle.std.specs.Int.Digits.{number_from_digits_after}
use Rattle.std.specs.List.{list_all}
use Rattle.lines.proofs.token.worth.Goals as goal

pub loop-byte-init : goal.loop-byte-init
loop-byte-init c = (refl, refl, omega arith)

pub returns-then-not-is_ascii_digit : goal.returns-then-not-is_ascii_digit
returns-then-not-is_ascii_digit c =
    list_all_at is_ascii_digit c.args.text.now c.loop-byte.byte-index 0 c.loop-byte-test.true (sym c.if-not-is_ascii_digit.ensures.value)

pub overflow_mul-number : goal.overflow_mul-number
overflow_mul-number c =
    let few : c.loop-byte.byte-index ≤ 4 = omega arith in
    let top : 10 ^ c.loop-byte.byte-index ≤ 10 ^ 4 = pow-le-pow_right (lit< tt) few in
    omega (arith, top, c.loop-byte.invariant.2)

pub overflow_add-number : goal.overflow_add-number
overflow_add-number c =
    let few : c.loop-byte.byte-index ≤ 4 = omega arith in
    let top : 10 ^ c.loop-byte.byte-index ≤ 10 ^ 4 = pow-le-pow_right (lit< tt) few in
    omega (arith, top, c.loop-byte.invariant.2, c.if-not-is_ascii_digit.ensures.cases, c.from.ensures)

pub loop-byte-preserved : goal.loop-byte-preserved
loop-byte-preserved c =
    let n = c.loop-byte.number in
    let i = c.loop-byte.byte-index in
    let bs = c.args.text.now in
    let b = get_or bs i 0 in
    let digit = c.if-not-is_ascii_digit.ensures in
    let next : i + 1 ≡ suc i = omega arith in
    let more : 10 * n + c.from.result ≡ n * 10 + (b - 48) = omega (arith, c.from.ensures) in
    let power : 10 ^ (i + 1) ≡ 10 ^ i * 10 = ap (λ k. 10 ^ k) next ∙ pow-suc 10 i in (
      list_all_more is_ascii_digit bs i 0 c.loop-byte-test.true ∙ ap (λ x. x && is_ascii_digit b) c.loop-byte.invariant.0 ∙ sym digit.value,
      ap (λ x. number_from_digits_after 10 x (map (λ b. b - 48) (drop (i + 1) bs))) more
          ∙ ap (λ k. number_from_digits_after 10 (n * 10 + (b - 48)) (map (λ b. b - 48) (drop k bs))) next
          ∙ sym (ap (λ xs. number_from_digits_after 10 n (map (λ b. b - 48) xs)) (drop-cons bs i 0 c.loop-byte-test.true))
          ∙ c.loop-byte.invariant.1,
      omega (arith, power, digit.cases, c.from.ensures, c.loop-byte.invariant.2),
    )

pub returns : goal.returns
returns c =
    let bs = c.args.text.now in (
      sym (ap (list_all is_ascii_digit) (take_all c.loop-byte.byte-index bs c.loop-byte-test.false)) ∙ c.loop-byte.invariant.0,
      sym (ap (λ xs. number_from_digits_after 10 c.loop-byte.number (map (λ b. b - 48) xs)) (drop_all c.loop-byte.byte-index bs c.loop-byte-test.false)) ∙ c.loop-byte.invariant.1,
    )
