use Rattle.std.proofs.Common.{◌-◌, ◌/◌, ◌%◌, ◌<◌, ◌++◌, length, take, drop, sym, ap, ◌∙◌, arith}
use Rattle.chip.specs.Registers.{big_endian}
use Rattle.chip.proofs.Bytes.{big_endian_at, big_endian_length, by_bytes, over_all, over_more}
use Rattle.chip.proofs.register.put.Goals as goal

pub loop-i-preserved : goal.loop-i-preserved
loop-i-preserved c =
    let w = c.args.width in
    let n = c.args.value in
    let i = c.loop-i.i in
    let all = big_endian_length w n in
    let here : i < length (big_endian w n) = omega arith in
    let room : i < length c.args.bytes.now = omega arith in
    let byte = ap (λ x. (n / x) % 256) (by_bytes (w - 1 - i)) ∙ sym (big_endian_at w n i (omega arith)) in
    simp c.loop-i.invariant (over_more (big_endian w n) c.args.bytes.now i _ here room byte)

pub returns : goal.returns
returns c =
    let w = c.args.width in
    let n = c.args.value in
    let all = big_endian_length w n in
    record {
      count = c.min-count.ensures;
      after = c.loop-i.invariant ∙ over_all (big_endian w n) c.args.bytes.now c.loop-i.i (omega arith) ∙ ap (λ k. take (length c.args.bytes.now) (big_endian w n) ++ drop k c.args.bytes.now) all;
    }
