use Rattle.std.proofs.Common.{◌/◌, ◌%◌, drop, refl, ap, ◌∙◌, ap₂}
use Rattle.makes.proofs.Takes.{moved, sums_from, taken}
use Rattle.makes.proofs.pac193x.Pac193xMake.entry_in.Goals as goal
use Rattle.makes.specs.Pac193x.{mask_193x}
use Rattle.makes.specs.Table.{sums_in}

pub returns : goal.returns
returns c =
    let bs = c.args.replies.now in
    let at-27 = c.skip.ensures ∙ ap (drop 27) c.new-settings.ensures in
    let at-28 = moved bs 27 1 28 at-27 c.take-control.ensures.rest refl in
    let at-29 = moved bs 28 1 29 at-28 c.take.ensures.rest refl in
    let control = taken bs 27 1 at-27 c.take-control.ensures.value in
    let off = c.masked-off.ensures ∙ ap mask_193x (taken bs 28 1 at-28 c.take.ensures.value) in
    let two_way = c.masked-two_way.ensures ∙ ap mask_193x (taken bs 29 1 at-29 c.take-2.ensures.value) in
    let count = taken bs 0 3 c.new-counters.ensures c.take-3.ensures.value in
    let at-3 = moved bs 0 3 3 c.new-counters.ensures c.take-3.ensures.rest refl in
    let sums = c.take_sums.ensures ∙ ap₂ (λ t r. sums_in 6 48 t 0 r) two_way at-3 ∙ sums_from 6 48 _ 3 bs in
    λ i. record {
      draw = c.args.draw;
      spoilt = control i % 2;
      count = count i;
      rate = (control i / 64) % 4;
      off = off i;
      two_way = two_way i;
      sums = sums i;
    }
