use Rattle.std.proofs.Common.{◌/◌, ◌%◌, drop, refl, ap, ◌∙◌, ap₂}
use Rattle.makes.proofs.Takes.{moved, sums_from, taken}
use Rattle.makes.proofs.pac194x.Pac194xMake.entry_in.Goals as goal
use Rattle.makes.specs.Pac194x.{flagged_194x, two_way_194x}
use Rattle.makes.specs.Table.{sums_in}

pub returns : goal.returns
returns c =
    let bs = c.args.replies.now in
    let at-32 = c.skip.ensures ∙ ap (drop 32) c.new-settings.ensures in
    let at-34 = moved bs 32 2 34 at-32 c.take-control.ensures.rest refl in
    let at-36 = moved bs 34 2 36 at-34 c.take.ensures.rest refl in
    let at-37 = moved bs 36 1 37 at-36 c.skip-2.ensures refl in
    let control = taken bs 32 2 at-32 c.take-control.ensures.value in
    let two_way = c.ways-two_way.ensures ∙ ap two_way_194x (taken bs 34 2 at-34 c.take.ensures.value) in
    let spoilt = c.flagged-spoilt.ensures ∙ ap flagged_194x (taken bs 37 3 at-37 c.take-2.ensures.value) in
    let count = taken bs 0 4 c.new-counters.ensures c.take-3.ensures.value in
    let at-4 = moved bs 0 4 4 c.new-counters.ensures c.take-3.ensures.rest refl in
    let sums = c.take_sums.ensures ∙ ap₂ (λ t r. sums_in 7 56 t 0 r) two_way at-4 ∙ sums_from 7 56 _ 4 bs in
    λ i. record {
      draw = c.args.draw;
      spoilt = spoilt i;
      count = count i;
      rate = (control i / 4096) % 4;
      off = (control i / 16) % 16;
      two_way = two_way i;
      sums = sums i;
    }
