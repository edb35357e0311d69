use Rattle.std.proofs.Common.{◌≡◌, ◌+◌, ◌-◌, length, get_or, take, sym, ◌∙◌, subst, arith, rules}
use borrow.Rule.Slice.PartMut.{mid_len, mid_of}
use Rattle.std.proofs.lemmas.Slice.{take-put_mid}
use Rattle.std.proofs.lemmas.Result.{err_from_is_err_and}
use Rattle.account.proofs.Reading.{readable_sized}
use Rattle.account.specs.Dialogue.{at, gathers, refused}
use Rattle.chip.specs.Chip.{read}
use Rattle.chip.specs.Driver.{span_of}
use Rattle.chip.specs.Laws.{Readable}
use Rattle.chip.specs.declared.driver.Span.{Span}
use Rattle.meter.proofs.Gathering.{has_room, one_gathered, read_failed, so_far_more}
use Rattle.meter.proofs.Items.{next_has, next_is}
use Rattle.meter.proofs.transfer.gather.Goals as goal
use Rattle.meter.specs.Parts.{Laid}
use Rattle.wire.specs.Wire.{Transacted, denied, heard}

abbrev no_span : Span
no_span = record { address = 0; length = 0 }

pub overflow_add-end : goal.overflow_add-end
overflow_add-end g c =
    let xs = c.booking_reads-span-items.result.now in
    let i = c.loop-span.span-index in
    let ps = g.W.Make.Make.sheet.booking_reads in
    let next = next_is span_of xs ps c.booking_reads-span-items.ensures i no_span c.loop-span-test.true in
    let r = has_room ps i (span_of (get_or xs i no_span)) next c.loop-span.end c.loop-span.invariant.0 g.met.W.Make.Make.lawful.few_replies in
    omega arith

pub slice_bounds-fetch-end : goal.slice_bounds-fetch-end
slice_bounds-fetch-end g c =
    let xs = c.booking_reads-span-items.result.now in
    let i = c.loop-span.span-index in
    let ps = g.W.Make.Make.sheet.booking_reads in
    let next = next_is span_of xs ps c.booking_reads-span-items.ensures i no_span c.loop-span-test.true in
    let r = has_room ps i (span_of (get_or xs i no_span)) next c.loop-span.end c.loop-span.invariant.0 g.met.W.Make.Make.lawful.few_replies in
    search rules

pub fetch-requires : goal.fetch-requires
fetch-requires g c =
    let xs = c.booking_reads-span-items.result.now in
    let i = c.loop-span.span-index in
    let p = span_of (get_or xs i no_span) in
    let ps = g.W.Make.Make.sheet.booking_reads in
    let next = next_is span_of xs ps c.booking_reads-span-items.ensures i no_span c.loop-span-test.true in
    let r = has_room ps i p next c.loop-span.end c.loop-span.invariant.0 g.met.W.Make.Make.lawful.few_replies in
    let short = (next_has (Readable g.W.Make.Make.sheet) ps _ i p g.met.W.Make.Make.lawful.booking_readable next).1 in
    let long = mid_len c.loop-span.end (c.loop-span.end + p.1) c.loop-span.replies (omega arith) in
    omega arith

pub returns-in_err-fetch : goal.returns-in_err-fetch
returns-in_err-fetch g c =
    let m = g.W.Make.Make.sheet in
    let xs = c.booking_reads-span-items.result.now in
    let i = c.loop-span.span-index in
    let p = span_of (get_or xs i no_span) in
    let start = c.loop-span.end in
    let e = start + p.1 in
    let ps = m.booking_reads in
    let next = next_is span_of xs ps c.booking_reads-span-items.ensures i no_span c.loop-span-test.true in
    let r = has_room ps i p next start c.loop-span.invariant.0 g.met.W.Make.Make.lawful.few_replies in
    let count : length (mid_of start (e - start) c.loop-span.replies) ≡ p.1 = mid_len start e c.loop-span.replies (omega arith) ∙ omega arith in
    let good = readable_sized m p (next_has (Readable m) ps _ i p g.met.W.Make.Make.lawful.booking_readable next) in
    let x = c.in_err-fetch.field-0.0 in
    let went = subst (λ k. Transacted g.W.Wire.goes c.loop-span.wire (read p.0 k) (denied x) c.fetch.new.wire) count c.in_err-fetch.ensures.0 in
    let y = err_from_is_err_and c.from_residual.result c.from_residual.ensures.1 in
    rw (y.1, y.2) (λ t f. subst (λ s. Laid g.W.Wire.goes (gathers t ps f) c.args.wire.now c.args.scratch.now (at t t.condition) c.fetch.new.wire s (refused x))
    (sym c.in_err-fetch.ensures.1)
    (read_failed g.W.Wire.goes ps c.args.wire.now c.args.scratch.now i p next good (take start c.loop-span.replies) c.loop-span.invariant.1 x went t f))

pub loop-span-preserved : goal.loop-span-preserved
loop-span-preserved g c =
    let m = g.W.Make.Make.sheet in
    let xs = c.booking_reads-span-items.result.now in
    let i = c.loop-span.span-index in
    let p = span_of (get_or xs i no_span) in
    let start = c.loop-span.end in
    let e = start + p.1 in
    let ps = m.booking_reads in
    let next = next_is span_of xs ps c.booking_reads-span-items.ensures i no_span c.loop-span-test.true in
    let r = has_room ps i p next start c.loop-span.invariant.0 g.met.W.Make.Make.lawful.few_replies in
    let count : length (mid_of start (e - start) c.loop-span.replies) ≡ p.1 = mid_len start e c.loop-span.replies (omega arith) ∙ omega arith in
    let good = readable_sized m p (next_has (Readable m) ps _ i p g.met.W.Make.Make.lawful.booking_readable next) in
    let bs = c.fetch.new.copy in
    let long : length bs ≡ p.1 = c.fetch.auto.copy ∙ count in
    let went = subst (λ k. Transacted g.W.Wire.goes c.loop-span.wire (read p.0 k) (heard bs) c.fetch.new.wire) count c.in_ok-fetch.ensures.went in
    let row = take-put_mid start (e - start) c.loop-span.replies bs e (omega arith) (omega arith) in (
      so_far_more ps i p next start c.loop-span.invariant.0,
      one_gathered g.W.Wire.goes ps c.args.wire.now c.args.scratch.now i p next good (take start c.loop-span.replies) c.loop-span.invariant.1 bs _ went
          c.in_ok-fetch.ensures.scratched row,
    )
