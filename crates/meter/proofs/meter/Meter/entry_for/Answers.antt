use Rattle.std.proofs.Common.{length, take, sym, refl, ap, ◌∙◌, arith}
use Rattle.std.proofs.lemmas.Bool.{leb-false}
use Rattle.std.proofs.lemmas.Result.{err_from_is_err_and}
use Rattle.account.specs.Dialogue.{ends, entered, ready}
use Rattle.account.specs.Dialogue as machine
use Rattle.book.specs.Book.{pages}
use Rattle.chip.specs.declared.refusal.Refusal.TheVariants.{Full, Limits, WrongSlip}
use Rattle.meter.proofs.Spending.{another_slip, beyond_limits, entry_made, full_so, goes_in, limits_fail, limits_hold, no_place, not_overfull, reads_refused, refused_at_once, room_so}
use Rattle.meter.proofs.meter.Meter.entry_for.Goals as goal
use Rattle.meter.specs.Views.{meter_of, slip_of}

pub returns-then-not-within_limits-clause-found : goal.returns-then-not-within_limits-clause-found
returns-then-not-within_limits-clause-found g c =
    let m = g.W.Make.Make.sheet in
    let t = meter_of c.args.self.now in
    let p = slip_of c.args.slip.now in
    let b = pages c.args.book.now in
    let s = c.args.scratch.now in
    let out = limits_fail (length b.places) b.filled (length s) c.within_limits.ensures c.then-not-within_limits.either in
    refused_at_once m g.met.W.Wire.meant g.met.W.Make.Make.lawful t p b s c.args.self.now.wire Limits refl (λ l. refl)
    (beyond_limits m t p (length b.places) b.filled (length s) out)

pub returns-then-not-takes-clause-found : goal.returns-then-not-takes-clause-found
returns-then-not-takes-clause-found g c =
    let m = g.W.Make.Make.sheet in
    let t = meter_of c.args.self.now in
    let p = slip_of c.args.slip.now in
    let b = pages c.args.book.now in
    let s = c.args.scratch.now in
    let within = limits_hold (length b.places) b.filled (length s) c.within_limits.ensures c.if-not-within_limits.false c.if-scratch-lt-LEAST_SCRATCH.false in
    let few = not_overfull m t p (length b.places) b.filled (length s) within in
    refused_at_once m g.met.W.Wire.meant g.met.W.Make.Make.lawful t p b s c.args.self.now.wire WrongSlip refl (λ l. absurd (omega arith))
    (another_slip m t p (length b.places) b.filled (length s) within (sym c.if-not-takes.ensures.fits))

pub returns-then-is_full-clause-found : goal.returns-then-is_full-clause-found
returns-then-is_full-clause-found g c =
    let m = g.W.Make.Make.sheet in
    let t = meter_of c.args.self.now in
    let p = slip_of c.args.slip.now in
    let b = pages c.args.book.now in
    let s = c.args.scratch.now in
    let within = limits_hold (length b.places) b.filled (length s) c.within_limits.ensures c.if-not-within_limits.false c.if-scratch-lt-LEAST_SCRATCH.false in
    let few = not_overfull m t p (length b.places) b.filled (length s) within in
    refused_at_once m g.met.W.Wire.meant g.met.W.Make.Make.lawful t p b s c.args.self.now.wire Full refl (λ l. absurd (omega arith))
    (no_place m t p (length b.places) b.filled (length s) within (sym c.if-not-takes.ensures.fits)
    (full_so (length b.places) b.filled few (sym c.if-is_full.ensures)))

pub returns-in_err-count-clause-found : goal.returns-in_err-count-clause-found
returns-in_err-count-clause-found g c =
    let m = g.W.Make.Make.sheet in
    let t = meter_of c.args.self.now in
    let p = slip_of c.args.slip.now in
    let b = pages c.args.book.now in
    let s = c.args.scratch.now in
    let within = limits_hold (length b.places) b.filled (length s) c.within_limits.ensures c.if-not-within_limits.false c.if-scratch-lt-LEAST_SCRATCH.false in
    let way = goes_in m t p (length b.places) b.filled (length s) within (sym c.if-not-takes.ensures.fits) (room_so (length b.places) b.filled (sym c.if-is_full.ensures)) in
    let y = err_from_is_err_and c.from_residual.result c.from_residual.ensures.1 in
    rw (y.1, y.2)
    (reads_refused m g.met.W.Wire.meant g.met.W.Make.Make.lawful t p b s c.args.self.now.wire within way c.in_err-count.field-0.0 refl
    (c.in_err-count.ensures t (λ rs. ends (machine.at t ready, entered (m.entry_in rs p.draw)))))

pub returns-clause-found : goal.returns-clause-found
returns-clause-found g c =
    let m = g.W.Make.Make.sheet in
    let t = meter_of c.args.self.now in
    let p = slip_of c.args.slip.now in
    let b = pages c.args.book.now in
    let s = c.args.scratch.now in
    let within = limits_hold (length b.places) b.filled (length s) c.within_limits.ensures c.if-not-within_limits.false c.if-scratch-lt-LEAST_SCRATCH.false in
    let way = goes_in m t p (length b.places) b.filled (length s) within (sym c.if-not-takes.ensures.fits) (room_so (length b.places) b.filled (sym c.if-is_full.ensures)) in
    let room = leb-false (length b.places) b.filled (sym c.if-is_full.ensures) in
    let entry = c.entry_in.ensures ∙ ap (λ d. m.entry_in (take c.in_ok-count.count c.gather.new.replies) d) c.draw.ensures in
    record {
      room = room;
      made = entry_made m g.met.W.Wire.meant g.met.W.Make.Make.lawful t p b s c.args.self.now.wire within way c.in_ok-count.count c.gather.new.replies c.entry_in.result
          c.in_ok-count.ensures entry room refl;
    }
