use Rattle.std.proofs.Common.{sym, ap, subst}
use Rattle.std.proofs.lemmas.Result.{err_from_is_err_and}
use Rattle.account.proofs.Reading.{readable_sized}
use Rattle.account.specs.Calls.{Followed}
use Rattle.account.specs.Dialogue.{asks_mark, at, refused}
use Rattle.meter.proofs.Drawing.{carried_out_before, handed_as, mark_failed, not_carried_out}
use Rattle.meter.proofs.meter.Meter.draw_in_doubt.Goals as goal
use Rattle.meter.specs.Views.{condition_of, meter_of}

pub returns-in_err-number-clause-followed : goal.returns-in_err-number-clause-followed
returns-in_err-number-clause-followed g c doubt =
    let m = g.W.Make.Make.sheet in
    let t = meter_of c.args.self.now in
    let ok = readable_sized m m.mark_at g.met.W.Make.Make.lawful.mark_readable in
    let a = ap (λ x. x.mark.address) c.constants.ensures in
    let n = ap (λ x. x.mark.length) c.constants.ensures in
    let p = err_from_is_err_and c.from_residual.result c.from_residual.ensures.1 in
    rw (p.1, p.2) (subst (λ k. Followed g.W.Wire.goes (asks_mark m t) c.args.self.now.wire (at t (condition_of k)) c.read_number.new.wire (refused c.in_err-number.field-0.0)) (sym doubt)
    (mark_failed g.W.Wire.goes m t _ _ a n ok _ c.in_err-number.ensures))

pub returns-then-mark_in-self-clause-followed : goal.returns-then-mark_in-self-clause-followed
returns-then-mark_in-self-clause-followed g c doubt =
    let m = g.W.Make.Make.sheet in
    let t = meter_of c.args.self.now in
    let ok = readable_sized m m.mark_at g.met.W.Make.Make.lawful.mark_readable in
    let a = ap (λ x. x.mark.address) c.constants.ensures in
    let n = ap (λ x. x.mark.length) c.constants.ensures in
    handed_as g.W.Wire.goes (asks_mark m t) t c.hand_out.ensures.after c.hand_out.ensures.wire c.hand_out.ensures.slip
    (carried_out_before g.W.Wire.goes m t _ _ a n ok c.in_ok-number.ensures c.mark_in.ensures c.if-mark_in-self.true)

pub returns-clause-followed : goal.returns-clause-followed
returns-clause-followed g c doubt =
    let m = g.W.Make.Make.sheet in
    let t = meter_of c.args.self.now in
    let ok = readable_sized m m.mark_at g.met.W.Make.Make.lawful.mark_readable in
    let a = ap (λ x. x.mark.address) c.constants.ensures in
    let n = ap (λ x. x.mark.length) c.constants.ensures in
    not_carried_out g.W.Wire.goes m t _ _ a n ok c.in_ok-number.ensures c.mark_in.ensures c.if-mark_in-self.false c.refresh.ensures.followed
