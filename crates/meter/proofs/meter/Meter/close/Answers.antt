use Rattle.std.proofs.Common.{sym, ap, subst}
use Rattle.account.specs.Calls.{Followed}
use Rattle.account.specs.Dialogue.{at, closes, refused}
use Rattle.meter.proofs.Drawing.{close_failed, closed, handed_as}
use Rattle.meter.proofs.meter.Meter.close.Goals as goal
use Rattle.meter.specs.Views.{condition_of, meter_of}

pub returns-in-Err-clause-followed : goal.returns-in-Err-clause-followed
returns-in-Err-clause-followed g c =
    let m = g.W.Make.Make.sheet in
    let t = meter_of c.args.self.now in
    let a = ap (λ x. x.refresh) c.constants.ensures in
    subst (λ k. Followed g.W.Wire.goes (closes m t) c.args.self.now.wire (at t (condition_of k)) c.send.new.self (refused c.in-Err.refusal)) (sym c.after_failed_refresh-self.ensures)
    (close_failed g.W.Wire.goes m t _ a c.in-Err.refusal c.in-Err.ensures)

pub returns-in-Ok-clause-followed : goal.returns-in-Ok-clause-followed
returns-in-Ok-clause-followed g c =
    let m = g.W.Make.Make.sheet in
    let t = meter_of c.args.self.now in
    let a = ap (λ x. x.refresh) c.constants.ensures in
    handed_as g.W.Wire.goes (closes m t) t c.hand_out.ensures.after c.hand_out.ensures.wire c.hand_out.ensures.slip (closed g.W.Wire.goes m t _ a c.in-Ok.ensures)
