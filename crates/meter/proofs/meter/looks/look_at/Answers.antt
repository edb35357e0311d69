use Rattle.std.proofs.Common.{ap}
use Rattle.std.proofs.lemmas.Result.{err_from_is_err_and}
use Rattle.meter.proofs.Looking.{refresh_v_failed, then_seen}
use Rattle.meter.proofs.meter.looks.look_at.Goals as goal

pub returns-in_err-send : goal.returns-in_err-send
returns-in_err-send g c =
    let a = ap (λ x. x.refresh_v) c.constants.ensures in
    let p = err_from_is_err_and c.from_residual.result c.from_residual.ensures.1 in
    rw (p.1, p.2) (refresh_v_failed g.W.Wire.goes g.W.Make.Make.sheet c.args.channel c.args.quantity _ a _ c.in_err-send.ensures)

pub returns : goal.returns
returns g c =
    let a = ap (λ x. x.refresh_v) c.constants.ensures in
    then_seen g.W.Wire.goes g.W.Make.Make.sheet c.args.channel c.args.quantity _ a c.in_ok-send.ensures c.see.result _ c.see.ensures
