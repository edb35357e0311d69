use Rattle.std.proofs.Common.{sym, ◌∙◌}
use Rattle.crew.proofs.Openings.{Opens, ended_here, none_named, passed_over}
use Rattle.crew.proofs.Texts.{completed, completed_by, nothing_yet, one_more}
use Rattle.crew.proofs.session.open.Goals as goal

pub loop-line-init : goal.loop-line-init
loop-line-init c = nothing_yet Opens _ _

pub loop-line-preserved : goal.loop-line-preserved
loop-line-preserved c =
    one_more Opens c.opening-kind.result.0 (passed_over c.opening-kind.result c.in-Some.ensures.steps c.opening-kind.ensures (sym c.is_some.ensures ∙ c.if-is_some.false))
    c.in_ok-append_to.ensures c.loop-line.invariant

pub returns-then-is_some : goal.returns-then-is_some
returns-then-is_some c =
    let all = completed_by Opens c.opening-kind.result.0 (ended_here c.opening-kind.result c.in-Some.ensures.steps c.opening-kind.ensures (sym c.is_some.ensures ∙ c.if-is_some.true))
    c.in_ok-append_to.ensures c.loop-line.invariant in
    record { replies = all.replies; opening = all.rest; prints = all.prints }

pub returns : goal.returns
returns c =
    let all = completed Opens (none_named c.in_default.ensures.steps.0 c.in_default.ensures.steps.1) c.loop-line.invariant in
    record { replies = all.replies; opening = all.rest; prints = all.prints }
