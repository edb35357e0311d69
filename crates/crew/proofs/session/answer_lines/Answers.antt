use Rattle.crew.proofs.Sessions.{AtPost, line_taken, no_line_left}
use Rattle.crew.proofs.Texts.{completed, nothing_yet, one_more}
use Rattle.crew.proofs.session.answer_lines.Goals as goal

pub loop-line-init : goal.loop-line-init
loop-line-init g c = rw c.into_iter-line-iterator.ensures.into_iter_gives (nothing_yet (AtPost g.M.Make.sheet) _ _)

pub loop-line-preserved : goal.loop-line-preserved
loop-line-preserved g c =
    let m = g.M.Make.sheet in
    one_more (AtPost m) c.answer.result (line_taken m c.in-Some.ensures.steps c.answer.ensures.answered) c.in_ok-append_to.ensures c.loop-line.invariant

pub returns : goal.returns
returns g c =
    let m = g.M.Make.sheet in
    let all = completed (AtPost m) (no_line_left m c.in-None.ensures.steps.0) c.loop-line.invariant in
    record { replies = all.replies; answered = all.rest; prints = all.prints }
