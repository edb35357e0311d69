use Rattle.std.proofs.Common.{ℕ, arith}
use Rattle.std.proofs.lemmas.List.{length-take}
use Rattle.std.proofs.lemmas.Result.{err_from_is_err_and}
use Rattle.lines.proofs.Cuts.{next_piece, no_piece}
use Rattle.lines.proofs.Pieces.{at_the_end, not_a_number, one_too_many}
use Rattle.lines.proofs.line.all_numbers.Goals as goal

pub returns-in_err-try_from : goal.returns-in_err-try_from
returns-in_err-try_from c =
    let first = next_piece _ _ _ _ _ c.in-Some.ensures.steps in
    let p = err_from_is_err_and c.from_residual.result c.from_residual.ensures.1 in
    rw (p.1, p.2) (not_a_number _ _ _ c.loop-token.invariant _ _ first _ c.in_err-try_from.ensures)

pub returns-in_err-push : goal.returns-in_err-push
returns-in_err-push c =
    let first = next_piece _ _ _ _ _ c.in-Some.ensures.steps in
    let full = c.in_err-push.ensures.cases in
    let p = err_from_is_err_and c.from_residual-in_err-push.result c.from_residual-in_err-push.ensures.1 in
    rw (p.1, p.2) (full.0, one_too_many _ _ _ c.loop-token.invariant _ _ first _ c.in_ok-try_from.ensures full.2)

pub returns : goal.returns
returns c = at_the_end _ _ _ c.loop-token.invariant (no_piece _ _ c.in-None.ensures.steps.0) (omega (arith, c.loop-token.fields.few, length-take {A = ℕ}))
