use Rattle.std.proofs.Common.{sym, subst, String, Global, string_bytes}
use Rattle.crew.proofs.Sessions.{kind_answered, no_kind_answered}
use Rattle.crew.proofs.session.answer.Goals.{in-Some+in_ok-serve_kind, in_default}
use Rattle.crew.proofs.session.answer.Goals as goal
use Rattle.crew.specs.Sessions.{InputAnswered}

pub returns : goal.returns
returns c =
    let input = c.args.input.now in
    let lines = c.new-input.ensures in
    let empty = c.new-text.ensures.bytes in
    elim c.match-branch-2.branch [
      | in-Some+in_ok-serve_kind w ↦ subst (λ (x : String Global). InputAnswered input (string_bytes x)) (sym w.text-is)
          (kind_answered input lines empty w.in-Some.kind w.in-Some.is c.in_ok-kind.ensures w.in_ok-serve_kind.ensures)
      | in_default w ↦ subst (λ (x : String Global). InputAnswered input (string_bytes x)) (sym w.text-is)
          (no_kind_answered input lines empty w.in_default.is c.in_ok-kind.ensures)
    ]
