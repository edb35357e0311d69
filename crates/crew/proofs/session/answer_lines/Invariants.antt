use Rattle.std.proofs.Common.{string_bytes}
use Rattle.crew.proofs.Sessions.{AtPost}
use Rattle.crew.proofs.Texts.{SoFar}
use Rattle.desk.specs.Standing.{standing}
use Rattle.lines.specs.Inputs.{lines_left}
use Rattle.crew.proofs.session.answer_lines.Given as goal

abbrev pub invariant-loop-line : goal.invariant-loop-line
invariant-loop-line g l =
    SoFar (AtPost g.M.Make.sheet) (lines_left l.initial.input, standing l.initial.post.desk) (lines_left l.line-iterator, standing l.post.desk)
    (string_bytes l.initial.text) (string_bytes l.text)
