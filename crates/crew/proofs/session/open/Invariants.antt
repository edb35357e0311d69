use Rattle.std.proofs.Common.{length, string_bytes}
use Rattle.crew.proofs.Texts.{SoFar}
use Rattle.crew.proofs.Openings.{Opens}
use Rattle.lines.specs.Inputs.{lines_left}
use Rattle.crew.proofs.session.open.Given as goal

abbrev pub invariant-loop-line : goal.invariant-loop-line
invariant-loop-line l = SoFar Opens (lines_left l.initial.input) (lines_left l.input) (string_bytes l.initial.text) (string_bytes l.text)

abbrev pub decreases-loop-line : goal.decreases-loop-line
decreases-loop-line l = length (lines_left l.input)
