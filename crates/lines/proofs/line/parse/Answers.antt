use Rattle.std.proofs.Common.{◌≤◌, length, sym, ap, ◌∙◌, arith}
use Rattle.std.proofs.lemmas.Bool.Decides.{nat_tests}
use Rattle.std.proofs.lemmas.Option.{MatchOption-at_some}
use Rattle.lines.specs.Lines.{with_fields}
use Rattle.lines.proofs.Cuts.{next_piece}
use Rattle.lines.proofs.Pieces.{said_is}
use Rattle.lines.proofs.line.parse.Goals as goal

pub returns : goal.returns
returns c =
    let some : 1 ≤ length c.args.line.now = grind (arith, nat_tests) in
    let few : length c.args.line.now ≤ 80 = grind (arith, nat_tests) in
    let first = MatchOption-at_some _ _ _ c.in_ok-word.ensures.ok_part c.next.ensures.steps in
    said_is c.args.line.now _ _ some few (next_piece _ _ _ _ _ (sym c.new-tokens.ensures ∙ first))
    ∙ ap (with_fields c.in_ok-word.word.text.now) c.in_ok-fields.ensures
