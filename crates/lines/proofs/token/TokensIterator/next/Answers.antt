use Rattle.std.proofs.Common.{length, ap, ◌∙◌, rules}
use Rattle.lines.specs.Cuts.{pieces_left, placed}
use Rattle.lines.proofs.Cuts.{first_piece}
use Rattle.lines.proofs.token.TokensIterator.next.Goals as goal

pub returns : goal.returns
returns c =
    let first = ap pieces_left c.in_ok-self.was ∙ first_piece c.in_ok-self.field-0.now _ _ c.cut.ensures.no_mark c.cut.ensures.whole in
    let token = ap (placed c.args.self.now.place) first in
    let fewer = ap length token in
    record { steps = token; goes = search rules }
