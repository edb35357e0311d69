use Rattle.std.proofs.Common.{◌<◌, length, refl, ap, rules}
use Rattle.lines.proofs.Cuts.{first_line}
use Rattle.lines.proofs.input.InputIterator.next.Goals as goal

pub returns : goal.returns
returns c =
    let some : 0 < length c.args.self.now.rest.now = search rules in
    let first = first_line c.args.self.now.rest.now _ _ _ _ some c.cut.ensures.no_mark c.cut.ensures.whole c.unwrap_or-self.ensures refl in
    let fewer = ap length first in
    record { steps = first; goes = search rules }
