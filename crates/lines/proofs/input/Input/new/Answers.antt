use Rattle.std.proofs.Common.{ap, ◌∙◌}
use Rattle.lines.proofs.Cuts.{first_bytes}
use Rattle.lines.proofs.input.Input.new.Goals as goal
use Rattle.lines.specs.Cuts.{lines}

pub returns : goal.returns
returns c = ap lines (ap (λ x. x.now) c.unwrap_or.ensures ∙ first_bytes _ c.args.text c.get.result c.get.ensures.lookup.0)
