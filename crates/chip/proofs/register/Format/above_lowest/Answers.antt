use Rattle.std.proofs.Common.{◌+◌, ◌%◌, pos, ap₂, ◌∙◌}
use Rattle.chip.proofs.Ranges.{raised}
use Rattle.chip.proofs.register.Format.above_lowest.Goals as goal

pub returns-clause-value : goal.returns-clause-value
returns-clause-value c =
    ap₂ (λ b s. pos ((c.args.register + b) % s)) c.below_zero.ensures.value c.size_in_64.ensures.value
    ∙ raised c.args.self.bits c.args.self.some c.args.self.two_way c.args.register c.requires.register
