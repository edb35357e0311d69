use Rattle.std.proofs.Common.{◌^◌, ◌≤◌, arith, pow_mono}
use Rattle.chip.proofs.register.Format.size_in_64.Goals as goal

pub returns-clause-value : goal.returns-clause-value
returns-clause-value c = let p : 2 ^ c.args.self.bits ≤ 2 ^ 62 = pow_mono c.requires in omega arith

pub returns-clause-bound : goal.returns-clause-bound
returns-clause-bound c = pow_mono c.requires
