use Rattle.std.proofs.Common.{◌^◌, ◌≤◌, ◌-◌, arith, pow_mono}
use Rattle.chip.proofs.register.Format.below_zero.Goals as goal

pub returns-then-self-clause-value : goal.returns-then-self-clause-value
returns-then-self-clause-value c =
    let b : c.args.self.bits - 1 ≤ 61 = omega arith in
    let p : 2 ^ (c.args.self.bits - 1) ≤ 2 ^ 61 = pow_mono b in
    grind arith

pub returns-then-self-clause-bound : goal.returns-then-self-clause-bound
returns-then-self-clause-bound c =
    let b : c.args.self.bits - 1 ≤ 61 = omega arith in
    let p : 2 ^ (c.args.self.bits - 1) ≤ 2 ^ 61 = pow_mono b in
    grind arith
