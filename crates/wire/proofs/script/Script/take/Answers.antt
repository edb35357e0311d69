use Rattle.std.proofs.Common.{arith, length-take, sym, take}
use Rattle.std.proofs.lemmas.List.{at_drop_more}
use Rattle.wire.specs.declared.outcome.Outcome.TheVariants.{Pass}
use Rattle.wire.specs.Scripts.{rest}
use Rattle.wire.proofs.script.Script.take.Goals as goal

pub returns-clause-after : goal.returns-clause-after
returns-clause-after c =
    let s = c.args.self.now in
    sym (at_drop_more rest (take s.added s.outcomes) s.taken Pass (simp length-take (omega arith)))
