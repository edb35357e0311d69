use Rattle.std.proofs.Common.{refl, rules}
use Rattle.account.proofs.Wires.{made_cycle}
use Rattle.meter.proofs.meter.Meter.cycle.Goals as goal

pub returns : goal.returns
returns g c = made_cycle g.W.Make.Make.sheet g.met.W.Wire.meant g.met.W.Make.Make.lawful (search rules) c.cycle.ensures refl
