use Rattle.std.proofs.Common.{refl, ap}
use Rattle.account.proofs.Wires.{added}
use Rattle.meter.proofs.meter.settings.Meter+Scripted+W.add.Goals as goal

pub returns-clause-run : goal.returns-clause-run
returns-clause-run g c = added g.W.Make.Make.sheet g.met.W.Make.Make.lawful (ap g.W.Wire.chip c.add.ensures.below) refl
