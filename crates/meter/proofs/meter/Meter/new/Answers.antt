use Rattle.std.proofs.Common.{refl}
use Rattle.account.proofs.Wires.{begun}
use Rattle.meter.proofs.meter.Meter.new.Goals as goal

pub returns : goal.returns
returns g c = begun g.W.Make.Make.sheet g.met.W.Wire.meant g.met.W.Make.Make.lawful refl refl
