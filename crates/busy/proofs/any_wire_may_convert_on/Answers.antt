use Rattle.busy.proofs.Wires.{converts_on}
use Rattle.busy.proofs.any_wire_may_convert_on.Goals as goal

pub returns : goal.returns
returns g c = converts_on g.W.Make.Make.sheet g.met.W.Wire.meant
