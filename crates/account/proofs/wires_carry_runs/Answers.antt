use Rattle.account.proofs.Wires.{carries_runs}
use Rattle.account.proofs.wires_carry_runs.Goals as goal

pub returns : goal.returns
returns g c = carries_runs g.W.Make.Make.sheet g.met.W.Make.Make.lawful g.met.W.Wire.meant
