use Rattle.busy.proofs.Wires.{carries_busy_runs}
use Rattle.busy.proofs.busy_wires_carry_runs.Goals as goal

pub returns : goal.returns
returns g c = λ alone. carries_busy_runs g.W.Make.Make.sheet g.met.W.BusyWire.meant g.met.W.Make.Make.lawful alone
