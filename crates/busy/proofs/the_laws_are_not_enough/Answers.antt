use Rattle.busy.proofs.Turning.{laws_not_enough}
use Rattle.busy.proofs.the_laws_are_not_enough.Goals as goal

pub returns : goal.returns
returns c = laws_not_enough
