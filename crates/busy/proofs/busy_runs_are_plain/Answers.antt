use Rattle.busy.proofs.Assembly.{busy_is_plain}
use Rattle.busy.proofs.busy_runs_are_plain.Goals as goal

pub returns : goal.returns
returns c = busy_is_plain
