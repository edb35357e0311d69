use Rattle.busy.proofs.Assembly.{every_busy_run}
use Rattle.busy.proofs.every_busy_run_is_accounted.Goals as goal

pub returns : goal.returns
returns c = every_busy_run
