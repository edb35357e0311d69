use Rattle.account.proofs.Assembly.{every_run}
use Rattle.account.proofs.every_run_is_accounted.Goals as goal

pub returns : goal.returns
returns c = every_run
