use Rattle.busy.proofs.Benches.{busy_runs_there_are}
use Rattle.busy.proofs.there_are_busy_runs.Goals as goal

pub returns : goal.returns
returns c = busy_runs_there_are
