use Rattle.account.proofs.Named.{runs_there_are}
use Rattle.account.proofs.there_are_such_runs.Goals as goal

pub returns : goal.returns
returns c = runs_there_are
