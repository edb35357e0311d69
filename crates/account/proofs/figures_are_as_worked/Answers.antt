use Rattle.account.proofs.Benches.{worked}
use Rattle.account.proofs.figures_are_as_worked.Goals as goal

pub returns : goal.returns
returns c = worked
