use Rattle.account.proofs.Benches.{why_fresh}
use Rattle.account.proofs.a_marked_chip_misleads.Goals as goal

pub returns : goal.returns
returns c = why_fresh
