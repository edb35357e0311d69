use Rattle.account.proofs.Exact.{calls_exact}
use Rattle.account.proofs.calls_are_exact.Goals as goal

pub returns : goal.returns
returns g c = calls_exact g.M.Make.sheet _
