use Rattle.makes.proofs.Figures.{figures}
use Rattle.makes.proofs.theorems.figures_are_as_worked.Goals as goal

pub returns : goal.returns
returns c = figures
