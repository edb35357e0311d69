use Rattle.book.proofs.Weights.{weights_have_a_meaning}
use Rattle.book.proofs.theorems.weights_have_a_meaning.Goals as goal

pub returns : goal.returns
returns c = weights_have_a_meaning
