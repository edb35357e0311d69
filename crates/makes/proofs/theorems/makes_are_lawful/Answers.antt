use Rattle.makes.specs.Lawful193x.{lawful_193x}
use Rattle.makes.specs.Lawful194x.{lawful_194x}
use Rattle.makes.proofs.theorems.makes_are_lawful.Goals as goal

pub returns : goal.returns
returns c = record { is_193x = lawful_193x; is_194x = lawful_194x }
