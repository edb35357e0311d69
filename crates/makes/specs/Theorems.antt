-- The theorems that functions of the crate name in their contracts.
use Rattle.chip.specs.Laws.{Lawful}
use Rattle.makes.specs.Pac193x.{pac193x}
use Rattle.makes.specs.Pac194x.{pac194x}

-- both makes keep the laws, so the bytes of every image that their registers can hold give back its entry
pub record MakesLawful : Type 0 where
  pub is_193x : Lawful pac193x
  pub is_194x : Lawful pac194x
