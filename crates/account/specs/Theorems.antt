-- The theorems that the crate's functions name.
use Rattle.makes.specs.Pac193x.{pac193x}
use Rattle.makes.specs.Pac194x.{pac194x}
use Rattle.account.specs.Worked.{Witnessed, SpoiltRun}

-- a sound entry, a write-off, a doubt that is settled and a spoilt entry, on both makes
pub record RunsThereAre : Type 0 where
  pub on_193x : Witnessed pac193x
  pub on_194x : Witnessed pac194x
  pub spoilt_193x : SpoiltRun pac193x
  pub spoilt_194x : SpoiltRun pac194x
