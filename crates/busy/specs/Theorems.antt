-- The theorems that the crate's functions name.
use Rattle.makes.specs.Pac193x.{pac193x}
use Rattle.makes.specs.Pac194x.{pac194x}
use Rattle.account.specs.Single.{single}
use Rattle.busy.specs.Plain.{ImageAlone}
use Rattle.busy.specs.Worked.{BusyRun, BusyLook}

-- both real makes keep it, and so does the small one of a single channel
pub record ImagesAlone : Type 0 where
  pub of_193x : ImageAlone pac193x
  pub of_194x : ImageAlone pac194x
  pub of_single : ImageAlone single

pub record BusyRunsThereAre : Type 0 where
  pub on_193x : BusyRun pac193x
  pub on_194x : BusyRun pac194x
  pub look_193x : BusyLook pac193x
  pub look_194x : BusyLook pac194x
