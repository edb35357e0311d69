-- The theorems that the crate's functions name.
use Rattle.account.proofs.Benches.{witnessed_193, witnessed_194}
use Rattle.account.proofs.Spoils.{spoilt_193, spoilt_194}
use Rattle.account.specs.Theorems.{RunsThereAre}

pub runs_there_are : RunsThereAre
runs_there_are = record { on_193x = witnessed_193; on_194x = witnessed_194; spoilt_193x = spoilt_193; spoilt_194x = spoilt_194 }
