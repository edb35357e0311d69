use Rattle.chip.proofs.Soundness.{stays_sound}
use Rattle.chip.proofs.theorems.registers_stay_in_range.Goals as goal

pub returns : goal.returns
returns g c = stays_sound g.M.Make.sheet g.met.M.Make.lawful
