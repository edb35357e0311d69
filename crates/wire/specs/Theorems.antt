-- The theorem that a function of the crate names in its contract.
use Rattle.chip.specs.Datasheet.{Datasheet}
use Rattle.wire.specs.Direct.{DirectGoes}
use Rattle.wire.specs.Scripted.{ScriptedGoes}
use Rattle.wire.specs.Wire.{Exact}

-- a direct wire takes each request of good length in just one way, and a scripted wire does so on whatever wire does
pub record WiresExact (m : Datasheet) : Type 0 where
  pub direct : Exact (DirectGoes m) (λ c. Unit {0})
  pub scripted : Exact (ScriptedGoes (DirectGoes m)) (λ s. Unit {0})
  pub twice : Exact (ScriptedGoes (ScriptedGoes (DirectGoes m))) (λ s. Unit {0})
