-- How many slips are out.
use Rattle.std.specs.Prelude.{ℕ}
use Rattle.meter.specs.declared.condition.Condition.{Condition}
use Rattle.meter.specs.declared.condition.Condition.TheVariants.{Ready, Unfinished, InDoubt, SlipOut}

abbrev pub outstanding : Condition → ℕ
outstanding Ready = 0
outstanding Unfinished = 0
outstanding InDoubt = 0
outstanding (SlipOut n) = 1
