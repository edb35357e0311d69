-- The direct wire: it refuses just what the chip refuses, and never breaks.
use Rattle.std.specs.Prelude.{◌≡◌, ℕ, Bool, true, false, List}
use Rattle.chip.specs.declared.refusal.Who.TheVariants.{Chip}
use Rattle.chip.specs.declared.state.State.{State}
use Rattle.chip.specs.Chip.{Request, cycled, does, no_acknowledge, reacts}
use Rattle.chip.specs.Datasheet.{Datasheet}
use Rattle.wire.specs.Wire.{Passes, Reply, answered, unacknowledged}

-- such a wire is its chip
pub data DirectGoes (m : Datasheet) : State → Request → Bool → Reply → State → Type 0 where
  direct_done : {c c' : State} {q : Request} {bs : List ℕ} → reacts m c q ≡ does c' bs → DirectGoes m c q true (answered bs) c'
  direct_refused : {c : State} {q : Request} → reacts m c q ≡ no_acknowledge → DirectGoes m c q false (unacknowledged Chip) c

abbrev pub DirectPasses : Datasheet → Passes State
DirectPasses m c ks c' = c' ≡ cycled m ks c
