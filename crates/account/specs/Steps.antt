-- One transaction after the other.
use Rattle.std.specs.Prelude.{Bool, List, [], ◌∷◌}
use Rattle.chip.specs.declared.state.State.{State}
use Rattle.chip.specs.Chip.{Request}
use Rattle.chip.specs.Datasheet.{Datasheet}
use Rattle.wire.specs.Wire.{Goes, Reply, Went}

-- one transaction
pub record Step : Type 0 where
  pub asked : Request
  pub carried : Bool
  pub got : Reply

-- the chip along some steps, on some wire
pub data Along (m : Datasheet) : State → List Step → State → Type 0 where
  stays : {c : State} → Along m c [] c
  goes_on : {c c' c'' : State} {s : Step} {ss : List Step} → Went m c s.asked s.carried s.got c' → Along m c' ss c''
      → Along m c (s ∷ ss) c''

-- the wire's own states along some steps: with none it is as it was
pub data Trip {W : Type 0} (goes : Goes W) : W → List Step → W → Type 0 where
  at_rest : {w : W} → Trip goes w [] w
  onward : {u v w : W} {s : Step} {ss : List Step} → goes u s.asked s.carried s.got v → Trip goes v ss w → Trip goes u (s ∷ ss) w
