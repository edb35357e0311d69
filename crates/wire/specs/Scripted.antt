-- The scripted wire over any wire.
use Rattle.std.specs.Prelude.{◌≡◌, ℕ, Bool, false, List, [], ◌∷◌, Err, Result}
use Rattle.chip.specs.declared.refusal.Refusal.{Refusal}
use Rattle.chip.specs.declared.refusal.Refusal.TheVariants.{NotAcknowledged, Broken}
use Rattle.chip.specs.declared.refusal.Who.TheVariants.{Wire}
use Rattle.chip.specs.Chip.{Request}
use Rattle.wire.specs.declared.outcome.Outcome.{Outcome}
use Rattle.wire.specs.declared.outcome.Outcome.TheVariants.{Pass, Refuse, Break, DropReply}
use Rattle.wire.specs.declared.scripted.Scripted.{Scripted}
use Rattle.wire.specs.Scripts.{left, next, rest}
use Rattle.wire.specs.Wire.{Goes, Passes, Reply, broken, unacknowledged}

-- what a scripted wire is: the wire below, the outcomes not yet taken, the oldest first, and how many were ever added
pub record Scripting (W : Type 0) : Type 0 where
  pub below : W
  pub outcomes : List Outcome
  pub added : ℕ

abbrev pub seen : {W : Type 0} → Scripted W → Scripting W
seen s = record { below = s.below; outcomes = left s.script; added = s.script.added }

module _ {W : Type 0} (goes : Goes W) where
  -- the oldest outcome decides, and is taken; with none left a transaction passes, and uses up no place
  pub data ScriptedGoes : Scripting W → Request → Bool → Reply → Scripting W → Type 0 where
    with_none_left : {u w : W} {q : Request} {b : Bool} {r : Reply} {n : ℕ} → goes u q b r w
        → ScriptedGoes (record { below = u; outcomes = []; added = n }) q b r (record { below = w; outcomes = []; added = n })
    passes_on : {u w : W} {q : Request} {b : Bool} {r : Reply} {n : ℕ} {os : List Outcome} → goes u q b r w
        → ScriptedGoes (record { below = u; outcomes = Pass ∷ os; added = n }) q b r (record { below = w; outcomes = os; added = n })
    refuses : {u : W} {q : Request} {n : ℕ} {os : List Outcome} → ScriptedGoes (record { below = u; outcomes = Refuse ∷ os; added = n }) q false
        (unacknowledged Wire) (record { below = u; outcomes = os; added = n })
    breaks : {u : W} {q : Request} {n : ℕ} {os : List Outcome} → ScriptedGoes (record { below = u; outcomes = Break ∷ os; added = n }) q false
        broken (record { below = u; outcomes = os; added = n })
    drops : {u w : W} {q : Request} {b : Bool} {r : Reply} {n : ℕ} {os : List Outcome} → goes u q b r w
        → ScriptedGoes (record { below = u; outcomes = DropReply ∷ os; added = n }) q b broken (record { below = w; outcomes = os; added = n })

-- a cycle takes no outcome
abbrev pub ScriptedPasses : {W : Type 0} → Passes W → Passes (Scripted W)
ScriptedPasses passes u ks w = passes u.below ks w.below × (w.script ≡ u.script)

abbrev pub unplayed : {W : Type 0} → W → Scripting W
unplayed u = record { below = u; outcomes = []; added = 0 }

-- what an outcome makes of a request at an address, where `asks` says what the wire below may answer and become
abbrev pub Plays : {W R : Type 0} → (asks : W → Result R Refusal → W → Type 0) → (address : ℕ) → Outcome → W → Result R Refusal → W → Type 0
Plays asks a Pass u r w = asks u r w
Plays asks a Refuse u r w = (r ≡ Err (NotAcknowledged Wire a)) × (w ≡ u)
Plays asks a Break u r w = (r ≡ Err (Broken a)) × (w ≡ u)
Plays {R = R} asks a DropReply u r w = (r ≡ Err (Broken a)) × ((dropped : Result R Refusal) × asks u dropped w)

-- the oldest outcome was played, and is taken
pub record Played {W R : Type 0} (asks : W → Result R Refusal → W → Type 0) (address : ℕ) (u : Scripting W) (r : Result R Refusal) (w : Scripting W) : Type 0 where
  pub oldest : Plays asks address (next u.outcomes) u.below r w.below
  pub taken : w.outcomes ≡ rest u.outcomes
  pub same : w.added ≡ u.added
