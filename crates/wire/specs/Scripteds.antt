-- The scripted wire: what the oldest outcome and the wire below make of a request.
use Rattle.std.specs.Prelude.{◌≡◌, ℕ, Bool, true, false, List, [], ◌∷◌, refl}
use Rattle.chip.specs.declared.refusal.Who.TheVariants.{Wire}
use Rattle.chip.specs.declared.state.State.{State}
use Rattle.chip.specs.Chip.{Request, sized}
use Rattle.chip.specs.Datasheet.{Datasheet}
use Rattle.wire.specs.declared.outcome.Outcome.{Outcome}
use Rattle.wire.specs.declared.outcome.Outcome.TheVariants.{Pass, Refuse, Break, DropReply}
use Rattle.wire.specs.declared.scripted.Scripted.{Scripted}
use Rattle.wire.specs.Scripted.{ScriptedGoes, ScriptedPasses, Scripting, breaks, drops, passes_on, refuses, seen, with_none_left}
use Rattle.wire.specs.Wire.{Exact, Goes, IsWire, Passes, Reply, Went, broke_after, broke_before, broken, by_chip, by_wire, done, unacknowledged}

-- a reply that is dropped is broken, whatever it was
dropped : {m : Datasheet} {c c' : State} {q : Request} {b : Bool} {r : Reply} → Went m c q b r c' → Went m c q b broken c'
dropped (done e) = broke_after e
dropped by_wire = broke_before
dropped (by_chip e) = broke_before
dropped broke_before = broke_before
dropped (broke_after e) = broke_after e

-- a scripted wire keeps the meaning of a wire, on whatever wire it stands
pub scripted_is_wire : (m : Datasheet) {W : Type 0} {chip_of : W → State} {goes : Goes W} {passes : Passes W} → IsWire m chip_of goes passes
    → IsWire m (λ (s : Scripted W). chip_of s.below) (λ u q b r w. ScriptedGoes goes (seen u) q b r (seen w)) (ScriptedPasses passes)
scripted_is_wire m {W} {chip_of} {goes} {passes} is = record { meant = λ u w q b r g. on g; cycle = λ u w ks e. is.cycle u.below w.below ks e.0 }
  where
    on : {u w : Scripting W} {q : Request} {b : Bool} {r : Reply} → ScriptedGoes goes u q b r w → Went m (chip_of u.below) q b r (chip_of w.below)
    on (with_none_left g) = is.meant _ _ _ _ _ g
    on (passes_on g) = is.meant _ _ _ _ _ g
    on refuses = by_wire
    on breaks = broke_before
    on (drops g) = dropped (is.meant _ _ _ _ _ g)

abbrev pub at : {W : Type 0} → W → List Outcome → ℕ → Scripting W
at u os n = record { below = u; outcomes = os; added = n }

-- a scripted wire takes each request in one way only, where the wire below does
module _ {W : Type 0} {goes : Goes W} (exact : Exact goes (λ w. Unit {0})) where
  scripted_some : (u : W) (os : List Outcome) (n : ℕ) (q : Request) → sized q ≡ true → (b : Bool) × (r : Reply) × (w : Scripting W) × ScriptedGoes goes (at u os n) q b r w
  scripted_some u [] n q ok = let g = exact.some_way u q tt ok in (g.0, g.1, at g.2 [] n, with_none_left g.3)
  scripted_some u (Pass ∷ os) n q ok = let g = exact.some_way u q tt ok in (g.0, g.1, at g.2 os n, passes_on g.3)
  scripted_some u (Refuse ∷ os) n q ok = (false, unacknowledged Wire, at u os n, refuses)
  scripted_some u (Break ∷ os) n q ok = (false, broken, at u os n, breaks)
  scripted_some u (DropReply ∷ os) n q ok = let g = exact.some_way u q tt ok in (g.0, broken, at g.2 os n, drops g.3)

  scripted_one : {u v w : Scripting W} {q : Request} {b d : Bool} {r s : Reply} → ScriptedGoes goes u q b r v → ScriptedGoes goes u q d s w → (b ≡ d) × (r ≡ s) × (v ≡ w)
  scripted_one (with_none_left g) (with_none_left h) = let p = exact.one_way _ _ _ _ _ _ _ _ g h in (p.0, p.1, cc)
  scripted_one (passes_on g) (passes_on h) = let p = exact.one_way _ _ _ _ _ _ _ _ g h in (p.0, p.1, cc)
  scripted_one refuses refuses = (refl, refl, refl)
  scripted_one breaks breaks = (refl, refl, refl)
  scripted_one (drops g) (drops h) = let p = exact.one_way _ _ _ _ _ _ _ _ g h in (p.0, refl, cc)

  pub scripted_exact : Exact (ScriptedGoes goes) (λ s. Unit {0})
  scripted_exact = record { some_way = λ u q f ok. scripted_some u.below u.outcomes u.added q ok; one_way = λ u v w q b d r s g h. scripted_one g h }
