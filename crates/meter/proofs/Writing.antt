-- The settings' writes, one after the other.
use Rattle.std.proofs.Common.{◌≡◌, ℕ, ◌+◌, List, [], ◌∷◌, drop, sym, refl, subst}
use Rattle.account.proofs.Wires.{answered_on}
use Rattle.account.specs.Calls.{Followed}
use Rattle.account.specs.Dialogue.{Meter, at, or_fails, refused, sets, unfinished}
use Rattle.chip.specs.Chip.{write}
use Rattle.chip.specs.Datasheet.{Datasheet}
use Rattle.chip.specs.declared.refusal.Refusal.{Refusal}
use Rattle.meter.proofs.Failing.{failed_on}
use Rattle.meter.specs.Parts.{Leads}
use Rattle.wire.specs.Wire.{Goes, Transacted, denied, heard}

module _ {W : Type 0} (goes : Goes W) (m : Datasheet) (ps : List (ℕ × List ℕ)) (start : W) where
  module _ (i : ℕ) (p : ℕ × List ℕ) (next : drop i ps ≡ p ∷ drop (i + 1) ps) {u w : W} (before : (t : Meter) → Leads goes (sets m t ps) start (sets m t (drop i ps)) u) where
    -- one write more
    pub one_written : Transacted goes u (write p.0 p.1) (heard []) w → (t : Meter) → Leads goes (sets m t ps) start (sets m t (drop (i + 1) ps)) w
    one_written tr t = record {
      on = λ t' w' r f. (before t).on t' w' r (subst (λ xs. Followed goes (sets m t xs) u t' w' r) (sym next)
          (answered_on goes (write p.0 p.1) refl (or_fails t unfinished unfinished p.0 (λ bs. sets m t (drop (i + 1) ps))) tr refl f));
    }

    -- one that failed
    pub write_failed : (e : Refusal) → Transacted goes u (write p.0 p.1) (denied e) w → (t : Meter) → Followed goes (sets m t ps) start (at t unfinished) w (refused e)
    write_failed e tr t = (before t).on (at t unfinished) w (refused e) (subst (λ xs. Followed goes (sets m t xs) u (at t unfinished) w (refused e)) (sym next)
        (failed_on goes (write p.0 p.1) refl t (λ bs. sets m t (drop (i + 1) ps)) e tr unfinished))
