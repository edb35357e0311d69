-- A call on a wire that takes each request in one way only.
use Rattle.std.proofs.Common.{◌≡◌, Bool, List, sym, refl, ap, subst}
use Rattle.account.specs.Calls.{CallsExact, OneEnd, over}
use Rattle.account.specs.Dialogue.{Answer, Follows, Meter, Way, asks, ended, ends, stepped}
use Rattle.account.specs.Steps.{Step, Trip, at_rest, onward}
use Rattle.chip.specs.Chip.{Request}
use Rattle.chip.specs.Datasheet.{Datasheet}
use Rattle.wire.specs.Direct.{DirectGoes}
use Rattle.wire.specs.Directs.{direct_exact}
use Rattle.wire.specs.Scripted.{ScriptedGoes, Scripting, breaks, drops, passes_on, refuses, seen, with_none_left}
use Rattle.wire.specs.Scripteds.{scripted_exact}
use Rattle.wire.specs.Wire.{Exact, Goes, Reply}

module _ {W : Type 0} (goes : Goes W) (fit : W → Type 0) (exact : Exact goes fit) where
  one_way : (s : Way) (u : W) (ss zs : List Step) (a b : Meter × Answer) (v w : W) → Follows s ss a → Trip goes u ss v → Follows s zs b → Trip goes u zs w
      → (a ≡ b) × (ss ≡ zs) × (v ≡ w)
  one_way (ends x) u ss zs a b v w ended at_rest ended at_rest = (refl, refl, refl)
  one_way (asks q f) u ss zs a b v w (stepped {r = r} k) (onward {v = x} g p) (stepped {ss = zs'} k') (onward g' p') =
      let e = exact.one_way _ _ _ _ _ _ _ _ g g' in
      let z = one_way (f r) x _ _ a b v w k p (subst (λ y. Follows (f y) zs' b) (sym e.1) k') (subst (λ y. Trip goes y zs' w) (sym e.2) p') in
      (z.0, cc, z.2)

-- how a wire goes, told by a view of it
abbrev Told : {W V : Type 0} → Goes W → (view : W → V) → Goes V → Type 0
Told {W} goes view seen_goes = (u w : W) (q : Request) (b : Bool) (r : Reply) → goes u q b r w → seen_goes (view u) q b r (view w)

module _ {W V : Type 0} (goes : Goes W) (view : W → V) (seen_goes : Goes V) (told : Told goes view seen_goes) where
  trip_told : {u w : W} {ss : List Step} → Trip goes u ss w → Trip seen_goes (view u) ss (view w)
  trip_told at_rest = at_rest
  trip_told (onward g t) = onward (told _ _ _ _ _ g) (trip_told t)

  one_end : (fit : V → Type 0) → Exact seen_goes fit → OneEnd goes view
  one_end fit exact s u t t' w w' r r' p q =
      let e = one_way seen_goes fit exact s (view u) p.steps q.steps (t, r) (t', r') (view w) (view w') p.follows (trip_told p.trip) q.follows (trip_told q.trip) in
      (ap (λ x. x.0) e.0, ap (λ x. x.1) e.0, e.1, e.2)

  -- a scripted wire is told by the view of the wire below
  script_told : (u w : Scripting W) (q : Request) (b : Bool) (r : Reply) → ScriptedGoes goes u q b r w → ScriptedGoes seen_goes (over view u) q b r (over view w)
  script_told u w q b r (with_none_left g) = with_none_left (told _ _ _ _ _ g)
  script_told u w q b r (passes_on g) = passes_on (told _ _ _ _ _ g)
  script_told u w q b r refuses = refuses
  script_told u w q b r breaks = breaks
  script_told u w q b r (drops g) = drops (told _ _ _ _ _ g)

pub calls_exact : (m : Datasheet) (M : Type 0) → CallsExact m M
calls_exact m M =
    let direct = direct_exact m in
    let scripted = scripted_exact direct in
    record {
      direct = one_end _ _ (DirectGoes m) (λ u w q b r g. g) _ direct;
      scripted = one_end _ _ (ScriptedGoes (DirectGoes m)) (λ u w q b r g. script_told _ (λ d. d.chip.state) (DirectGoes m) (λ u w q b r g. g) _ _ q b r g) _ scripted;
      twice = one_end _ _ (ScriptedGoes (ScriptedGoes (DirectGoes m)))
          (λ u w q b r g. script_told _ (λ s. over (λ d. d.chip.state) (seen s)) (ScriptedGoes (DirectGoes m))
          (λ u w q b r g. script_told _ (λ d. d.chip.state) (DirectGoes m) (λ u w q b r g. g) _ _ q b r g) _ _ q b r g) _ (scripted_exact scripted);
    }
