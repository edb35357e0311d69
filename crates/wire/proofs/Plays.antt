-- What the oldest outcome and the wire below make of a request.
use Rattle.std.specs.Prelude.{◌≡◌, ℕ, Bool, true, false, List, [], ◌∷◌, Ok, Err, Result, refl}
use Rattle.std.proofs.Common.{◌∙◌, ap, subst, sym}
use Rattle.std.proofs.lemmas.Bool.{both_ways}
use Rattle.chip.specs.declared.refusal.Refusal.{Refusal}
use Rattle.chip.specs.declared.refusal.Who.TheVariants.{Wire}
use Rattle.chip.specs.Chip.{Request, address_of, sized}
use Rattle.wire.specs.declared.outcome.Outcome.{Outcome}
use Rattle.wire.specs.declared.outcome.Outcome.TheVariants.{Pass, Refuse, Break, DropReply}
use Rattle.wire.specs.declared.scripted.Scripted.{Scripted}
use Rattle.wire.specs.Scripted.{Played, Plays, ScriptedGoes, breaks, drops, passes_on, refuses, seen, with_none_left}
use Rattle.wire.specs.Scripteds.{at}
use Rattle.wire.specs.Scripts.{next, rest}
use Rattle.wire.specs.Wire.{Goes, Heard, Reply, Transacted, broken, denied, heard, heard_of, told, too_short_or_long, transacted, unacknowledged}

-- what a promise says of a request of good length
went_so : {W : Type 0} (goes : Goes W) (q : Request) → sized q ≡ true → {u w : W} {h : Heard} → Transacted goes u q h w → (b : Bool) × (r : Reply) × goes u q b r w × (h ≡ told q r)
went_so goes q ok (too_short_or_long bad) = absurd (both_ways (sized q) bad ok)
went_so goes q ok (transacted good g) = (_, _, g, refl)

-- a request of good length, where `hear` says what its answer tells a caller
module _ {W R : Type 0} (goes : Goes W) (q : Request) (ok : sized q ≡ true) (hear : Result R Refusal → Heard) (denies : (e : Refusal) → hear (Err e) ≡ denied e) where
  -- an outcome that is played is what a scripted wire does
  plays_so : (asks : W → Result R Refusal → W → Type 0) → ((u w : W) (r : Result R Refusal) → asks u r w → Transacted goes u q (hear r) w)
      → (os : List Outcome) (n : ℕ) (u w : W) (r : Result R Refusal) → Plays asks (address_of q) (next os) u r w
      → (b : Bool) × (p : Reply) × ScriptedGoes goes (at u os n) q b p (at w (rest os) n) × (hear r ≡ told q p)
  plays_so asks means [] n u w r a = let g = went_so goes q ok (means u w r a) in (g.0, g.1, with_none_left g.2, g.3)
  plays_so asks means (Pass ∷ os) n u w r a = let g = went_so goes q ok (means u w r a) in (g.0, g.1, passes_on g.2, g.3)
  plays_so asks means (Refuse ∷ os) n u w r a = (false, unacknowledged Wire, rw a.1 refuses, ap hear a.0 ∙ denies _)
  plays_so asks means (Break ∷ os) n u w r a = (false, broken, rw a.1 breaks, ap hear a.0 ∙ denies _)
  plays_so asks means (DropReply ∷ os) n u w r a = let g = went_so goes q ok (means u w a.1.0 a.1.1) in (g.0, broken, drops g.2, ap hear a.0 ∙ denies _)

  -- what was played keeps the promise of a scripted wire, if the wire below keeps its own
  pub played : {asks : W → Result R Refusal → W → Type 0} {u w : Scripted W} {r : Result R Refusal} → Played asks (address_of q) (seen u) r (seen w)
      → ((u w : W) (r : Result R Refusal) → asks u r w → Transacted goes u q (hear r) w) → Transacted (λ u q b r w. ScriptedGoes goes (seen u) q b r (seen w)) u q (hear r) w
  played {asks} {u} {w} {r} p means =
      let g = plays_so asks means (seen u).outcomes (seen u).added u.below w.below r p.oldest in
      rw g.3 (transacted ok (subst (λ y. ScriptedGoes goes (seen u) q g.0 g.1 y) (λ i. at w.below (sym p.taken i) (sym p.same i)) g.2))

-- what is answered to a read, with the bytes that it filled
abbrev pub with_bytes : List ℕ → Result Unit Refusal → Result (List ℕ) Refusal
with_bytes bs (Ok u) = Ok bs
with_bytes bs (Err e) = Err e

abbrev pub heard_bytes : Result (List ℕ) Refusal → Heard
heard_bytes (Ok bs) = heard bs
heard_bytes (Err e) = denied e

pub heard_with : (bs : List ℕ) (r : Result Unit Refusal) → heard_bytes (with_bytes bs r) ≡ heard_of r bs
heard_with bs (Ok u) = refl
heard_with bs (Err e) = refl
