-- A set-up that is within the limits and offered is stored; any other is refused.
use Rattle.std.proofs.Common.{◌≡◌, ℕ, Bool, true, false, cond, ◌&&◌, leb, Ok, Err, refl, ⊎_elim, arith}
use Rattle.std.proofs.lemmas.Bool.{and_from, both_ways, cases_Bool, le-leb}
use Rattle.account.proofs.Wires.{ends_followed}
use Rattle.account.specs.Calls.{Followed}
use Rattle.account.specs.Dialogue.{Meter, refused, sets_up, stored, wanting}
use Rattle.chip.specs.Datasheet.{Datasheet, Wanted}
use Rattle.chip.specs.Driver.{wanted_from}
use Rattle.chip.specs.Laws.{Lawful}
use Rattle.chip.specs.declared.refusal.Refusal.{Refusal}
use Rattle.chip.specs.declared.refusal.Refusal.TheVariants.{Limits}
use Rattle.wire.specs.Wire.{Goes}

abbrev three : (rate off two_way : ℕ) → Wanted
three rate off two_way = record { rate = rate; off = off; two_way = two_way }

module _ (rate off two_way : ℕ) where
  abbrev test : Bool
  test = leb rate 3 && leb off 15 && leb two_way 15

  picks : (b : Bool) (w x : Wanted) → Ok w ≡ cond b (Ok x) (Err Limits) → w ≡ x
  picks true w x e = cc
  picks false w x e = let z : ◌≡◌ {A = ℕ} 0 1 = cc in absurd (omega arith)

  -- settings that were made are the ones asked for
  pub wanted_as_asked : (w : Wanted) → Ok w ≡ wanted_from rate off two_way → w ≡ three rate off two_way
  wanted_as_asked w e = picks test w (three rate off two_way) e

  none : (b : Bool) (x : Wanted) (r : Refusal) → Err r ≡ cond b (Ok x) (Err Limits) → (b ≡ false) × (r ≡ Limits)
  none true x r e = let z : ◌≡◌ {A = ℕ} 0 1 = cc in absurd (omega arith)
  none false x r e = (refl, cc)

  -- the refusal names the limits
  pub limits_refused : (r : Refusal) → Err r ≡ wanted_from rate off two_way → r ≡ Limits
  limits_refused r e = (none test (three rate off two_way) r e).1

  -- what is beyond the common limits no make offers
  pub beyond_not_offered : (m : Datasheet) → Lawful m → (r : Refusal) → Err r ≡ wanted_from rate off two_way → m.offers (three rate off two_way) ≡ false
  beyond_not_offered m law r e = ⊎_elim
      (λ (y : m.offers (three rate off two_way) ≡ true). let l = law.offer_limits (three rate off two_way) y in
      absurd (both_ways test (none test (three rate off two_way) r e).0
      (and_from (leb rate 3 && leb off 15) (leb two_way 15) (and_from (leb rate 3) (leb off 15) (le-leb rate 3 l.0) (le-leb off 15 l.1)) (le-leb two_way 15 l.2))))
      (λ (y : m.offers (three rate off two_way) ≡ false). y)
      (cases_Bool (m.offers (three rate off two_way)))

module _ (m : Datasheet) {W : Type 0} (goes : Goes W) (t : Meter) (w : Wanted) (u : W) where
  pub refused_so : m.offers w ≡ false → Followed goes (sets_up m t w) u t u (refused Limits)
  refused_so e = rw e ends_followed

  pub stored_so : m.offers w ≡ true → Followed goes (sets_up m t w) u (wanting t w) u stored
  stored_so e = rw e ends_followed
