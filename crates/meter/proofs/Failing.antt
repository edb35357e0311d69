-- A transaction of a call that was refused ends the call as its dialogue says.
use Rattle.std.proofs.Common.{◌≡◌, ℕ, Bool, true, List, subst, arith}
use Rattle.account.proofs.Wires.{asks_followed, ends_followed, went_so}
use Rattle.account.specs.Calls.{Followed}
use Rattle.account.specs.Dialogue.{Condition, Meter, Way, asks, at, in_doubt, or_fails, refused, refuses, unfinished}
use Rattle.chip.specs.Chip.{Request, address_of, sized}
use Rattle.chip.specs.declared.refusal.Refusal.{Refusal}
use Rattle.chip.specs.declared.refusal.Refusal.TheVariants.{Broken, NotAcknowledged}
use Rattle.meter.specs.Settles.{failed_refresh}
use Rattle.meter.specs.Views.{condition_of}
use Rattle.wire.specs.Wire.{Goes, Reply, Transacted, answered, broken, denied, told, unacknowledged}

module _ {W : Type 0} (goes : Goes W) (q : Request) (ok : sized q ≡ true) (t : Meter) (f : List ℕ → Way) {u w : W} (e : Refusal) (tr : Transacted goes u q (denied e) w) where
  -- the same condition, whether it was not acknowledged or broken
  pub failed_on : (k : Condition) → Followed goes (asks q (or_fails t k k (address_of q) f)) u (at t k) w (refused e)
  failed_on k = let g = went_so goes q ok tr in on g.0 g.1 g.2 g.3
    where
      on : (b : Bool) (r : Reply) → goes u q b r w → denied e ≡ told q r → Followed goes (asks q (or_fails t k k (address_of q) f)) u (at t k) w (refused e)
      on b (answered bs) g h = let z : ◌≡◌ {A = ℕ} 0 1 = cc in absurd (omega arith)
      on b (unacknowledged y) g h = let is : NotAcknowledged y (address_of q) ≡ e = cc in
          asks_followed goes q _ b (unacknowledged y) g (subst (λ z. Followed goes (refuses (at t k) (NotAcknowledged y (address_of q))) w (at t k) w (refused z)) is ends_followed)
      on b broken g h = let is : Broken (address_of q) ≡ e = cc in
          asks_followed goes q _ b broken g (subst (λ z. Followed goes (refuses (at t k) (Broken (address_of q))) w (at t k) w (refused z)) is ends_followed)

  -- of a REFRESH: broken, it is in doubt
  pub failed_refresh_on : Followed goes (asks q (or_fails t unfinished in_doubt (address_of q) f)) u (at t (condition_of (failed_refresh e))) w (refused e)
  failed_refresh_on = let g = went_so goes q ok tr in on g.0 g.1 g.2 g.3
    where
      on : (b : Bool) (r : Reply) → goes u q b r w → denied e ≡ told q r
          → Followed goes (asks q (or_fails t unfinished in_doubt (address_of q) f)) u (at t (condition_of (failed_refresh e))) w (refused e)
      on b (answered bs) g h = let z : ◌≡◌ {A = ℕ} 0 1 = cc in absurd (omega arith)
      on b (unacknowledged y) g h = let is : NotAcknowledged y (address_of q) ≡ e = cc in
          asks_followed goes q _ b (unacknowledged y) g
          (subst (λ z. Followed goes (refuses (at t unfinished) (NotAcknowledged y (address_of q))) w (at t (condition_of (failed_refresh z))) w (refused z)) is ends_followed)
      on b broken g h = let is : Broken (address_of q) ≡ e = cc in
          asks_followed goes q _ b broken g
          (subst (λ z. Followed goes (refuses (at t in_doubt) (Broken (address_of q))) w (at t (condition_of (failed_refresh z))) w (refused z)) is ends_followed)
