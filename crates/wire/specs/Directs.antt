-- The direct wire: what the chip answers is what the wire promises.
use Rattle.std.specs.Prelude.{◌≡◌, ℕ, Bool, true, false, List, [], length, Some, None, Option, Result, ◌==◌, refl}
use Rattle.std.proofs.Common.{sym}
use Rattle.std.proofs.lemmas.Bool.{both_ways}
use Rattle.chip.specs.declared.refusal.Refusal.{Refusal}
use Rattle.chip.specs.declared.refusal.Who.TheVariants.{Chip}
use Rattle.chip.specs.declared.state.Held.{Held}
use Rattle.chip.specs.declared.state.State.{State}
use Rattle.chip.specs.Chip as chips
use Rattle.chip.specs.Chip.{Reaction, Request, address_of, bad_length, bytes_after, does, no_acknowledge, reacts, read, send, sized, state_after}
use Rattle.chip.specs.Chip.{takes, write}
use Rattle.chip.specs.Datasheet.{Datasheet}
use Rattle.chip.specs.Registers.{number}
use Rattle.wire.specs.Direct.{DirectGoes, DirectPasses, direct_done, direct_refused}
use Rattle.wire.specs.Wire.{Exact, Goes, IsWire, Passes, Reply, Transacted, Went, answered, by_chip, done, heard_of, too_short_or_long, transacted}
use Rattle.wire.specs.Wire.{unacknowledged}
use Rattle.wire.specs.Reactions.{Fits, either, fits, read_leaves}

direct_went : {m : Datasheet} {c c' : State} {q : Request} {b : Bool} {r : Reply} → DirectGoes m c q b r c' → Went m c q b r c'
direct_went (direct_done e) = done e
direct_went (direct_refused e) = by_chip e

-- the bytes that a caller has are those that the chip answered
abbrev Answers : List ℕ → Reaction → Type 0
Answers bs bad_length = Unit {0}
Answers bs no_acknowledge = Unit {0}
Answers bs (does c bs') = bs ≡ bs'

-- what a chip leaves in a reader's bytes is its answer, or, refused, what was there
filled_answers : (x : Reaction) (bs bs' : List ℕ) → bs' ≡ bytes_after x bs → Answers bs' x
filled_answers bad_length bs bs' e = tt
filled_answers no_acknowledge bs bs' e = tt
filled_answers (does c ys) bs bs' e = e

module _ (m : Datasheet) {W : Type 0} (chip_of : W → State) where
  abbrev goes : Goes W
  goes u q b r w = DirectGoes m (chip_of u) q b r (chip_of w)

  abbrev passes : Passes W
  passes u ks w = DirectPasses m (chip_of u) ks (chip_of w)

  -- the direct wire keeps the meaning of a wire
  pub direct_is_wire : IsWire m chip_of goes passes
  direct_is_wire = record { meant = λ u w q b r g. direct_went g; cycle = λ u w ks e. e }

  module _ (u w : W) (q : Request) (bs : List ℕ) (same : sized q ≡ false → w ≡ u) where
    on_reaction : (x : Reaction) → reacts m (chip_of u) q ≡ x → Fits q x → chip_of w ≡ state_after x (chip_of u) → Answers bs x
        → Transacted goes u q (heard_of (chips.heard (address_of q) x) bs) w
    on_reaction bad_length e fit s a = rw (same fit) (too_short_or_long fit)
    on_reaction no_acknowledge e fit s a = transacted {b = false} {r = unacknowledged Chip} fit (rw s (direct_refused e))
    on_reaction (does c ys) e fit s a = rw a (transacted {b = true} {r = answered ys} {w = w} fit (rw s (direct_done e)))

    direct_transacts : (r : Result Unit Refusal) → r ≡ chips.heard (address_of q) (reacts m (chip_of u) q) → chip_of w ≡ state_after (reacts m (chip_of u) q) (chip_of u)
        → Answers bs (reacts m (chip_of u) q) → Transacted goes u q (heard_of r bs) w
    direct_transacts r e s a = rw e (on_reaction (reacts m (chip_of u) q) refl (fits m (chip_of u) q) s a)

  pub direct_writes : {u w : W} {r : Result Unit Refusal} {a : ℕ} {bs : List ℕ} → r ≡ chips.heard a (reacts m (chip_of u) (write a bs)) → chip_of w ≡ state_after (reacts m (chip_of u) (write a bs)) (chip_of u)
      → Transacted goes u (write a bs) (heard_of r []) w
  direct_writes {u} {w} {r} {a} {bs} e s = direct_transacts u w (write a bs) [] (λ f. cc) r e s (none (m.keeps a (number bs) (chip_of u).held))
    where
      none : (o : Option Held) → Answers [] (takes m (chip_of u) a bs o)
      none None = tt
      none (Some x) = either (Answers []) (length bs == m.width a) refl tt

  pub direct_sends : {u w : W} {r : Result Unit Refusal} {a : ℕ} → r ≡ chips.heard a (reacts m (chip_of u) (send a)) → chip_of w ≡ state_after (reacts m (chip_of u) (send a)) (chip_of u)
      → Transacted goes u (send a) (heard_of r []) w
  direct_sends {u} {w} {r} {a} e s =
      direct_transacts u w (send a) [] (λ f. cc) r e s (either (Answers []) (a == m.refresh) refl (either (Answers []) (a == m.refresh_v) refl tt))

  -- a read leaves the wire
  pub direct_reads : {u : W} {r : Result Unit Refusal} {a n : ℕ} (bs : List ℕ) {bs' : List ℕ} → r ≡ chips.heard a (reacts m (chip_of u) (read a n)) → bs' ≡ bytes_after (reacts m (chip_of u) (read a n)) bs
      → Transacted goes u (read a n) (heard_of r bs') u
  direct_reads {u} {r} {a} {n} bs {bs'} e f =
      direct_transacts u u (read a n) bs' (λ _. refl) r e (sym (read_leaves m (chip_of u) a n)) (filled_answers (reacts m (chip_of u) (read a n)) bs bs' f)

-- the direct wire takes each request in one way only
direct_one : (m : Datasheet) {u v w : State} {q : Request} {b d : Bool} {r s : Reply} → DirectGoes m u q b r v → DirectGoes m u q d s w → (b ≡ d) × (r ≡ s) × (v ≡ w)
direct_one m (direct_done e) (direct_done f) = (refl, cc, cc)
direct_one m (direct_done e) (direct_refused f) = cc
direct_one m (direct_refused e) (direct_done f) = cc
direct_one m (direct_refused e) (direct_refused f) = (refl, refl, refl)

direct_some : (m : Datasheet) (u : State) (q : Request) (x : Reaction) → reacts m u q ≡ x → Fits q x → sized q ≡ true → (b : Bool) × (r : Reply) × (w : State) × DirectGoes m u q b r w
direct_some m u q bad_length e fit ok = absurd (both_ways (sized q) fit ok)
direct_some m u q no_acknowledge e fit ok = (false, unacknowledged Chip, u, direct_refused e)
direct_some m u q (does c bs) e fit ok = (true, answered bs, c, direct_done e)

pub direct_exact : (m : Datasheet) → Exact (DirectGoes m) (λ c. Unit {0})
direct_exact m = record { some_way = λ u q fit ok. direct_some m u q (reacts m u q) refl (fits m u q) ok; one_way = λ u v w q b d r s g h. direct_one m g h }
