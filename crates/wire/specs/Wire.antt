-- What a transaction may come to on any wire.
use Rattle.std.specs.Prelude.{◌≡◌, ℕ, Bool, true, false, List, Ok, Err, Result}
use Rattle.chip.specs.declared.refusal.Refusal.{Refusal}
use Rattle.chip.specs.declared.refusal.Refusal.TheVariants.{Limits, NotAcknowledged, Broken}
use Rattle.chip.specs.declared.refusal.Who as refuser
use Rattle.chip.specs.declared.refusal.Who.TheVariants.{Wire, Chip}
use Rattle.chip.specs.declared.state.Codes.{Codes}
use Rattle.chip.specs.declared.state.State.{State}
use Rattle.chip.specs.Chip.{Request, address_of, cycled, does, no_acknowledge, reacts, sized}
use Rattle.chip.specs.Datasheet.{Datasheet}

-- what comes back from a transaction whose length is good
pub data Reply : Type 0 where
  answered : List ℕ → Reply
  unacknowledged : refuser.Who → Reply
  broken : Reply

-- the meaning of every wire: whether the chip carried the request out, what came back, and the chip after.
-- The chip is blamed only for what it refuses, and what breaks is always a wire.
pub data Went (m : Datasheet) (c : State) (q : Request) : (carried : Bool) → Reply → State → Type 0 where
  done : {c' : State} {bs : List ℕ} → reacts m c q ≡ does c' bs → Went m c q true (answered bs) c'
  by_wire : Went m c q false (unacknowledged Wire) c
  by_chip : reacts m c q ≡ no_acknowledge → Went m c q false (unacknowledged Chip) c
  broke_before : Went m c q false broken c
  broke_after : {c' : State} {bs : List ℕ} → reacts m c q ≡ does c' bs → Went m c q true broken c'

-- what a caller of a wire hears
pub data Heard : Type 0 where
  heard : List ℕ → Heard
  denied : Refusal → Heard

-- 2 and 3 name the address and who refused
abbrev pub told : Request → Reply → Heard
told q (answered bs) = heard bs
told q (unacknowledged w) = denied (NotAcknowledged w (address_of q))
told q broken = denied (Broken (address_of q))

-- what a call's result says, with the bytes that it filled
abbrev pub heard_of : Result Unit Refusal → List ℕ → Heard
heard_of (Ok u) bs = heard bs
heard_of (Err e) bs = denied e

-- a wire is its own states; `goes` says how this very wire may take a transaction, and what it is then
abbrev pub Goes : Type 0 → Type 1
Goes W = W → Request → Bool → Reply → W → Type 0

abbrev pub Passes : Type 0 → Type 1
Passes W = W → List Codes → W → Type 0

module _ {W : Type 0} (goes : Goes W) where
  -- the promise of read, write and send: a bad length comes first, on every wire, and leaves the wire as it was
  pub data Transacted (u : W) (q : Request) : Heard → W → Type 0 where
    too_short_or_long : sized q ≡ false → Transacted u q (denied Limits) u
    transacted : {b : Bool} {r : Reply} {w : W} → sized q ≡ true → goes u q b r w → Transacted u q (told q r) w

-- what makes something a wire: its state means a chip, and it keeps the meaning
pub record IsWire (m : Datasheet) {W : Type 0} (chip_of : W → State) (goes : Goes W) (passes : Passes W) : Type 0 where
  pub meant : (u w : W) (q : Request) (b : Bool) (r : Reply) → goes u q b r w → Went m (chip_of u) q b r (chip_of w)
  pub cycle : (u w : W) (ks : List Codes) → passes u ks w → chip_of w ≡ cycled m ks (chip_of u)

-- a wire whose every transaction is settled: in a fit state and with a good length it takes each request, in one way only
pub record Exact {W : Type 0} (goes : Goes W) (fit : W → Type 0) : Type 0 where
  pub some_way : (u : W) (q : Request) → fit u → sized q ≡ true → (b : Bool) × (r : Reply) × (w : W) × goes u q b r w
  pub one_way : (u v w : W) (q : Request) (b d : Bool) (r s : Reply) → goes u q b r v → goes u q d s w → (b ≡ d) × (r ≡ s) × (v ≡ w)
