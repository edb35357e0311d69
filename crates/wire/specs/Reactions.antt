-- What a chip makes of a request, by the request's length and kind.
use Rattle.std.specs.Prelude.{◌≡◌, ℕ, Bool, true, false, cond, length, Some, None, Option, ◌==◌, nat_lt, refl}
use Rattle.chip.specs.declared.state.Held.{Held}
use Rattle.chip.specs.declared.state.State.{State}
use Rattle.chip.specs.Chip.{Reaction, Request, bad_length, does, good_length, no_acknowledge, reacts, read, reply, send, sized, state_after, takes, write}
use Rattle.chip.specs.Datasheet.{Datasheet}
use Rattle.chip.specs.Registers.{number}

-- what holds of two reactions holds of one of them
pub either : (P : Reaction → Type 0) (b : Bool) {x y : Reaction} → P x → P y → P (cond b x y)
either P true p q = p
either P false p q = q

-- a request is refused for its length just where that is bad
abbrev pub Fits : Request → Reaction → Type 0
Fits q bad_length = sized q ≡ false
Fits q no_acknowledge = sized q ≡ true
Fits q (does c bs) = sized q ≡ true

module _ (m : Datasheet) (c : State) where
  pub fits : (q : Request) → Fits q (reacts m c q)
  fits (read a n) = by_length (good_length n) refl
    where
      by_length : (g : Bool) → good_length n ≡ g
          → Fits (read a n) (cond g (cond (m.command a) no_acknowledge (cond (nat_lt 0 (m.width a)) (does c (reply m c a n)) no_acknowledge)) bad_length)
      by_length true e = either (Fits (read a n)) (m.command a) e (either (Fits (read a n)) (nat_lt 0 (m.width a)) e e)
      by_length false e = e
  fits (write a bs) = taken (m.keeps a (number bs) c.held)
    where
      taken : (o : Option Held) → Fits (write a bs) (takes m c a bs o)
      taken None = refl
      taken (Some s) = either (Fits (write a bs)) (length bs == m.width a) refl refl
  fits (send a) = either (Fits (send a)) (a == m.refresh) refl (either (Fits (send a)) (a == m.refresh_v) refl refl)

  -- a read leaves the chip
  pub read_leaves : (a n : ℕ) → state_after (reacts m c (read a n)) c ≡ c
  read_leaves a n = either leaves (good_length n) (either leaves (m.command a) refl (either leaves (nat_lt 0 (m.width a)) refl refl)) refl
    where
      leaves : Reaction → Type 0
      leaves x = state_after x c ≡ c
