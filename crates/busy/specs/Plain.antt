-- A plain run is one whose cycles come between the calls alone. What it means that a busy run is as good as one.
use Rattle.std.specs.Prelude.{◌≡◌, ℕ, Bool, List, [], ◌∷◌}
use Rattle.chip.specs.declared.state.Codes.{Codes}
use Rattle.chip.specs.declared.state.State.{State}
use Rattle.chip.specs.Chip.{Request, cycled, reply}
use Rattle.chip.specs.Datasheet.{Datasheet}
use Rattle.chip.specs.Laws.{Every}
use Rattle.account.specs.Steps.{Step, Along}
use Rattle.account.specs.Dialogue.{Meter, Answer, Way, Follows}
use Rattle.account.specs.History.{History, cycle_came, carried_out, booked, written_off, chip_after, account, carried_in}
use Rattle.account.specs.Statements.{all_products}
use Rattle.busy.specs.Events.{Event, steps_in, before_send, after_send, happened_in}

-- what a make owes here, beside the laws of a make: the registers that a booking reads show the image, whatever else of the chip changes.
-- The laws alone allow a make whose registers turn with each cycle and tell an image only together (specs/Turning)
pub record ImageAlone (m : Datasheet) : Type 0 where
  pub shown : Every (λ p. (c d : State) → c.image ≡ d.image → reply m c p.0 p.1 ≡ reply m d p.0 p.1) m.booking_reads

-- the chip after some cycles, the oldest first
abbrev pub cycled_by : Datasheet → List (List Codes) → State → State
cycled_by m [] c = c
cycled_by m (ks ∷ kss) c = cycled_by m kss (cycled m ks c)

-- what they add to what happened
abbrev pub came : List (List Codes) → History → History
came [] h = h
came (ks ∷ kss) h = came kss (cycle_came ks ∷ h)

-- the cycles of a history, and all that is no cycle, each in its order
abbrev pub cycles_of : History → List (List Codes)
cycles_of [] = []
cycles_of (cycle_came ks ∷ h) = ks ∷ cycles_of h
cycles_of (carried_out q ∷ h) = cycles_of h
cycles_of (booked e ∷ h) = cycles_of h
cycles_of (written_off ∷ h) = cycles_of h

abbrev pub rest_of : History → History
rest_of [] = []
rest_of (cycle_came ks ∷ h) = rest_of h
rest_of (carried_out q ∷ h) = carried_out q ∷ rest_of h
rest_of (booked e ∷ h) = booked e ∷ rest_of h
rest_of (written_off ∷ h) = written_off ∷ rest_of h

-- two histories that differ only in where some cycles stand, and come to the same: chip, account and products
pub record Alike (m : Datasheet) (h h' : History) : Type 0 where
  pub cycles : cycles_of h ≡ cycles_of h'
  pub rest : rest_of h ≡ rest_of h'
  pub chip : chip_after m h ≡ chip_after m h'
  pub accounts : account m h ≡ account m h'
  pub products : (i : ℕ) → all_products m i h ≡ all_products m i h'

-- what was asked, in order, and whether the chip carried it out
abbrev pub requests_of : List Step → List (Request × Bool)
requests_of [] = []
requests_of (s ∷ ss) = (s.asked, s.carried) ∷ requests_of ss

-- a call along some events is a call at a chip that stands still, of the same answer, meter and requests,
-- after the cycles that came before its REFRESH or REFRESH_V was sent, and before those that came after it
pub record PlainCall (m : Datasheet) (s : Way) (t : Meter) (r : Answer) (c : State) (vs : List Event) (c' : State) : Type 0 where
  pub steps : List Step
  pub follows : Follows s steps (t, r)
  pub requests : requests_of steps ≡ requests_of (steps_in vs)
  pub left : State
  pub along : Along m (cycled_by m (before_send vs) c) steps left
  pub behind : cycled_by m (after_send vs) left ≡ c'
  pub history : (h : History) → Alike m (happened_in vs h) (came (after_send vs) (carried_in steps (came (before_send vs) h)))
