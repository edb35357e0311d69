-- A call at a chip that converts on while its bus is busy: the call's transactions, and the cycles that came before, between and after them.
use Rattle.std.specs.Prelude.{◌≡◌, cond, List, [], ◌∷◌, length}
use Rattle.chip.specs.declared.state.Codes.{Codes}
use Rattle.chip.specs.declared.state.State.{State}
use Rattle.chip.specs.Chip.{read, write, send, cycled}
use Rattle.chip.specs.Datasheet.{Datasheet}
use Rattle.wire.specs.Wire.{Went}
use Rattle.account.specs.Steps.{Step}
use Rattle.account.specs.History.{History, cycle_came, carried_out}

-- what happens during a call
pub data Event : Type 0 where
  transaction : Step → Event
  conversion : List Codes → Event

-- the transactions among some events
abbrev pub steps_in : List Event → List Step
steps_in [] = []
steps_in (transaction s ∷ vs) = s ∷ steps_in vs
steps_in (conversion ks ∷ vs) = steps_in vs

-- transactions with no cycle among them
abbrev pub just : List Step → List Event
just [] = []
just (s ∷ ss) = transaction s ∷ just ss

-- the cycles among some events
abbrev pub cycles_in : List Event → List (List Codes)
cycles_in [] = []
cycles_in (transaction s ∷ vs) = cycles_in vs
cycles_in (conversion ks ∷ vs) = ks ∷ cycles_in vs

-- the chip along some events, the oldest first: any number of cycles at any place, and between them what a wire's transaction may come to
pub data Through (m : Datasheet) : State → List Event → State → Type 0 where
  at_end : {c : State} → Through m c [] c
  by_transaction : {c c' c'' : State} {s : Step} {vs : List Event} → Went m c s.asked s.carried s.got c' → Through m c' vs c''
      → Through m c (transaction s ∷ vs) c''
  by_conversion : {c c' : State} {vs : List Event} (ks : List Codes) → length ks ≡ 4 → Through m (cycled m ks c) vs c'
      → Through m c (conversion ks ∷ vs) c'

-- what some events add to what happened, in their order: the requests that the chip carried out, and the cycles
abbrev pub happened_in : List Event → History → History
happened_in [] h = h
happened_in (transaction s ∷ vs) h = happened_in vs (cond s.carried (carried_out s.asked ∷ h) h)
happened_in (conversion ks ∷ vs) h = happened_in vs (cycle_came ks ∷ h)

-- the cycles that came before a REFRESH or REFRESH_V was sent; all of them, if none was
abbrev pub before_send : List Event → List (List Codes)
before_send [] = []
before_send (conversion ks ∷ vs) = ks ∷ before_send vs
before_send (transaction s ∷ vs) = elim s.asked [ read a n ↦ before_send vs | write a bs ↦ before_send vs | send a ↦ [] ]

-- and those that came after it was sent
abbrev pub after_send : List Event → List (List Codes)
after_send [] = []
after_send (conversion ks ∷ vs) = after_send vs
after_send (transaction s ∷ vs) = elim s.asked [ read a n ↦ after_send vs | write a bs ↦ after_send vs | send a ↦ cycles_in vs ]
