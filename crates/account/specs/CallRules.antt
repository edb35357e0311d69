-- What every call keeps, whatever run it is on and whatever its wire does: when it is refused, and what it leaves of the meter and the chip.
use Rattle.std.specs.Prelude.{◌≡◌, ℕ, ◌+◌, ◌-◌, ◌%◌, ◌≤◌, Bool, true, false, cond, not, ◌&&◌, List, [], ◌∷◌, length, Some, None, Option, ◌==◌}
use Rattle.chip.specs.declared.state.State.{State}
use Rattle.chip.specs.Registers.{in_mask}
use Rattle.chip.specs.Datasheet.{Datasheet, meaning}
use Rattle.chip.specs.declared.entry.Entry.{Entry}
use Rattle.chip.specs.Chip.{channel, Request, read, write, send, address_of, entry_of}
use Rattle.chip.specs.Laws.{Every, Lawful, Sound}
use Rattle.chip.specs.declared.refusal.Refusal.{Refusal}
use Rattle.chip.specs.declared.refusal.Refusal.TheVariants.{Limits, NotAcknowledged, Broken, SlipOut, NotReady, NumbersSpent, WrongSlip, Full, BadEntry, Unreadable, NoSlip}
use Rattle.wire.specs.Wire.{Reply, answered, unacknowledged, broken}
use Rattle.account.specs.Steps.{Step, Along}
use Rattle.book.specs.Bill.{bill, bill_limits, bill_of, first_bad}
use Rattle.account.specs.Dialogue.{Condition, ready, unfinished, in_doubt, slip_out, Meter, Slip, Reading, volts, millivolts, Answer, stored, handed, entered, given_up, looked, billed, refused, Follows, Call, set_up, draw, book, write_off, look, bill_for, dialogue, book_limits, fits_slip, look_limits}
use Rattle.account.specs.History.{is_refresh}

-- THE TESTS BEFORE ANYTHING IS SENT

-- a slip is out
abbrev pub has_slip_out : Condition → Bool
has_slip_out (slip_out n) = true
has_slip_out k = false

-- settings may have been written that are not in force
abbrev pub is_unsettled : Condition → Bool
is_unsettled unfinished = true
is_unsettled in_doubt = true
is_unsettled k = false

-- a bad entry in a book, with the refusal for it
abbrev pub bad_entry : Option ℕ → List (Bool × Refusal)
bad_entry None = []
bad_entry (Some place) = (true, BadEntry place) ∷ []

module _ (m : Datasheet) where
  -- what may be wrong with a call, in the order of its tests, each with the refusal for it
  abbrev pub tests : Call → Meter → (places : ℕ) → List Entry → List (Bool × Refusal)
  tests (set_up w) t places es = (not (m.offers w), Limits) ∷ []
  tests draw t places es = (has_slip_out t.condition, SlipOut) ∷ (t.last == 4294967295, NumbersSpent) ∷ []
  tests (book p scratch) t places es =
      (not (book_limits places (length es) scratch), Limits) ∷ (not (fits_slip t p), WrongSlip) ∷ (length es == places, Full) ∷ []
  tests (write_off p) t places es = (not (fits_slip t p), WrongSlip) ∷ []
  tests (look ch k) t places es =
      (not (look_limits m ch k), Limits) ∷ (has_slip_out t.condition, SlipOut) ∷ (is_unsettled t.condition, NotReady) ∷ []
  tests (bill_for kind ch u) t places es =
      (not (bill_limits kind places (length es) ch u), Limits) ∷ bad_entry (first_bad kind 0 es)

-- the first thing that is wrong decides
abbrev pub first_wrong : List (Bool × Refusal) → Option Refusal
first_wrong [] = None
first_wrong (x ∷ xs) = cond x.0 (Some x.1) (first_wrong xs)

-- WHAT A FAILED TRANSACTION LEAVES

-- the condition after a draw's transaction that failed: without the mark, and after a REFRESH that broke, nobody knows what is in force
abbrev pub after_failed_draw : Request → Reply → Condition
after_failed_draw (read a n) r = in_doubt
after_failed_draw (write a bs) r = unfinished
after_failed_draw (send a) broken = in_doubt
after_failed_draw (send a) r = unfinished

-- any other call leaves the condition
abbrev pub condition_left : Call → Request → Reply → Condition → Condition
condition_left draw q r k = after_failed_draw q r
condition_left call q r k = k

-- all steps answered but the last, which asked q and got r
abbrev pub OnlyLastFailed : Request → Reply → List Step → Type 0
OnlyLastFailed q r [] = ⊥
OnlyLastFailed q r (s ∷ []) = (s.asked ≡ q) × (s.got ≡ r)
OnlyLastFailed q r (s ∷ (x ∷ ss)) = ((bs : List ℕ) × (s.got ≡ answered bs)) × OnlyLastFailed q r (x ∷ ss)

-- all steps answered
abbrev pub all_answered : List Step → Type 0
all_answered ss = Every (λ s. (bs : List ℕ) × (s.got ≡ answered bs)) ss

-- the call's own last transaction failed, at this address; of the meter only the condition may be another
pub record LastFailed (q : Call) (a : ℕ) (got : Reply) (ss : List Step) (t t' : Meter) : Type 0 where
  pub asked : Request
  pub address : address_of asked ≡ a
  pub last : OnlyLastFailed asked got ss
  pub meter : t' ≡ record t { condition = condition_left q asked got t.condition }

-- WHAT A CALL COMES TO

module _ (m : Datasheet) where
  module _ (q : Call) (t : Meter) (places : ℕ) (es : List Entry) (ss : List Step) (t' : Meter) where
    -- nothing was asked of the wire, and this was wrong first: the meter stays
    pub record Untried (e : Refusal) : Type 0 where
      pub wrong : first_wrong (tests m q t places es) ≡ Some e
      pub nothing_sent : ss ≡ []
      pub meter : t' ≡ t

    -- 2 and 3 come of a transaction; 10 and 11 of no call of the meter's; every other number of a test
    abbrev pub RefusedFor : Refusal → Type 0
    RefusedFor (NotAcknowledged w a) = LastFailed q a (unacknowledged w) ss t t'
    RefusedFor (Broken a) = LastFailed q a broken ss t t'
    RefusedFor Unreadable = ⊥
    RefusedFor NoSlip = ⊥
    RefusedFor e = Untried e

  -- what a call that is taken answers, and what it leaves of the meter
  abbrev pub Taken : Call → Answer → (t : Meter) → (places : ℕ) → List Entry → (t' : Meter) → Type 0
  Taken (set_up w) stored t places es t' = t' ≡ record t { wanted = w }
  Taken draw (handed p) t places es t' = (p ≡ record { meter = t.meter; draw = t.last + 1 })
      × (t' ≡ record t { last = t.last + 1; mark = not t.mark; condition = slip_out (t.last + 1) })
  Taken (book p scratch) (entered e) t places es t' = t' ≡ record t { condition = ready }
  Taken (write_off p) given_up t places es t' = t' ≡ record t { write_offs = t.write_offs + 1; condition = ready }
  Taken (look ch k) (looked g) t places es t' = t' ≡ t
  Taken (bill_for kind ch u) (billed z n k) t places es t' = (bill kind places es ch u ≡ bill_of z n k) × (t' ≡ t)
  Taken q r t places es t' = ⊥

  -- every call is refused for its reason, or taken
  abbrev pub RefusedOrTaken : Call → Answer → (t : Meter) → (places : ℕ) → List Entry → List Step → (t' : Meter) → Type 0
  RefusedOrTaken q (refused e) t places es ss t' = RefusedFor q t places es ss t' e
  RefusedOrTaken q r t places es ss t' = Taken q r t places es t'

  -- how many transactions a call asks for at most; a set-up, a write-off and a bill send nothing
  abbrev pub most_transactions : Call → ℕ
  most_transactions draw = 5
  most_transactions (book p scratch) = length m.booking_reads
  most_transactions (look ch k) = 3
  most_transactions q = 0

  -- the rules that every call keeps
  pub record RulesKept (q : Call) (t : Meter) (places : ℕ) (es : List Entry) (ss : List Step) (t' : Meter) (r : Answer) : Type 0 where
    -- a refusal has its reason: its first test that is wrong, or its last transaction
    pub reason : RefusedOrTaken q r t places es ss t'
    -- the first test that is wrong refuses the call, by its number
    pub tested : (e : Refusal) → first_wrong (tests m q t places es) ≡ Some e → r ≡ refused e
    -- with nothing wrong, and every transaction answered, the call is taken
    pub progress : first_wrong (tests m q t places es) ≡ None → all_answered ss → (e : Refusal) → r ≡ refused e → ⊥
    -- and a call that is taken had every transaction answered
    pub complete : ((e : Refusal) → r ≡ refused e → ⊥) → all_answered ss
    pub few : length ss ≤ most_transactions q

  -- WHAT A CALL HAS TO DO WITH ITS CHIP

  -- whether the chip carried a REFRESH out
  abbrev pub refresh_carried : List Step → Bool
  refresh_carried [] = false
  refresh_carried (s ∷ ss) = cond (is_refresh m s.asked && s.carried) true (refresh_carried ss)

  -- the latest codes, 16 bits each, on a channel counted from 0
  abbrev pub latest_bus : State → ℕ → ℕ
  latest_bus c i = (channel i c.running).latest.bus % 65536

  abbrev pub latest_sense : State → ℕ → ℕ
  latest_sense c i = (channel i c.running).latest.sense % 65536

  -- a look that answers gives the latest code, by the polarity in force, and leaves the running part
  pub record Seen (c c' : State) (ch k : ℕ) (g : Reading) : Type 0 where
    pub bus : k ≡ 0 → g ≡ volts (latest_bus c (ch - 1))
    pub sense : k ≡ 1 → g ≡ millivolts (in_mask (m.two_way c.active) (ch - 1)) (latest_sense c (ch - 1))
    pub running : c'.running ≡ c.running

  -- a booking that is taken gives the image's entry under the slip's number, for every image that registers can hold, and leaves the chip
  pub record ImageEntered (c c' : State) (p : Slip) (e : Entry) : Type 0 where
    pub entry : Sound m c.image.running → e ≡ entry_of m c.image p.draw
    pub chip : c' ≡ c

  -- what a call that is taken tells of its chip
  abbrev pub ToldOfChip : Call → Answer → (c c' : State) → Type 0
  ToldOfChip (look ch k) (looked g) c c' = Seen c c' ch k g
  ToldOfChip (book p scratch) (entered e) c c' = ImageEntered c c' p e
  ToldOfChip q r c c' = Unit {0}

  -- how a call and its chip agree, whatever the chip stood at
  pub record TrueToChip (q : Call) (t : Meter) (c : State) (ss : List Step) (c' : State) (r : Answer) : Type 0 where
    -- a draw whose REFRESH was carried out, whatever it answered, put the settings in force that were wanted
    pub obeyed : q ≡ draw → m.offers t.wanted ≡ true → refresh_carried ss ≡ true → meaning m c'.active ≡ t.wanted
    pub told : ToldOfChip q r c c'

  -- every call keeps the rules, and agrees with its chip, along whatever transactions it had
  abbrev pub RulesAlways : Type 0
  RulesAlways = (q : Call) (t t' : Meter) (places : ℕ) (es : List Entry) (ss : List Step) (r : Answer)
      → Follows (dialogue m q t places es) ss (t', r) → RulesKept q t places es ss t' r

  abbrev pub AlwaysTrueToChip : Type 0
  AlwaysTrueToChip = (q : Call) (t t' : Meter) (c c' : State) (places : ℕ) (es : List Entry) (ss : List Step) (r : Answer)
      → Follows (dialogue m q t places es) ss (t', r) → Along m c ss c' → TrueToChip q t c ss c' r

  -- both, of a make
  pub record EveryCallOf : Type 0 where
    pub rules : RulesAlways
    pub chip : AlwaysTrueToChip

-- over every lawful make
abbrev pub EveryCall : Type 0
EveryCall = (m : Datasheet) → Lawful m → EveryCallOf m
