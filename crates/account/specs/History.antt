-- What happened to a meter, its chip and its book, and what became of each stretch.
use Rattle.std.specs.Prelude.{◌≡◌, ℕ, ◌+◌, ◌^◌, Bool, false, cond, not, ◌&&◌, ◌||◌, List, [], ◌∷◌, ◌++◌, length, drop, ℤ, pos, ◌+ℤ◌, ◌==◌, nat_le, slice_index_or}
use Rattle.chip.specs.declared.state.Settings.{Settings}
use Rattle.chip.specs.declared.state.Codes.{Codes}
use Rattle.chip.specs.declared.state.State.{State}
use Rattle.chip.specs.declared.state.Image.{Image}
use Rattle.chip.specs.Registers.{in_mask, in_range}
use Rattle.chip.specs.Datasheet.{Datasheet}
use Rattle.chip.specs.declared.entry.Entry.{Entry}
use Rattle.chip.specs.Chip.{Request, read, write, send, Reaction, bad_length, no_acknowledge, does, reacts, all_off, cycled, fresh_chip}
use Rattle.wire.specs.Wire.{Reply, answered, unacknowledged, broken}
use Rattle.account.specs.Steps.{Step, Along}
use Rattle.account.specs.Dialogue.{Meter, new_meter, Answer, stored, handed, entered, given_up, looked, billed, refused, Follows, Call, dialogue}

pub data Happening : Type 0 where
  cycle_came : List Codes → Happening
  carried_out : Request → Happening
  booked : Entry → Happening
  written_off : Happening

-- the newest first
abbrev pub History : Type 0
History = List Happening

abbrev pub chip_then : State → Reaction → State
chip_then c bad_length = c
chip_then c no_acknowledge = c
chip_then c (does c' bs) = c'

abbrev pub chip_after : Datasheet → History → State
chip_after m [] = fresh_chip m
chip_after m (cycle_came ks ∷ h) = cycled m ks (chip_after m h)
chip_after m (carried_out q ∷ h) = chip_then (chip_after m h) (reacts m (chip_after m h) q)
chip_after m (booked e ∷ h) = chip_after m h
chip_after m (written_off ∷ h) = chip_after m h

-- a cycle, with the settings in force when it came
pub record Moment : Type 0 where
  pub in_force : Settings
  pub codes : List Codes

-- the cycles between two REFRESHes carried out, the newest first
pub record Stretch : Type 0 where
  pub opened_with : Settings
  pub moments : List Moment

pub data Fate : Type 0 where
  waits : Fate
  got_entry : Entry → Fate
  was_written_off : Fate
  -- another REFRESH came while it waited
  was_lost : Fate

pub record Closed : Type 0 where
  pub stretch : Stretch
  -- the image as the REFRESH at its end left it
  pub left : Image
  pub fate : Fate

pub record Account : Type 0 where
  pub closed : List Closed
  pub open_stretch : Stretch
  -- bookings and write-offs that came while nothing waited
  pub strays : ℕ

abbrev pub no_codes : Codes
no_codes = record { bus = 0; sense = 0 }

abbrev pub with_fate : Closed → Fate → Closed
with_fate x f = record { stretch = x.stretch; left = x.left; fate = f }

-- what waits is lost when another REFRESH comes
abbrev pub overtaken : List Closed → List Closed
overtaken [] = []
overtaken (x ∷ xs) = elim x.fate [
  | waits ↦ with_fate x was_lost ∷ xs
  | got_entry e ↦ x ∷ xs
  | was_written_off ↦ x ∷ xs
  | was_lost ↦ x ∷ xs
]

abbrev pub stray : Account → Account
stray a = record { closed = a.closed; open_stretch = a.open_stretch; strays = a.strays + 1 }

-- what waits gets its fate; with nothing waiting it is a stray
abbrev pub fate_given : Fate → Account → Account
fate_given f a =
    elim a.closed [
      | [] ↦ stray a
      | (x ∷ xs) ↦ elim x.fate [
        | waits ↦ record {
          closed = with_fate x f ∷ xs;
          open_stretch =
              a.open_stretch;
          strays = a.strays;
        }
        | got_entry e ↦ stray a
        | was_written_off ↦ stray a
        | was_lost ↦ stray a
      ]
    ]

module _ (m : Datasheet) where
  -- a stretch's products, sums and count, without limit
  abbrev pub product_at : ℕ → Moment → ℤ
  product_at i k =
      cond (in_mask (m.off k.in_force) i) (pos 0) (m.product i (in_mask (m.two_way k.in_force) i) (slice_index_or k.codes i no_codes))

  abbrev pub sum_over : ℕ → List Moment → ℤ
  sum_over i [] = pos 0
  sum_over i (k ∷ ks) = product_at i k +ℤ sum_over i ks

  abbrev pub count_over : List Moment → ℕ
  count_over [] = 0
  count_over (k ∷ ks) = cond (all_off m k.in_force) 0 1 + count_over ks

  -- a sum's true value is out of its register's range after this cycle
  abbrev pub sum_beyond : ℕ → Moment → List Moment → Bool
  sum_beyond i k ks =
      not (in_mask (m.off k.in_force) i) && not (in_range m.sum_bits (in_mask (m.two_way k.in_force) i) (sum_over i (k ∷ ks)))

  -- some register left its range at one of these cycles: the stretch is spoilt
  abbrev pub left_range : List Moment → Bool
  left_range [] = false
  left_range (k ∷ ks) =
      left_range ks || nat_le (2 ^ m.count_bits) (count_over (k ∷ ks)) || sum_beyond 0 k ks || sum_beyond 1 k ks || sum_beyond 2 k ks
      || sum_beyond 3 k ks

  abbrev pub is_refresh : Request → Bool
  is_refresh (read a n) = false
  is_refresh (write a bs) = false
  is_refresh (send a) = a == m.refresh

  abbrev pub cycle_on : List Codes → Account → State → Account
  cycle_on ks a c = record {
    closed = a.closed;
    open_stretch = record {
      opened_with = a.open_stretch.opened_with;
      moments =
          record { in_force = c.active; codes = ks } ∷ a.open_stretch.moments;
    };
    strays = a.strays;
  }

  abbrev pub closes_on : Account → State → Account
  closes_on a c = record {
    closed = record { stretch = a.open_stretch; left = c.image; fate = waits } ∷ overtaken a.closed;
    open_stretch = record { opened_with = c.active; moments = [] };
    strays = a.strays;
  }

  -- what became of each stretch that a history closed; no meter is looked at
  abbrev pub account : History → Account
  account [] = record { closed = []; open_stretch = record { opened_with = m.fresh; moments = [] }; strays = 0 }
  account (cycle_came ks ∷ h) = cycle_on ks (account h) (chip_after m h)
  account (carried_out q ∷ h) = cond (is_refresh q) (closes_on (account h) (chip_after m (carried_out q ∷ h))) (account h)
  account (booked e ∷ h) = fate_given (got_entry e) (account h)
  account (written_off ∷ h) = fate_given was_written_off (account h)

-- what some steps add to what happened: the requests that the chip carried out
abbrev pub carried_in : List Step → History → History
carried_in [] h = h
carried_in (s ∷ ss) h = carried_in ss (cond s.carried (carried_out s.asked ∷ h) h)

-- what an answer adds to the book, and to what happened
abbrev pub entries_after : Answer → List Entry → List Entry
entries_after (entered e) es = es ++ e ∷ []
entries_after stored es = es
entries_after (handed p) es = es
entries_after given_up es = es
entries_after (looked g) es = es
entries_after (billed z n k) es = es
entries_after (refused r) es = es

abbrev pub happened_after : Answer → History → History
happened_after (entered e) h = booked e ∷ h
happened_after given_up h = written_off ∷ h
happened_after stored h = h
happened_after (handed p) h = h
happened_after (looked g) h = h
happened_after (billed z n k) h = h
happened_after (refused r) h = h

-- each reply at the scratch's start; a refused read leaves it
abbrev pub laid : Reply → List ℕ → List ℕ
laid (answered bs) s = bs ++ drop (length bs) s
laid (unacknowledged w) s = s
laid broken s = s

abbrev pub scratched : List Step → List ℕ → List ℕ
scratched [] s = s
scratched (st ∷ ss) s = scratched ss (laid st.got s)

-- all that can have come of a meter made on a fresh chip, with an empty book of so many places: cycles and calls, over any wire
pub data Reached (m : Datasheet) (places number last : ℕ) : Meter → State → List Entry → History → Type 0 where
  made : Reached m places number last (new_meter number last) (fresh_chip m) [] []
  cycle_passed : {t : Meter} {c : State} {es : List Entry} {h : History} (ks : List Codes) → length ks ≡ 4
      → Reached m places number last t c es h → Reached m places number last t (cycled m ks c) es (cycle_came ks ∷ h)
  called : {t t' : Meter} {c c' : State} {es : List Entry} {h : History} {ss : List Step} {r : Answer} (q : Call)
      → Reached m places number last t c es h → Follows (dialogue m q t places es) ss (t', r) → Along m c ss c'
      → Reached m places number last t' c' (entries_after r es) (happened_after r (carried_in ss h))
