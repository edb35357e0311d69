-- What holds of every run.
use Rattle.std.specs.Prelude.{◌≡◌, ℕ, ◌+◌, ◌-◌, ◌*◌, ◌^◌, ◌<◌, ◌≤◌, Bool, true, false, cond, not, T, ◌↔◌, List, [], ◌∷◌, ◌++◌, length, ℤ, pos, ◌+ℤ◌, ◌*ℤ◌, ◌≤ℤ◌, ◌<ℤ◌, slice_index_or}
use Rattle.chip.specs.declared.state.Settings.{Settings}
use Rattle.chip.specs.declared.state.State.{State}
use Rattle.chip.specs.declared.state.Running.{Running}
use Rattle.chip.specs.Registers.{in_mask}
use Rattle.chip.specs.Datasheet.{Datasheet}
use Rattle.chip.specs.declared.entry.Entry.{Entry}
use Rattle.chip.specs.Chip.{spoilt, sums_of, entry_of}
use Rattle.chip.specs.Laws.{Every, Lawful}
use Rattle.chip.specs.declared.refusal.Refusal.TheVariants.{Limits}
use Rattle.book.specs.Bill.{bill_of, no_bill, bill, bill_limits, weight}
use Rattle.account.specs.Dialogue.{Condition, ready, unfinished, in_doubt, slip_out, Meter}
use Rattle.account.specs.History.{History, cycle_came, carried_out, booked, written_off, chip_after, Stretch, waits, got_entry, was_written_off, was_lost, Closed, account, product_at, sum_over, count_over, left_range, Reached}

module _ (m : Datasheet) where
  -- THE ACCOUNT

  -- one setting through the whole stretch
  abbrev pub Steady : Stretch → Type 0
  Steady s = Every (λ k. k.in_force ≡ s.opened_with) s.moments

  -- an entry against its stretch
  pub record Matches (s : Stretch) (e : Entry) : Type 0 where
    pub steady : Steady s
    pub rate : e.rate ≡ m.rate s.opened_with
    pub off : e.off ≡ m.off s.opened_with
    pub two_way : e.two_way ≡ m.two_way s.opened_with
    pub marked : (e.spoilt ≡ 1) ↔ T (left_range m s.moments)
    pub mark_range : e.spoilt ≤ 1
    pub count : e.spoilt ≡ 0 → e.count ≡ count_over m s.moments
    pub sums : e.spoilt ≡ 0 → (i : ℕ) → i < 4 → slice_index_or e.sums i (pos 0) ≡ sum_over m i s.moments

  -- its entry, or written off; never lost, and no longer waiting
  abbrev pub Fated : Closed → Type 0
  Fated x = elim x.fate [ waits ↦ ⊥ | got_entry e ↦ Matches x.stretch e | was_written_off ↦ Unit {0} | was_lost ↦ ⊥ ]

  -- what waits: the image is as its REFRESH left it, and booked now it gives its stretch's entry
  abbrev pub WaitsWell : State → Closed → Type 0
  WaitsWell c x = (c.image ≡ x.left) × ((n : ℕ) → Matches x.stretch (entry_of m c.image n))

  -- only the newest may wait
  abbrev pub Settled : State → List Closed → Type 0
  Settled c [] = Unit {0}
  Settled c (x ∷ xs) = elim x.fate [
    | waits ↦ WaitsWell c x
    | got_entry e ↦ Matches x.stretch e
    | was_written_off ↦ Unit {0}
    | was_lost ↦ ⊥
  ] × Every Fated xs

  -- the entries given, the oldest first
  abbrev pub given : List Closed → List Entry
  given [] = []
  given (x ∷ xs) = given xs ++ elim x.fate [ waits ↦ [] | got_entry e ↦ e ∷ [] | was_written_off ↦ [] | was_lost ↦ [] ]

  abbrev pub Rising : ℕ → List Entry → Type 0
  Rising n [] = Unit {0}
  Rising n (e ∷ es) = (n < e.draw) × Rising e.draw es

  -- the n-th stretch closed has the n-th draw number
  abbrev pub Numbered : ℕ → List Closed → Type 0
  Numbered before [] = Unit {0}
  Numbered before (x ∷ xs) = elim x.fate [
    | waits ↦ Unit {0}
    | got_entry e ↦ e.draw ≡ before + (1 + length xs)
    | was_written_off ↦ Unit {0}
    | was_lost ↦ ⊥
  ] × Numbered before xs

  abbrev pub off_count : List Closed → ℕ
  off_count [] = 0
  off_count (x ∷ xs) = elim x.fate [ waits ↦ 0 | got_entry e ↦ 0 | was_written_off ↦ 1 | was_lost ↦ 0 ] + off_count xs

  abbrev pub newest_waits : List Closed → Bool
  newest_waits [] = false
  newest_waits (x ∷ xs) = elim x.fate [ waits ↦ true | got_entry e ↦ false | was_written_off ↦ false | was_lost ↦ false ]

  -- the condition tells what waits: a slip out has the number of the stretch that waits; ready or unfinished, nothing waits
  abbrev pub HeldAt : (before last : ℕ) → List Closed → Condition → Type 0
  HeldAt before last xs ready = (newest_waits xs ≡ false) × (last ≡ before + length xs)
  HeldAt before last xs unfinished = (newest_waits xs ≡ false) × (last ≡ before + length xs)
  HeldAt before last xs in_doubt = last + cond (newest_waits xs) 1 0 ≡ before + length xs
  HeldAt before last xs (slip_out n) = (newest_waits xs ≡ true) × (n ≡ last) × (last ≡ before + length xs)

  pub record Accounted (before : ℕ) (t : Meter) (c : State) (es : List Entry) (h : History) : Type 0 where
    pub no_strays : (account m h).strays ≡ 0
    pub settled : Settled c (account m h).closed
    pub the_book : es ≡ given (account m h).closed
    pub rising : Rising before es
    pub numbered : Numbered before (account m h).closed
    pub held : HeldAt before t.last (account m h).closed t.condition
    pub written_off : t.write_offs ≡ off_count (account m h).closed
    pub all_steady : Every (λ x. Steady x.stretch) (account m h).closed

  -- the running part is the running stretch's; its flags say whether it is spoilt
  pub record RunsWell (c : State) (o : Stretch) : Type 0 where
    pub with : c.active ≡ o.opened_with
    pub steady : Steady o
    pub flags : spoilt c.running ≡ left_range m o.moments
    pub count : left_range m o.moments ≡ false → c.running.count ≡ count_over m o.moments
    pub sums : left_range m o.moments ≡ false → (i : ℕ) → i < 4 → slice_index_or (sums_of m c.active 0 c.running.channels) i (pos 0)
        ≡ sum_over m i o.moments

  -- CONSERVATION, by channel
  abbrev pub entry_total : ℕ → List Entry → ℤ
  entry_total i [] = pos 0
  entry_total i (e ∷ es) = slice_index_or e.sums i (pos 0) +ℤ entry_total i es

  abbrev pub part_total : ℕ → Settings → Running → ℤ
  part_total i s r = slice_index_or (sums_of m s 0 r.channels) i (pos 0)

  abbrev pub waiting_total : ℕ → State → List Closed → ℤ
  waiting_total i c [] = pos 0
  waiting_total i c (x ∷ xs) = elim x.fate [
    | waits ↦ part_total i c.image.settings c.image.running
    | got_entry e ↦ pos 0
    | was_written_off ↦ pos 0
    | was_lost ↦ pos 0
  ]

  abbrev pub written_off_total : ℕ → List Closed → ℤ
  written_off_total i [] = pos 0
  written_off_total i (x ∷ xs) = elim x.fate [
    | waits ↦ pos 0
    | got_entry e ↦ pos 0
    | was_written_off ↦ sum_over m i x.stretch.moments
    | was_lost ↦ pos 0
  ] +ℤ written_off_total i xs

  abbrev pub all_products : ℕ → History → ℤ
  all_products i [] = pos 0
  all_products i (cycle_came ks ∷ h) = product_at m i (record { in_force = (chip_after m h).active; codes = ks }) +ℤ all_products i h
  all_products i (carried_out q ∷ h) = all_products i h
  all_products i (booked e ∷ h) = all_products i h
  all_products i (written_off ∷ h) = all_products i h

  abbrev pub Unspoilt : History → Type 0
  Unspoilt h = Every (λ x. T (not (left_range m x.stretch.moments))) (account m h).closed
      × T (not (left_range m (account m h).open_stretch.moments))

  -- where nothing is spoilt, entries, waiting image, running part and what was written off come to all products
  abbrev pub Conserved : State → List Entry → History → Type 0
  Conserved c es h = Unspoilt h → (i : ℕ) → i < 4
      → ((entry_total i es +ℤ waiting_total i c (account m h).closed)
      +ℤ (part_total i c.active c.running +ℤ written_off_total i (account m h).closed)) ≡ all_products i h

  -- THE BILL

  -- what the booked, unspoilt stretches are worth, from their cycles
  abbrev pub stretch_worth : ℕ → Stretch → ℤ
  stretch_worth i s =
      cond (left_range m s.moments) (pos 0)
      (sum_over m i s.moments *ℤ pos (weight (m.rate s.opened_with) (in_mask (m.two_way s.opened_with) i)))

  abbrev pub worth : ℕ → List Closed → ℤ
  worth i [] = pos 0
  worth i (x ∷ xs) = elim x.fate [
    | waits ↦ pos 0
    | got_entry e ↦ stretch_worth i x.stretch
    | was_written_off ↦ pos 0
    | was_lost ↦ pos 0
  ] +ℤ worth i xs

  abbrev pub sound_stretches : List Closed → ℕ
  sound_stretches [] = 0
  sound_stretches (x ∷ xs) = elim x.fate [
    | waits ↦ 0
    | got_entry e ↦ cond (left_range m x.stretch.moments) 0 1
    | was_written_off ↦ 0
    | was_lost ↦ 0
  ] + sound_stretches xs

  abbrev pub spoilt_stretches : List Closed → ℕ
  spoilt_stretches [] = 0
  spoilt_stretches (x ∷ xs) = elim x.fate [
    | waits ↦ 0
    | got_entry e ↦ cond (left_range m x.stretch.moments) 1 0
    | was_written_off ↦ 0
    | was_lost ↦ 0
  ] + spoilt_stretches xs

  -- z is the floor of factor * S / (u * 2^power)
  abbrev pub IsFloor : (z S : ℤ) (u : ℕ) → Type 0
  IsFloor z S u = ((z *ℤ pos (u * 2 ^ m.tariff.power)) ≤ℤ (pos m.tariff.factor *ℤ S))
      × ((pos m.tariff.factor *ℤ S) <ℤ ((z +ℤ pos 1) *ℤ pos (u * 2 ^ m.tariff.power)))

  -- outside its limits refused by 1; within them the exact energy of the booked stretches' cycles, rounded down once, and how many are sound and spoilt
  abbrev pub Billable : (places : ℕ) → List Entry → History → Type 0
  Billable places es h = (ch u : ℕ) →
      (bill_limits m places (length es) ch u ≡ false → bill m places es ch u ≡ no_bill Limits)
      × (bill_limits m places (length es) ch u ≡ true → (z : ℤ)
      × (bill m places es ch u ≡ bill_of z (sound_stretches (account m h).closed) (spoilt_stretches (account m h).closed))
      × IsFloor z (worth (ch - 1) (account m h).closed) u)

  -- ALL OF IT, at one moment of a run of the meter of this number: before is the last draw number used when it was made
  pub record Statements (places number before : ℕ) (t : Meter) (c : State) (es : List Entry) (h : History) : Type 0 where
    pub serial : t.meter ≡ number
    pub chip : c ≡ chip_after m h
    pub accounted : Accounted before t c es h
    pub running : RunsWell c (account m h).open_stretch
    pub conserved : Conserved c es h
    pub billable : Billable places es h
    pub room : length es ≤ places
    pub numbers : t.last < 2 ^ 32
    pub few_write_offs : t.write_offs + before ≤ t.last
    pub offered : m.offers t.wanted ≡ true

  abbrev pub EveryRunOf : Type 0
  EveryRunOf = (places number last : ℕ) (t : Meter) (c : State) (es : List Entry) (h : History) → last < 2 ^ 32
      → Reached m places number last t c es h → Statements places number last t c es h

-- over every lawful make
abbrev pub EveryRun : Type 0
EveryRun = (m : Datasheet) → Lawful m → EveryRunOf m
