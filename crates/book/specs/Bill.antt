-- What a book's entries are worth.
use Rattle.std.specs.Prelude.{◌≡◌, ℕ, ◌+◌, ◌-◌, ◌*◌, ◌^◌, ◌≤◌, Bool, true, false, cond, ◌&&◌, ◌||◌, List, [], ◌∷◌, length, ℤ, pos, ◌+ℤ◌, ◌*ℤ◌, nat_abs, Some, None, Option, ◌==◌, nat_le, nat_lt, slice_index_or}
use Rattle.std.specs.Int.{int_div_euclid}
use Rattle.chip.specs.Registers.{in_mask, in_range}
use Rattle.chip.specs.Datasheet.{Datasheet, Wanted}
use Rattle.chip.specs.declared.entry.Entry.{Entry}
use Rattle.chip.specs.declared.refusal.Refusal.{Refusal}
use Rattle.chip.specs.declared.refusal.Refusal.TheVariants.{Limits, BadEntry}

-- rate codes 0 to 3 mean so many cycles a second
abbrev pub cycles_a_second : ℕ → ℕ
cycles_a_second rate = slice_index_or (1024 ∷ 256 ∷ 64 ∷ 8 ∷ []) rate 1024

-- 1, 4, 16 and 128 for rate codes 0 to 3, doubled on a two-way channel
abbrev pub weight : (rate : ℕ) → (two_way : Bool) → ℕ
weight rate two_way = cond two_way 2 1 * slice_index_or (1 ∷ 4 ∷ 16 ∷ 128 ∷ []) rate 1

-- what the weights are for: a weight counts 1024ths of a second, and two-way codes are worth double
pub record WeightsMeant : Type 0 where
  pub time : (r : ℕ) → r ≤ 3 → weight r false * cycles_a_second r ≡ 1024
  pub double : (r : ℕ) → weight r true ≡ 2 * weight r false

-- an entry's sum × weight on channel i, counted from 0; a spoilt entry is worth nothing
abbrev pub worth : ℕ → Entry → ℤ
worth i e = cond (e.spoilt == 0) (slice_index_or e.sums i (pos 0) *ℤ pos (weight e.rate (in_mask e.two_way i))) (pos 0)

-- the total over the entries
abbrev pub weighed : ℕ → List Entry → ℤ
weighed i [] = pos 0
weighed i (e ∷ es) = worth i e +ℤ weighed i es

-- how many entries are billed: those that are not spoilt
abbrev pub sound_entries : List Entry → ℕ
sound_entries [] = 0
sound_entries (e ∷ es) = cond (e.spoilt == 0) 1 0 + sound_entries es

-- how many entries are spoilt
abbrev pub spoilt_entries : List Entry → ℕ
spoilt_entries [] = 0
spoilt_entries (e ∷ es) = cond (e.spoilt == 0) 0 1 + spoilt_entries es

-- a sum that the register holds, by the entry's own two-way mask; a channel that the make has not holds 0
abbrev pub sum_holds : Datasheet → (two_way i : ℕ) → ℤ → Bool
sum_holds m two_way i z = in_range m.sum_bits (in_mask two_way i) z && (nat_lt i m.channels || nat_abs z == 0)

-- four such sums
abbrev pub sums_hold : Datasheet → (two_way i : ℕ) → List ℤ → Bool
sums_hold m two_way i [] = i == 4
sums_hold m two_way i (z ∷ zs) = sum_holds m two_way i z && sums_hold m two_way (i + 1) zs

-- the settings that an entry was made under
abbrev pub wanted_of : Entry → Wanted
wanted_of e = record { rate = e.rate; off = e.off; two_way = e.two_way }

-- an entry within its kind's ranges; the draw number has none
abbrev pub holds : Datasheet → Entry → Bool
holds m e = m.offers (wanted_of e) && nat_le e.spoilt 1 && nat_lt e.count (2 ^ m.count_bits) && sums_hold m e.two_way 0 e.sums

-- the first place that does not hold, counted from n
abbrev pub first_bad : Datasheet → (n : ℕ) → List Entry → Option ℕ
first_bad m n [] = None
first_bad m n (e ∷ es) = cond (holds m e) (first_bad m (n + 1) es) (Some n)

-- a book has 1 to 4,096 places, and no more filled than it has
abbrev pub book_within : (places filled : ℕ) → Bool
book_within places filled = nat_le 1 places && nat_le places 4096 && nat_le filled places

-- and a bill has a channel of the make, counted from 1, and a shunt of 1 to 1,000 tenths of a milliohm
abbrev pub bill_limits : Datasheet → (places filled channel shunt : ℕ) → Bool
bill_limits m places filled ch u = book_within places filled && nat_le 1 ch && nat_le ch m.channels && nat_le 1 u && nat_le u 1000

-- what a bill answers
pub data Bill : Type 0 where
  -- the floor of the energy in millijoules, the entries billed, the entries spoilt
  bill_of : (energy : ℤ) (billed spoilt : ℕ) → Bill
  -- or why there is none
  no_bill : Refusal → Bill

-- the energy on a channel over a shunt, exact until it is rounded down once
abbrev pub energy : Datasheet → (channel shunt : ℕ) → List Entry → ℤ
energy m ch u es = int_div_euclid (pos m.tariff.factor *ℤ weighed (ch - 1) es) (pos (u * 2 ^ m.tariff.power))

-- limits come first, then the first place that does not hold
abbrev pub bill : Datasheet → (places : ℕ) → List Entry → (channel shunt : ℕ) → Bill
bill m places es ch u =
    cond (bill_limits m places (length es) ch u)
    (elim (first_bad m 0 es) [ Some n ↦ no_bill (BadEntry n) | None ↦ bill_of (energy m ch u es) (sound_entries es) (spoilt_entries es) ])
    (no_bill Limits)
