-- The image that a REFRESH leaves matches the stretch that it closes, and what an entry holds.
use Rattle.std.proofs.Common.{◌≡◌, ℕ, zero, suc, ◌+◌, ◌^◌, ◌<◌, ◌≤◌, Bool, true, false, cond, ◌&&◌, ◌||◌, T, eqb, ltb, ◌↔◌, List, [], ◌∷◌, map, length, get_or, ℤ, pos, nat_abs, sym, refl, ap, ◌∙◌, ⊎_elim, arith, pow_pos}
use Rattle.std.proofs.lemmas.Bool.{both_ways, cases_Bool, eq-eqb, le-leb, lt-ltb, ltb-false}
use Rattle.chip.proofs.Ranges.{value_in_range, zero_value}
use Rattle.account.proofs.Tracking.{Tracks}
use Rattle.book.specs.Bill.{holds, sums_hold}
use Rattle.chip.specs.Chip.{cleared, entry_of, spoilt, sums_of, zeroed}
use Rattle.account.specs.History.{Moment, Stretch, left_range}
use Rattle.chip.specs.Laws.{EmptyFrom, Every, Lawful, Sound}
use Rattle.chip.specs.Datasheet.{Datasheet}
use Rattle.chip.specs.declared.state.Channel.{Channel}
use Rattle.chip.specs.declared.state.Image.{Image}
use Rattle.chip.specs.declared.state.Running.{Running}
use Rattle.chip.specs.declared.state.Settings.{Settings}
use Rattle.chip.specs.Registers.{in_mask, value_of}
use Rattle.account.specs.Statements.{Matches}

every_subst : {s s' : Settings} → s ≡ s' → (ms : List Moment) → Every (λ k. k.in_force ≡ s) ms → Every (λ k. k.in_force ≡ s') ms
every_subst e [] p = tt
every_subst e (k ∷ ms) p = (p.0 ∙ e, every_subst e ms p.1)

marked_is : (b x : Bool) → b ≡ x → (◌≡◌ {A = ℕ} (cond b 1 0) 1) ↔ T x
marked_is true true e = (λ h. tt, λ h. refl)
marked_is true false e = absurd (both_ways true e refl)
marked_is false true e = absurd (both_ways false refl e)
marked_is false false e = (λ h. absurd (omega arith), λ h. absurd h)

bit_small : (b : Bool) → cond b 1 0 ≤ 1
bit_small true = omega arith
bit_small false = omega arith

unmarked : (b : Bool) → ◌≡◌ {A = ℕ} (cond b 1 0) 0 → b ≡ false
unmarked true e = absurd (omega arith)
unmarked false e = refl

pub tracks_match : (m : Datasheet) (s : Settings) (r : Running) (o : Stretch) → s ≡ o.opened_with → Every (λ k. k.in_force ≡ s) o.moments → Tracks m s r o.moments → (n : ℕ)
    → Matches m o (entry_of m (record { running = r; settings = s }) n)
tracks_match m s r o e steady t n = record {
  steady = every_subst e o.moments steady;
  rate = ap (λ x. m.rate x) e;
  off = ap (λ x. m.off x) e;
  two_way = ap (λ x. m.two_way x) e;
  marked = marked_is (spoilt r) (left_range m o.moments) t.flag;
  mark_range = bit_small (spoilt r);
  count = λ h. t.count (sym t.flag ∙ unmarked (spoilt r) h);
  sums = λ h. t.sums (sym t.flag ∙ unmarked (spoilt r) h);
}

-- what a sound image gives is within an entry's limits
nought : (z : ℤ) → z ≡ pos 0 → eqb (nat_abs z) 0 ≡ true
nought z e = rw e refl

had_or_nought : (i n : ℕ) (z : ℤ) → (n ≤ i → z ≡ pos 0) → (ltb i n || eqb (nat_abs z) 0) ≡ true
had_or_nought i n z f = ⊎_elim (λ e. rw e refl) (λ e. let l = ltb-false i n e in rw (nought z (f l)) (or_true _)) (cases_Bool (ltb i n))
  where
    or_true : (b : Bool) → (b || true) ≡ true
    or_true true = refl
    or_true false = refl

three : (a b c : Bool) → a ≡ true → b ≡ true → c ≡ true → (a && b && c) ≡ true
three a b c p q r = grind arith

all_hold : (m : Datasheet) (s : Settings) → 0 < m.sum_bits → (i : ℕ) (cs : List Channel) → i + length cs ≡ 4 → Every (λ c. c.sum < 2 ^ m.sum_bits) cs → EmptyFrom m.channels i cs
    → sums_hold m (m.two_way s) i (sums_of m s i cs) ≡ true
all_hold m s h i [] l p r = eq-eqb i 4 (omega arith)
all_hold m s h i (c ∷ cs) l p r =
    three _ _ _ (value_in_range m.sum_bits h (in_mask (m.two_way s) i) c.sum p.0)
    (had_or_nought i m.channels (value_of m.sum_bits (in_mask (m.two_way s) i) c.sum) (λ le. let e =
    r.0 le in rw e (zero_value m.sum_bits (in_mask (m.two_way s) i)))) (all_hold m s h (i + 1) cs (omega arith) p.1 r.1)

pub image_holds : (m : Datasheet) → Lawful m → (g : Image) (n : ℕ) → Sound m g.running → holds m (entry_of m g n) ≡ true
image_holds m law g n ok = four_true _ _ _ _ (law.meaning_offered g.settings) (le-leb _ _ (bit_small (spoilt g.running))) (lt-ltb _ _ ok.count)
    (all_hold m g.settings law.some_bits 0 g.running.channels (let e = ok.four in omega arith) ok.sums ok.rest)
  where
    four_true : (a b c d : Bool) → a ≡ true → b ≡ true → c ≡ true → d ≡ true → (a && b && c && d) ≡ true
    four_true a b c d p q r s = grind arith

-- after a REFRESH the registers start anew
zero_below : (m : Datasheet) (cs : List Channel) → Every (λ c. c.sum < 2 ^ m.sum_bits) (map cleared cs)
zero_below m [] = tt
zero_below m (c ∷ cs) = (pow_pos m.sum_bits, zero_below m cs)

zero_length : (cs : List Channel) → length (map cleared cs) ≡ length cs
zero_length [] = refl
zero_length (c ∷ cs) = ap suc (zero_length cs)

zero_empty : (n i : ℕ) (cs : List Channel) → EmptyFrom n i (map cleared cs)
zero_empty n i [] = tt
zero_empty n i (c ∷ cs) = (λ l. refl, zero_empty n (i + 1) cs)

pub zeroed_sound : (m : Datasheet) (r : Running) → Sound m r → Sound m (zeroed r)
zeroed_sound m r ok = record {
  four = zero_length r.channels ∙ ok.four;
  count = pow_pos m.count_bits;
  sums = zero_below m r.channels;
  rest =
      zero_empty m.channels 0 r.channels;
}

zero_sums : (m : Datasheet) (s : Settings) (i : ℕ) (cs : List Channel) (k : ℕ) → get_or (sums_of m s i (map cleared cs)) k (pos 0) ≡ pos 0
zero_sums m s i [] k = refl
zero_sums m s i (c ∷ cs) zero = zero_value m.sum_bits (in_mask (m.two_way s) i)
zero_sums m s i (c ∷ cs) (suc k) = zero_sums m s (i + 1) cs k

pub zeroed_tracks : (m : Datasheet) (s : Settings) (r : Running) → Tracks m s (zeroed r) []
zeroed_tracks m s r = record { flag = refl; count = λ h. refl; sums = λ h i l. zero_sums m s 0 r.channels i }
