-- A run that ends with a spoilt entry: so many cycles at full scale that channel 1's sum leaves its range.
use Rattle.std.proofs.Common.{◌≡◌, ℕ, zero, suc, ◌+◌, ◌*◌, ◌^◌, Bool, true, false, not, ◌&&◌, ◌||◌, leb, List, [], ◌∷◌, ℤ, pos, ◌+ℤ◌, refl, ap, ◌∙◌, ap₂, arith}
use Rattle.account.proofs.Assembly.{every_run}
use Rattle.makes.specs.Lawful193x.{flag_shown, lawful_193x}
use Rattle.makes.specs.Lawful194x.{flags_shown, lawful_194x}
use Rattle.account.proofs.Tracking.{cycled_keeps}
use Rattle.chip.specs.Chip.{spoilt}
use Rattle.account.specs.Dialogue.{Slip, book, draw, ended, new_meter, stepped}
use Rattle.account.specs.History.{History, Moment, Reached, account, called, chip_after, count_over, cycle_came, cycle_passed, left_range, made, product_at, sum_beyond, sum_over}
use Rattle.chip.specs.Laws.{Lawful}
use Rattle.chip.specs.Datasheet.{Datasheet}
use Rattle.makes.specs.Pac193x.{pac193x}
use Rattle.makes.specs.Pac194x.{pac194x}
use Rattle.chip.specs.declared.state.State.{State}
use Rattle.chip.specs.declared.state.Codes.{Codes}
use Rattle.chip.specs.Registers.{in_mask, in_range}
use Rattle.makes.specs.Table.{bit}
use Rattle.wire.specs.Wire.{done}
use Rattle.account.specs.Steps.{goes_on, stays}
use Rattle.account.specs.Worked.{SpoiltRun}
use Rattle.makes.specs.Figures.{on_one}

abbrev full : List Codes
full = on_one 65535 65535

-- so many such cycles; kept shut, since it is a long list
cycles : ℕ → History
cycles zero = []
cycles (suc n) = cycle_came full ∷ cycles n

module _ (m : Datasheet) (law : Lawful m) where
  come : (n : ℕ) → Reached m 64 1 0 (new_meter 1 0) (chip_after m (cycles n)) [] (cycles n)
  unfolding cycles
  come zero = made
  come (suc n) = cycle_passed full refl (come n)

  still_fresh : (n : ℕ) → (chip_after m (cycles n)).active ≡ m.fresh
  unfolding cycles
  still_fresh zero = refl
  still_fresh (suc n) = (cycled_keeps m (chip_after m (cycles n)) full).0 ∙ still_fresh n

  -- on such a make the products of one cycle are p on channel 1
  module _ (p : ℕ) (is_p : product_at m 0 (record { in_force = m.fresh; codes = full }) ≡ pos p) where
    total : (n : ℕ) → sum_over m 0 (account m (cycles n)).open_stretch.moments ≡ pos (n * p)
    unfolding cycles
    total zero = let e : 0 ≡ 0 * p = omega arith in ap pos e
    total (suc n) = ap₂ (λ s z. product_at m 0 (record { in_force = s; codes = full }) +ℤ z) (still_fresh n) (total n) ∙ ap (λ z. z +ℤ pos (n * p)) is_p
        ∙ (let e : p + n * p ≡ suc n * p = omega arith in ap pos e)

    third : (a b c d e f : Bool) → c ≡ true → (a || b || c || d || e || f) ≡ true
    third a b c d e f h = grind arith

    beyond : (o w : Bool) (z : ℤ) → o ≡ false → w ≡ false → in_range m.sum_bits false z ≡ false → (not o && not (in_range m.sum_bits w z)) ≡ true
    beyond o w z a b c = rw (a, b, c) refl

    out_with : (k : Moment) (ks : List Moment) → sum_beyond m 0 k ks ≡ true → left_range m (k ∷ ks) ≡ true
    out_with k ks e = third (left_range m ks) (leb (2 ^ m.count_bits) (count_over m (k ∷ ks))) (sum_beyond m 0 k ks) (sum_beyond m 1 k ks) (sum_beyond m 2 k ks)
        (sum_beyond m 3 k ks) e

    leaves_range : in_mask (m.off m.fresh) 0 ≡ false → in_mask (m.two_way m.fresh) 0 ≡ false → (n : ℕ) → in_range m.sum_bits false (pos (suc n * p)) ≡ false
        → left_range m (account m (cycles (suc n))).open_stretch.moments ≡ true
    unfolding cycles
    leaves_range on one_way n out = out_with (record { in_force = (chip_after m (cycles n)).active; codes = full }) (account m (cycles n)).open_stretch.moments
        (beyond (in_mask (m.off (chip_after m (cycles n)).active) 0) (in_mask (m.two_way (chip_after m (cycles n)).active) 0)
        (sum_over m 0 (account m (cycles (suc n))).open_stretch.moments) (ap (λ s. in_mask (m.off s) 0) (still_fresh n) ∙ on)
        (ap (λ s. in_mask (m.two_way s) 0) (still_fresh n) ∙ one_way) (ap (in_range m.sum_bits false) (total (suc n)) ∙ out))

  flagged_then : (n : ℕ) → left_range m (account m (cycles n)).open_stretch.moments ≡ true → spoilt (chip_after m (cycles n)).running ≡ true
  flagged_then n e = (every_run m law 64 1 0 (new_meter 1 0) (chip_after m (cycles n)) [] (cycles n) (omega arith) (come n)).running.flags ∙ e

abbrev the_slip : Slip
the_slip = record { meter = 1; draw = 1 }

-- whatever a 193X came to, it can be drawn and booked, and the entry has its mark
then_booked : (c : State) (h : History) → Reached pac193x 64 1 0 (new_meter 1 0) c [] h → spoilt c.running ≡ true → SpoiltRun pac193x
then_booked c h r e = record {
  t = _;
  c = _;
  e = _;
  h = _;
  run = called (book the_slip 32)
      (called draw r
      (stepped (stepped (stepped (stepped ended))))
      (goes_on (done refl) (goes_on (done refl) (goes_on (done refl) (goes_on (done refl) stays)))))
      (stepped (stepped ended))
      (goes_on (done refl) (goes_on (done refl) stays));
  spoilt = flag_shown c.active.control (spoilt c.running) ∙ ap bit e;
}

-- 1,048,705 cycles
pub spoilt_193 : SpoiltRun pac193x
spoilt_193 = then_booked _ _ (come pac193x lawful_193x 1048705) (flagged_then pac193x lawful_193x 1048705 (leaves_range pac193x lawful_193x 268402689 refl refl refl 1048704 refl))

then_booked_194 : (c : State) (h : History) → Reached pac194x 64 1 0 (new_meter 1 0) c [] h → spoilt c.running ≡ true → SpoiltRun pac194x
then_booked_194 c h r e = record {
  t = _;
  c = _;
  e = _;
  h = _;
  run = called (book the_slip 32)
      (called draw r
      (stepped (stepped (stepped ended)))
      (goes_on (done refl) (goes_on (done refl) (goes_on (done refl) stays))))
      (stepped (stepped ended))
      (goes_on (done refl) (goes_on (done refl) stays));
  spoilt = flags_shown c.running.sum_flag c.running.count_flag ∙ ap bit e;
}

-- 67,113,985 cycles
pub spoilt_194 : SpoiltRun pac194x
spoilt_194 =
    then_booked_194 _ _ (come pac194x lawful_194x 67113985) (flagged_then pac194x lawful_194x 67113985 (leaves_range pac194x lawful_194x 1073659905 refl refl refl 67113984 refl))
