-- What a register holds and what its bits say.
use Rattle.std.proofs.Common.{◌≡◌, ℕ, zero, suc, ◌+◌, ◌-◌, ◌*◌, ◌%◌, ◌^◌, ◌<◌, ◌≤◌, Bool, true, false, ◌&&◌, ℤ, pos, negsuc, ◌+ℤ◌, mod-lt, mod-eq_of_lt, arith, pow_pos, ap, ◌∙◌, ⊎_elim, is_le, is_lt, int_cmp, unsigned_abs, refl, sym, SFits, of_z, w64, pow-add}
use Rattle.std.proofs.Math.Nat.{add-mod_right}
use Rattle.std.proofs.lemmas.Bool.{cases_lt}
use Rattle.std.proofs.lemmas.Int.{int_rem_euclid_is, ints}
use Rattle.chip.specs.Registers.{below_zero, bits_of, in_range, value_of}

pub halves : (w : ℕ) → 0 < w → 2 ^ w ≡ 2 * 2 ^ (w - 1)
halves zero h = omega arith
halves (suc w) h = let e : suc w - 1 ≡ w = omega arith in rw e (omega arith)

pub bits_below : (w : ℕ) (z : ℤ) → bits_of w z < 2 ^ w
bits_below w (pos n) = mod-lt n (pow_pos w)
bits_below w (negsuc n) = let p = pow_pos w in omega arith

-- a register that holds n is in its range
pub value_in_range : (w : ℕ) → 0 < w → (two_way : Bool) (n : ℕ) → n < 2 ^ w → in_range w two_way (value_of w two_way n) ≡ true
value_in_range w h true n l = let e = halves w h in let p = pow_pos (w - 1) in grind (arith, ints)
value_in_range w h false n l = grind (arith, ints)

pub bits_back : (w : ℕ) → 0 < w → (two_way : Bool) (z : ℤ) → in_range w two_way z ≡ true → value_of w two_way (bits_of w z) ≡ z
bits_back w h true (pos n) r = let e = halves w h in let p = pow_pos (w - 1) in grind (arith, ints, mod-eq_of_lt)
bits_back w h true (negsuc n) r = let e = halves w h in let p = pow_pos (w - 1) in grind (arith, ints, mod-eq_of_lt)
bits_back w h false (pos n) r = grind (arith, ints, mod-eq_of_lt)
bits_back w h false (negsuc n) r = grind (arith, ints)

pub zero_value : (w : ℕ) (b : Bool) → value_of w b 0 ≡ pos 0
zero_value w b = let p = pow_pos (w - 1) in grind arith

-- counted from the lowest value, a register that holds n is n with its halves swapped
pub raised : (w : ℕ) → 0 < w → (two_way : Bool) (n : ℕ) → n < 2 ^ w → pos ((n + below_zero w two_way) % 2 ^ w) ≡ value_of w two_way n +ℤ pos (below_zero w two_way)
raised w h false n l =
    let same : n + 0 ≡ n = omega arith in
    let m : n % 2 ^ w ≡ n = mod-eq_of_lt l in
    ap (λ x. pos (x % 2 ^ w)) same ∙ ap pos m ∙ grind (arith, ints)
raised w h true n l =
    let e = halves w h in
    let p = pow_pos (w - 1) in
    let half = 2 ^ (w - 1) in
    ⊎_elim
    (λ (low : n < half).
    let m : (n + half) % 2 ^ w ≡ n + half = mod-eq_of_lt (omega arith) in
    ap pos m ∙ grind (arith, ints))
    (λ (high : half ≤ n).
    let k : n + half ≡ (n - half) + 2 ^ w = omega arith in
    let l' : n - half < 2 ^ w = omega arith in
    let m : (n + half) % 2 ^ w ≡ n - half = ap (λ x. x % 2 ^ w) k ∙ add-mod_right (n - half) (2 ^ w) ∙ mod-eq_of_lt l' in
    ap pos m ∙ grind (arith, ints))
    (cases_lt n half)

-- and a value is in range where it is 0 to 2^w - 1 when counted so
pub raised_in_range : (w : ℕ) → 0 < w → (two_way : Bool) (z : ℤ) → (is_le (int_cmp (pos 0) (z +ℤ pos (below_zero w two_way))) && is_lt (int_cmp (z +ℤ pos (below_zero w two_way)) (pos (2 ^ w)))) ≡ in_range w two_way z
raised_in_range w h true z = let e = halves w h in let p = pow_pos (w - 1) in grind (arith, ints)
raised_in_range w h false z = grind (arith, ints)

-- 64 bits in two's complement have the low bits of any number that fits them
pub low_bits : (w : ℕ) → w ≤ 64 → (z : ℤ) → SFits w64 z → of_z w64 z % 2 ^ w ≡ bits_of w z
low_bits w h (pos n) f = let e : of_z w64 (pos n) ≡ n = omega (arith, ints) in ap (λ x. x % 2 ^ w) e
low_bits w h (negsuc n) f =
    let k : 64 - w + w ≡ 64 = omega arith in
    let top : 2 ^ (64 - w) * 2 ^ w ≡ 2 ^ 64 = sym (pow-add 2 (64 - w) w) ∙ ap (λ x. 2 ^ x) k in
    let e : negsuc n +ℤ pos (2 ^ (64 - w) * 2 ^ w) ≡ pos (of_z w64 (negsuc n)) = ap (λ x. negsuc n +ℤ pos x) top ∙ omega (arith, ints) in
    sym (ap unsigned_abs (int_rem_euclid_is (negsuc n) (pos (2 ^ w)) (2 ^ w) (2 ^ (64 - w)) (of_z w64 (negsuc n)) (pow_pos w) refl e))
