-- Numbers as bytes, the highest first.
use Rattle.std.proofs.Common.{◌≡◌, ℕ, zero, suc, ◌+◌, ◌-◌, ◌*◌, ◌/◌, ◌%◌, ◌^◌, ◌<◌, ◌≤◌, min, List, [], ◌∷◌, ◌++◌, length, get_or, take, drop, replicate, set, sym, refl, ap, ◌∙◌, ⊎_elim, append_assoc, append-nil, le_of_suc-le-suc, w64, arith, lit<, pow-add, pow-suc}
use native.Mathlib.Nat.{pow-le-pow_right}
use Rattle.std.proofs.lemmas.Nat.{mul-add-lt}
use Rattle.std.specs.Int.{from_be_bytes}
use Rattle.std.proofs.lemmas.List.{drop_all, drop_more, length-append, length-drop, length-replicate, length-take-le, set_at, take-replicate, take_all, take_more}
use Rattle.std.proofs.lemmas.Bool.{cases_lt}
use borrow.Rule.Slice.PartMut.{put_mid}
use Rattle.chip.specs.Registers.{big_endian, number}

eight_of : (P : List ℕ → Type 0) → ((a b c d e f g h : ℕ) → P (a ∷ b ∷ c ∷ d ∷ e ∷ f ∷ g ∷ h ∷ [])) → (xs : List ℕ) → length xs ≡ 8 → P xs
eight_of P f [] e = absurd (omega arith)
eight_of P f (a ∷ []) e = absurd (omega arith)
eight_of P f (a ∷ b ∷ []) e = absurd (omega arith)
eight_of P f (a ∷ b ∷ c ∷ []) e = absurd (omega arith)
eight_of P f (a ∷ b ∷ c ∷ d ∷ []) e = absurd (omega arith)
eight_of P f (a ∷ b ∷ c ∷ d ∷ x ∷ []) e = absurd (omega arith)
eight_of P f (a ∷ b ∷ c ∷ d ∷ x ∷ y ∷ []) e = absurd (omega arith)
eight_of P f (a ∷ b ∷ c ∷ d ∷ x ∷ y ∷ z ∷ []) e = absurd (omega arith)
eight_of P f (a ∷ b ∷ c ∷ d ∷ x ∷ y ∷ z ∷ w ∷ []) e = f a b c d x y z w
eight_of P f (a ∷ b ∷ c ∷ d ∷ x ∷ y ∷ z ∷ w ∷ v ∷ xs) e = absurd (omega arith)

-- the library's number of eight bytes is ours
eight_is : (bs : List ℕ) → length bs ≡ 8 → from_be_bytes w64 bs ≡ number bs
eight_is = eight_of (λ bs. from_be_bytes w64 bs ≡ number bs) (λ a b c d e f g h. omega arith)

zeros_before : (k : ℕ) (bs : List ℕ) → number (replicate k 0 ++ bs) ≡ number bs
zeros_before zero bs = refl
zeros_before (suc k) bs = omega (arith, zeros_before k bs)

-- a shift by whole bytes
pub by_bytes : (k : ℕ) → 2 ^ (8 * k) ≡ 256 ^ k
by_bytes zero = refl
by_bytes (suc k) =
    (let e : 8 * suc k ≡ 8 * k + 8 = omega arith in ap (λ x. 2 ^ x) e)
    ∙ pow-add 2 (8 * k) 8
    ∙ ap (λ x. x * 256) (by_bytes k)
    ∙ sym (pow-suc 256 k)

pub big_endian_length : (w n : ℕ) → length (big_endian w n) ≡ w
big_endian_length zero n = refl
big_endian_length (suc w) n = ap suc (big_endian_length w n)

-- the byte at i
pub big_endian_at : (w n i : ℕ) → i < w → get_or (big_endian w n) i 0 ≡ (n / 256 ^ (w - 1 - i)) % 256
big_endian_at zero n i h = absurd (omega arith)
big_endian_at (suc w) n zero h = let e : suc w - 1 - 0 ≡ w = omega arith in rw e refl
big_endian_at (suc w) n (suc i) h =
    let e : suc w - 1 - suc i ≡ w - 1 - i = omega arith in
    rw e (big_endian_at w n i (le_of_suc-le-suc h))

-- one element more of xs over the start of ys
pub over_more : (xs ys : List ℕ) (i v : ℕ) → i < length xs → i < length ys → v ≡ get_or xs i 0
    → set (take i xs ++ drop i ys) i v ≡ take (i + 1) xs ++ drop (i + 1) ys
over_more xs ys i v h k e =
    ap (λ zs. set (take i xs ++ zs) i v) (drop_more ys i 0 k)
    ∙ set_at (take i xs) (get_or ys i 0) (drop (i + 1) ys) v i (length-take-le i xs (omega arith))
    ∙ ap (λ x. take i xs ++ x ∷ drop (i + 1) ys) e
    ∙ sym (append_assoc (take i xs) (get_or xs i 0 ∷ []) (drop (i + 1) ys))
    ∙ ap (λ zs. zs ++ drop (i + 1) ys) (sym (take_more xs i 0 h))

-- all of xs over the start of ys, as far as ys goes
pub over_all : (xs ys : List ℕ) (i : ℕ) → i ≡ min (length xs) (length ys) → take i xs ++ drop i ys ≡ take (length ys) xs ++ drop (length xs) ys
over_all xs ys i e = ⊎_elim short long (cases_lt (length xs) (length ys))
  where
    short : length xs < length ys → take i xs ++ drop i ys ≡ take (length ys) xs ++ drop (length xs) ys
    short h =
        let f : i ≡ length xs = omega arith in
        ap (λ k. take k xs ++ drop k ys) f
        ∙ ap (λ zs. zs ++ drop (length xs) ys) (take_all (length xs) xs (omega arith) ∙ sym (take_all (length ys) xs (omega arith)))

    long : length ys ≤ length xs → take i xs ++ drop i ys ≡ take (length ys) xs ++ drop (length xs) ys
    long h =
        let f : i ≡ length ys = omega arith in
        ap (λ k. take k xs ++ drop k ys) f
        ∙ ap (λ zs. take (length ys) xs ++ zs) (drop_all (length ys) ys (omega arith) ∙ sym (drop_all (length xs) ys h))

-- more bytes hold it too
pub more_room : (v n k : ℕ) → v < 256 ^ n → n ≤ k → v < 256 ^ k
more_room v n k below le = let top : 256 ^ n ≤ 256 ^ k = pow-le-pow_right (lit< tt) le in omega arith

-- bytes put at the end of eight zeros write the same number
pub padded : (bs xs : List ℕ) → length bs ≤ 8 → xs ≡ bs → from_be_bytes w64 (put_mid (8 - length bs) (8 - (8 - length bs)) (replicate {A = ℕ} 8 0) xs) ≡ number bs
padded bs xs h e =
    let a = 8 - length bs in
    let z : take a (replicate {A = ℕ} 8 0) ≡ replicate {A = ℕ} a 0 = take-replicate a 8 0 (omega arith) in
    let none : drop (8 - a) (drop a (replicate {A = ℕ} 8 0)) ≡ [] = drop_all (8 - a) (drop a (replicate {A = ℕ} 8 0)) (let l = length-drop a (replicate {A = ℕ} 8 0) in omega arith) in
    let long = length-append (replicate {A = ℕ} a 0) bs in
    let zeros = length-replicate {A = ℕ} a 0 in
    (λ j. from_be_bytes w64 (z j ++ (e j ++ none j)))
    ∙ ap (λ ys. from_be_bytes w64 (replicate {A = ℕ} a 0 ++ ys)) (append-nil bs)
    ∙ eight_is (replicate {A = ℕ} a 0 ++ bs) (omega (arith, long, zeros))
    ∙ zeros_before a bs

-- bytes write a number below their count's power of 256
pub number_below : (bs : List ℕ) → ((i : ℕ) → get_or bs i 0 < 256) → number bs < 256 ^ length bs
number_below [] h = omega arith
number_below (b ∷ bs) h =
    let low = number_below bs (λ i. h (suc i)) in
    let e : 256 ^ suc (length bs) ≡ 256 ^ length bs * 256 = pow-suc 256 (length bs) in
    omega (arith, e, mul-add-lt b (256 ^ length bs) (number bs) 256 (h 0) low)
