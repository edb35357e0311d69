-- Bytes, bits and masks, for the makes.
use Rattle.std.specs.Prelude.{◌≡◌, ℕ, zero, suc, ◌+◌, ◌*◌, ◌/◌, ◌%◌, ◌^◌, ◌<◌, ◌≤◌, Bool, true, false, ◌&&◌, List, [], ◌∷◌, length, ◌==◌, nat_eq, nat_le}
use Rattle.std.proofs.Common.{⊎_elim, ap₂, div-add-mod', arith}
use Rattle.std.proofs.lemmas.Bool.{and_parts, cases_Bool, eq-eqb, eqb-true, leb-true, ne_eqb}
use Rattle.chip.specs.declared.state.Channel.{Channel}
use Rattle.chip.specs.declared.state.Running.{Running}
use Rattle.chip.specs.declared.state.Held.{Held}
use Rattle.chip.specs.declared.state.Settings.{Settings}
use Rattle.chip.specs.declared.state.State.{State}
use Rattle.chip.specs.Datasheet.{Datasheet, Wanted}
use Rattle.chip.specs.declared.entry.Entry.{Entry}
use Rattle.chip.specs.Laws.{Readable}
use Rattle.chip.specs.Registers.{big_endian, in_mask, number, value_of}
use Rattle.makes.specs.Table.{a_command, bit, code_from_07h, four_channel_offer}

-- a list of four, written out
pub four_of : {A : Type 0} (P : List A → Type 0) → ((a b c d : A) → P (a ∷ b ∷ c ∷ d ∷ [])) → (xs : List A) → length xs ≡ 4 → P xs
four_of P f [] e = absurd (omega arith)
four_of P f (a ∷ []) e = absurd (omega arith)
four_of P f (a ∷ b ∷ []) e = absurd (omega arith)
four_of P f (a ∷ b ∷ c ∷ []) e = absurd (omega arith)
four_of P f (a ∷ b ∷ c ∷ d ∷ []) e = f a b c d
four_of P f (a ∷ b ∷ c ∷ d ∷ x ∷ xs) e = absurd (omega arith)

pub two_bytes : (n : ℕ) → number (big_endian 2 n) ≡ n % 65536
two_bytes n = omega arith

pub two_bytes_back : (n : ℕ) → n < 65536 → number (big_endian 2 n) ≡ n
two_bytes_back n h = omega arith

pub three_bytes : (n : ℕ) → n < 2 ^ 24 → number (big_endian 3 n) ≡ n
three_bytes n h = omega arith

pub four_bytes : (n : ℕ) → n < 2 ^ 32 → number (big_endian 4 n) ≡ n
four_bytes n h = joined _ _ _ (n / 65536) (n % 65536) n (upper (n / 65536) (n / 16777216) (omega arith) (omega arith)) (two_bytes n) (div-add-mod' n 65536)
  where
    upper : (q a : ℕ) → a ≡ q / 256 → q < 65536 → a % 256 * 256 + q % 256 ≡ q
    upper q a e l = omega arith

    joined : (x y z q r n : ℕ) → x * 256 + y ≡ q → z ≡ r → q * 65536 + r ≡ n → x * 16777216 + (y * 65536 + z) ≡ n
    joined x y z q r n a b c = omega arith

pub six_bytes : (n : ℕ) → n < 2 ^ 48 → number (big_endian 6 n) ≡ n
six_bytes n h = omega arith

pub seven_bytes : (n : ℕ) → n < 2 ^ 56 → number (big_endian 7 n) ≡ n
seven_bytes n h = omega arith

pub small_byte : (n : ℕ) → n < 256 → (n < 256) × Unit {0}
small_byte n h = (h, tt)

pub bit_at_most : (b : Bool) → bit b ≤ 1
bit_at_most true = omega arith
bit_at_most false = omega arith

pub bit_told : (b : Bool) (n : ℕ) → n ≡ bit b → (n == 1) ≡ b
bit_told true n e = eq-eqb _ _ e
bit_told false n e = ne_eqb _ _ (λ h. omega arith)

pub and_three : (a b c : Bool) → a ≡ true → b ≡ true → c ≡ true → (a && b && c) ≡ true
and_three a b c p q r = grind arith

pub by_channel : (P : ℕ → Type 0) → P 1 → P 2 → P 3 → P 4 → (n : ℕ) → 1 ≤ n → n ≤ 4 → P n
by_channel P a b c d zero l u = absurd (omega arith)
by_channel P a b c d (suc zero) l u = a
by_channel P a b c d (suc (suc zero)) l u = b
by_channel P a b c d (suc (suc (suc zero))) l u = c
by_channel P a b c d (suc (suc (suc (suc zero)))) l u = d
by_channel P a b c d (suc (suc (suc (suc (suc n))))) l u = absurd (omega arith)

pub by_mask : (P : ℕ → Type 0) → P 0 → P 1 → P 2 → P 3 → P 4 → P 5 → P 6 → P 7 → P 8 → P 9 → P 10 → P 11 → P 12 → P 13 → P 14 → P 15 → (n : ℕ) → n ≤ 15 → P n
by_mask P a b c d e f g h i j k l m n o p x le = go x le
  where
    go : (x : ℕ) → x ≤ 15 → P x
    go zero u = a
    go (suc zero) u = b
    go (suc (suc zero)) u = c
    go (suc (suc (suc zero))) u = d
    go (suc (suc (suc (suc zero)))) u = e
    go (suc (suc (suc (suc (suc zero))))) u = f
    go (suc (suc (suc (suc (suc (suc zero)))))) u = g
    go (suc (suc (suc (suc (suc (suc (suc zero))))))) u = h
    go (suc (suc (suc (suc (suc (suc (suc (suc zero)))))))) u = i
    go (suc (suc (suc (suc (suc (suc (suc (suc (suc zero))))))))) u = j
    go (suc (suc (suc (suc (suc (suc (suc (suc (suc (suc zero)))))))))) u = k
    go (suc (suc (suc (suc (suc (suc (suc (suc (suc (suc (suc zero))))))))))) u = l
    go (suc (suc (suc (suc (suc (suc (suc (suc (suc (suc (suc (suc zero)))))))))))) u = m
    go (suc (suc (suc (suc (suc (suc (suc (suc (suc (suc (suc (suc (suc zero))))))))))))) u = n
    go (suc (suc (suc (suc (suc (suc (suc (suc (suc (suc (suc (suc (suc (suc zero)))))))))))))) u = o
    go (suc (suc (suc (suc (suc (suc (suc (suc (suc (suc (suc (suc (suc (suc (suc zero))))))))))))))) u = p
    go (suc (suc (suc (suc (suc (suc (suc (suc (suc (suc (suc (suc (suc (suc (suc (suc x)))))))))))))))) u = absurd (omega arith)

pub offered_limits : (w : Wanted) → four_channel_offer w ≡ true → (w.rate ≤ 3) × (w.off ≤ 15) × (w.two_way ≤ 15)
offered_limits w y = let p = and_parts (nat_le w.rate 3 && nat_le w.off 15) (nat_le w.two_way 15) y in let q =
    and_parts (nat_le w.rate 3) (nat_le w.off 15) p.0 in (leb-true _ _ q.0, leb-true _ _ q.1, leb-true _ _ p.1)

-- the three commands stand at addresses without bytes
pub unlisted : (f : ℕ → ℕ) → f 0x00 ≡ 0 → f 0x1E ≡ 0 → f 0x1F ≡ 0 → (a : ℕ) → a_command a ≡ true → f a ≡ 0
unlisted f p q r a e = ⊎_elim (λ (y : nat_eq a 0x00 ≡ true). let z = eqb-true a 0x00 y in rw z p) (λ (y : nat_eq a 0x00 ≡ false). ⊎_elim (λ (y₂ : nat_eq a 0x1E ≡ true). let z =
    eqb-true a 0x1E y₂ in rw z q) (λ (y₂ : nat_eq a 0x1E ≡ false). let y₃ : nat_eq a 0x1F ≡ true = rw (y, y₂) at e in let z = eqb-true a 0x1F y₃ in rw z r) (cases_Bool (a == 0x1E)))
    (cases_Bool (a == 0x00))

pub same_wanted : (v w : Wanted) → v.rate ≡ w.rate → v.off ≡ w.off → v.two_way ≡ w.two_way → v ≡ w
same_wanted v w p q r = λ i. record { rate = p i; off = q i; two_way = r i }

pub same_entry : (e e' : Entry) → e.draw ≡ e'.draw → e.spoilt ≡ e'.spoilt → e.count ≡ e'.count → e.rate ≡ e'.rate → e.off ≡ e'.off → e.two_way ≡ e'.two_way
    → e.sums ≡ e'.sums → e ≡ e'
same_entry e e' p q r s t u v = λ i. record { draw = p i; spoilt = q i; count = r i; rate = s i; off = t i; two_way = u i; sums = v i }

pub one_sum : (bits x y i k n : ℕ) → x ≡ y → k ≡ n → value_of bits (in_mask x i) k ≡ value_of bits (in_mask y i) n
one_sum bits x y i k n e f = ap₂ (λ a b. value_of bits (in_mask a i) b) e f

abbrev pub chip_with : Held → Settings → Running → List Channel → ℕ → Bool → Bool → Settings → State
chip_with h a r cs k f g s = record {
  held = h;
  active = a;
  running = r;
  image =
      record { running = record { channels = cs; count = k; sum_flag = f; count_flag = g }; settings = s };
}

-- where the codes' registers are listed, a driver can read each code
pub codes_readable : (m : Datasheet) → ((a : ℕ) → 0x07 ≤ a → a ≤ 0x0E → 0 < m.width a) → (ch q : ℕ) → 1 ≤ ch → ch ≤ 4 → q ≤ 1 → Readable m (code_from_07h ch q, 2)
codes_readable m listed ch q l u v = (omega arith, omega arith, omega arith, listed (code_from_07h ch q) (omega arith) (omega arith))
