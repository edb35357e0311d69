-- How a register's bits and bytes are read.
use Rattle.std.specs.Prelude.{ℕ, zero, suc, ◌+◌, ◌-◌, ◌*◌, ◌/◌, ◌%◌, ◌^◌, Bool, cond, ◌&&◌, List, [], ◌∷◌, length, take, drop, ℤ, pos, negsuc, ◌-ℤ◌, ◌==◌, int_le, int_lt, nat_le, unsigned_abs}
use Rattle.std.specs.Int.{int_rem_euclid}

-- bit 3 of a mask is channel 1, bit 0 channel 4; channels count from 0 here
abbrev pub in_mask : (mask channel : ℕ) → Bool
in_mask mask i = (mask / 2 ^ (3 - i)) % 2 == 1

-- what so many bits mean, one-way or in two's complement
abbrev pub value_of : (bits : ℕ) → (two_way : Bool) → ℕ → ℤ
value_of bits two_way n = cond (two_way && nat_le (2 ^ (bits - 1)) n) (pos n -ℤ pos (2 ^ bits)) (pos n)

-- 0 to 2^bits - 1, or two-way -2^(bits-1) to 2^(bits-1) - 1
abbrev pub in_range : (bits : ℕ) → (two_way : Bool) → ℤ → Bool
in_range bits two_way z =
    cond two_way (int_le (negsuc (2 ^ (bits - 1) - 1)) z && int_lt z (pos (2 ^ (bits - 1)))) (int_le (pos 0) z && int_lt z (pos (2 ^ bits)))

-- how far the lowest of these is below 0
abbrev pub below_zero : (bits : ℕ) → (two_way : Bool) → ℕ
below_zero bits two_way = cond two_way (2 ^ (bits - 1)) 0

-- a number modulo 2^bits, as a register keeps it
abbrev pub bits_of : (bits : ℕ) → ℤ → ℕ
bits_of bits z = unsigned_abs (int_rem_euclid z (pos (2 ^ bits)))

-- a number as so many bytes, the highest first
abbrev pub big_endian : (width : ℕ) → ℕ → List ℕ
big_endian zero n = []
big_endian (suc w) n = (n / 256 ^ w) % 256 ∷ big_endian w n

-- the number that bytes write, the highest first
abbrev pub number : List ℕ → ℕ
number [] = 0
number (b ∷ bs) = b * 256 ^ length bs + number bs

-- the number in so many bytes from a place on
abbrev pub register_at : (place width : ℕ) → List ℕ → ℕ
register_at place width bs = number (take width (drop place bs))
