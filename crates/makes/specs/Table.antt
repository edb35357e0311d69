-- What the register tables of the PAC193X and the PAC194X have in common.
use Rattle.std.specs.Prelude.{ℕ, ◌+◌, ◌-◌, ◌*◌, ◌/◌, Bool, true, cond, ◌&&◌, List, [], ◌∷◌, ℤ, pos, ◌*ℤ◌, ◌==◌, nat_le}
use Rattle.chip.specs.declared.state.Image.{Image}
use Rattle.chip.specs.Chip.{channel}
use Rattle.chip.specs.Datasheet.{Wanted}
use Rattle.chip.specs.Registers.{in_mask, value_of, bits_of, register_at}

-- the bus code's upper 14 bits times a sense value, on four channels
abbrev pub product : (channel bus : ℕ) → (sense : ℤ) → ℤ
product i bus sense = cond (nat_le i 3) (pos (bus / 4) *ℤ sense) (pos 0)

-- the image's registers by channel, counted from 0
abbrev pub image_sum : (i : ℕ) → Image → ℕ
image_sum i g = (channel i g.running).sum

abbrev pub image_bus : (i : ℕ) → Image → ℕ
image_bus i g = (channel i g.running).latest.bus

abbrev pub image_sense : (i : ℕ) → Image → ℕ
image_sense i g = (channel i g.running).latest.sense

-- the latest product times a scale, modulo 2^32
abbrev pub image_power : (scale i : ℕ) → Image → ℕ
image_power scale i g = bits_of 32 ((channel i g.running).product *ℤ pos scale)

-- what 02h to 1Ah show of an image: the count; then by channel the sums, bus codes and sense codes; zeros; and the powers
abbrev pub image_shows : (scale : ℕ) → Image → (address : ℕ) → ℕ
image_shows scale g a =
    cond (nat_le a 0x02) g.running.count
    (cond (nat_le a 0x06) (image_sum (a - 0x03) g)
    (cond (nat_le a 0x0A) (image_bus (a - 0x07) g)
    (cond (nat_le a 0x0E) (image_sense (a - 0x0B) g)
    (cond (nat_le a 0x16) 0
    (cond (nat_le a 0x1A) (image_power scale (a - 0x17) g)
    0)))))

-- 00h REFRESH, 1Eh (never taken), 1Fh REFRESH_V
abbrev pub a_command : (address : ℕ) → Bool
a_command a = cond (a == 0x00) true (cond (a == 0x1E) true (a == 0x1F))

abbrev pub four_channel_offer : Wanted → Bool
four_channel_offer w = nat_le w.rate 3 && nat_le w.off 15 && nat_le w.two_way 15

-- bus codes stand from 07h, sense codes from 0Bh; channels count from 1
abbrev pub code_from_07h : (channel quantity : ℕ) → ℕ
code_from_07h ch q = 0x06 + 4 * q + ch

abbrev pub bit : Bool → ℕ
bit b = cond b 1 0

-- four sums of so many bytes in the replies, from their byte at on
abbrev pub sums_in : (bytes bits two_way at : ℕ) → List ℕ → List ℤ
sums_in bytes bits two_way at bs =
    value_of bits (in_mask two_way 0) (register_at at bytes bs)
    ∷ value_of bits (in_mask two_way 1) (register_at (at + bytes) bytes bs)
    ∷ value_of bits (in_mask two_way 2) (register_at (at + 2 * bytes) bytes bs)
    ∷ value_of bits (in_mask two_way 3) (register_at (at + 3 * bytes) bytes bs)
    ∷ []
