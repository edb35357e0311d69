-- Figures worked by hand on the bench.
use Rattle.std.specs.Prelude.{◌≡◌, ℕ, ◌-◌, ◌^◌, true, false, List, [], ◌∷◌, pos, negsuc}
use Rattle.chip.specs.declared.state.Codes.{Codes}
use Rattle.chip.specs.declared.state.State.{State}
use Rattle.chip.specs.Chip.{cycled, latched, fresh_chip, idle, blank, channel}
use Rattle.chip.specs.Datasheet.{Datasheet}
use Rattle.makes.specs.Pac193x.{pac193x}
use Rattle.makes.specs.Pac194x.{pac194x}
use Rattle.chip.specs.Registers.{value_of}

abbrev pub codes : (bus sense : ℕ) → Codes
codes v s = record { bus = v; sense = s }

-- codes on channel 1, the others 0
abbrev pub on_one : (bus sense : ℕ) → List Codes
on_one v s = codes v s ∷ codes 0 0 ∷ codes 0 0 ∷ codes 0 0 ∷ []

-- a fresh chip but for channel 1's sum, the count and the active polarity
abbrev pub chip_at : Datasheet → (polarity sum count : ℕ) → State
chip_at m p s n = record {
  held = record { settings = m.fresh; byte = 0 };
  active = record { control = m.fresh.control; channels = 0; polarity = p };
  running = record {
    channels = record { latest = codes 0 0; product = pos 0; sum = s } ∷ blank ∷ blank ∷ blank ∷ [];
    count = n;
    sum_flag = false;
    count_flag = false;
  };
  image = record { running = idle; settings = m.fresh };
}

abbrev pub first_sum : State → ℕ
first_sum c = (channel 0 c.running).sum

pub record Figures : Type 0 where
  -- v 40000, s 20000
  pub product_193 : pac193x.product 0 false (codes 40000 20000) ≡ pos 50000000
  pub product_194 : pac194x.product 0 false (codes 40000 20000) ≡ pos 200000000
  pub power_193 : pac193x.shows (latched (cycled pac193x (on_one 40000 20000) (fresh_chip pac193x))) 0x17 ≡ 0x2FAF0800
  pub power_194 : pac194x.shows (latched (cycled pac194x (on_one 40000 20000) (fresh_chip pac194x))) 0x17 ≡ 0x2FAF0800
  -- v 40000, two-way s 65535
  pub negative_193 : pac193x.product 0 true (codes 40000 65535) ≡ negsuc 9999
  pub negative_194 : pac194x.product 0 true (codes 40000 65535) ≡ negsuc 9999
  -- PAC193X, sum 281,474,976,710,655 plus product 1, and from one less
  pub full_sum : first_sum (cycled pac193x (on_one 4 4) (chip_at pac193x 0 281474976710655 0)) ≡ 0
  pub full_flag : (cycled pac193x (on_one 4 4) (chip_at pac193x 0 281474976710655 0)).running.sum_flag ≡ true
  pub less_sum : first_sum (cycled pac193x (on_one 4 4) (chip_at pac193x 0 281474976710654 0)) ≡ 281474976710655
  pub less_flag : (cycled pac193x (on_one 4 4) (chip_at pac193x 0 281474976710654 0)).running.sum_flag ≡ false
  -- PAC193X two-way, sum -2^47 plus -1
  pub lowest : value_of 48 true (2 ^ 47) ≡ negsuc (2 ^ 47 - 1)
  pub minus_one : pac193x.product 0 true (codes 4 65532) ≡ negsuc 0
  pub under_sum : value_of 48 true (first_sum (cycled pac193x (on_one 4 65532) (chip_at pac193x 0x80 (2 ^ 47) 0))) ≡ pos (2 ^ 47 - 1)
  pub under_flag : (cycled pac193x (on_one 4 65532) (chip_at pac193x 0x80 (2 ^ 47) 0)).running.sum_flag ≡ true
  -- PAC193X count 16,777,215, one cycle, and from one less
  pub full_count : (cycled pac193x (on_one 0 0) (chip_at pac193x 0 0 16777215)).running.count ≡ 0
  pub count_flag : (cycled pac193x (on_one 0 0) (chip_at pac193x 0 0 16777215)).running.count_flag ≡ true
  pub less_count : (cycled pac193x (on_one 0 0) (chip_at pac193x 0 0 16777214)).running.count ≡ 16777215
  pub no_count_flag : (cycled pac193x (on_one 0 0) (chip_at pac193x 0 0 16777214)).running.count_flag ≡ false
