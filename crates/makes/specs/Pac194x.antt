-- The PAC194X.
use Rattle.std.specs.Prelude.{ℕ, ◌+◌, ◌*◌, ◌/◌, ◌%◌, Bool, cond, ◌&&◌, List, [], ◌∷◌, ℤ, Some, None, Option, ◌==◌, nat_le}
use Rattle.chip.specs.declared.entry.Entry.{Entry}
use Rattle.chip.specs.declared.state.Codes.{Codes}
use Rattle.chip.specs.declared.state.Held.{Held}
use Rattle.chip.specs.declared.state.Running.{Running}
use Rattle.chip.specs.declared.state.State.{State}
use Rattle.chip.specs.Datasheet.{Datasheet, Wanted}
use Rattle.chip.specs.Registers.{value_of, register_at, big_endian}
use Rattle.makes.specs.Table.{image_shows, a_command, four_channel_offer, code_from_07h, bit, product, sums_in}

-- floor(v/4) × s, on four channels
abbrev pub product_194x : (channel : ℕ) → (two_way : Bool) → Codes → ℤ
product_194x i two_way k = product i k.bus (value_of 16 two_way k.sense)

-- bytes at each address; 0 is not listed
abbrev pub width_194x : (address : ℕ) → ℕ
width_194x a =
    cond (a == 0x01) 2
    (cond (a == 0x02) 4
    (cond (nat_le 0x03 a && nat_le a 0x06) 7
    (cond (nat_le 0x07 a && nat_le a 0x16) 2
    (cond (nat_le 0x17 a && nat_le a 0x1A) 4
    (cond (a == 0x1C) 1
    (cond (a == 0x1D) 2
    (cond (nat_le 0x21 a && nat_le a 0x24) 2
    (cond (a == 0x25) 1
    (cond (a == 0x26) 3
    0)))))))))

-- the sum flag in bit 3, the count flag in bit 2
abbrev pub flags_194x : Running → ℕ
flags_194x r = bit r.sum_flag * 8 + bit r.count_flag * 4

abbrev pub shows_194x : State → (address : ℕ) → ℕ
shows_194x c a =
    cond (a == 0x01) c.held.settings.control
    (cond (nat_le 0x02 a && nat_le a 0x1A) (image_shows 4 c.image a)
    (cond (a == 0x1C) c.held.byte
    (cond (a == 0x1D) c.held.settings.polarity
    (cond (a == 0x21) c.active.control
    (cond (a == 0x22) c.active.polarity
    (cond (a == 0x23) c.image.settings.control
    (cond (a == 0x24) c.image.settings.polarity
    (cond (a == 0x25) 0
    (cond (a == 0x26) (flags_194x c.image.running)
    0)))))))))

-- control and polarity keep sixteen bits; 1Ch is a plain byte
abbrev pub keeps_194x : (address number : ℕ) → Held → Option Held
keeps_194x a n s =
    cond (a == 0x01) (Some (record s { settings = record s.settings { control = n % 65536 } }))
    (cond (a == 0x1C) (Some (record s { byte = n % 256 }))
    (cond (a == 0x1D) (Some (record s { settings = record s.settings { polarity = n % 65536 } }))
    None))

-- 4 + rate code in bits 15-12, mark in bit 10, off mask in bits 7-4 of control
abbrev pub rate_194x : (control : ℕ) → ℕ
rate_194x control = (control / 4096) % 4

abbrev pub mark_194x : (control : ℕ) → Bool
mark_194x control = (control / 1024) % 2 == 1

abbrev pub off_194x : (control : ℕ) → ℕ
off_194x control = (control / 16) % 16

-- two bits a channel, channel 1 in bits 15-14 down to channel 4 in 9-8; 01 is two-way, the rest one-way
abbrev pub way_194x : (polarity place : ℕ) → ℕ
way_194x polarity place = bit ((polarity / place) % 4 == 1)

abbrev pub two_way_194x : (polarity : ℕ) → ℕ
two_way_194x polarity = way_194x polarity 16384 * 8 + way_194x polarity 4096 * 4 + way_194x polarity 1024 * 2 + way_194x polarity 256

-- a two-way mask, as the polarity that means it
abbrev pub polarity_194x : (mask : ℕ) → ℕ
polarity_194x mask = ((mask / 8) % 2) * 16384 + ((mask / 4) % 2) * 4096 + ((mask / 2) % 2) * 1024 + (mask % 2) * 256

abbrev pub control_194x : Wanted → (mark : Bool) → ℕ
control_194x w b = (4 + w.rate) * 4096 + bit b * 1024 + w.off * 16

-- either flag, in bits 3 and 2
abbrev pub flagged_194x : (flags : ℕ) → ℕ
flagged_194x flags = bit (nat_le 1 ((flags / 4) % 4))

-- count and four sums, then control, polarity, a byte of 00h and flags of the image
abbrev pub entry_194x : (replies : List ℕ) → (draw : ℕ) → Entry
entry_194x bs n = record {
  draw = n;
  spoilt = flagged_194x (register_at 37 3 bs);
  count = register_at 0 4 bs;
  rate = rate_194x (register_at 32 2 bs);
  off = off_194x (register_at 32 2 bs);
  two_way = two_way_194x (register_at 34 2 bs);
  sums = sums_in 7 56 (two_way_194x (register_at 34 2 bs)) 4 bs;
}

abbrev pub pac194x : Datasheet
pac194x = record {
  channels = 4;
  sum_bits = 56;
  count_bits = 32;
  product = product_194x;
  fresh = record { control = 0x4000; channels = 0; polarity = 0 };
  rate = λ s. rate_194x s.control;
  off = λ s. off_194x s.control;
  two_way = λ s. two_way_194x s.polarity;
  mark = λ s. mark_194x s.control;
  width = width_194x;
  last_address = 0x26;
  shows = shows_194x;
  keeps = keeps_194x;
  command = a_command;
  refresh = 0x00;
  refresh_v = 0x1F;
  offers = four_channel_offer;
  settings_writes = λ w b. (0x01, big_endian 2 (control_194x w b)) ∷ (0x1D, big_endian 2 (polarity_194x w.two_way)) ∷ [];
  mark_at = (0x21, 2);
  mark_in = mark_194x;
  booking_reads = (0x02, 32) ∷ (0x23, 8) ∷ [];
  entry_in = entry_194x;
  code_at = code_from_07h;
  polarity_at = (0x24, 2);
  two_way_in = two_way_194x;
  volts = 9;
  tariff = record { factor = 140625; power = 34 };
}
