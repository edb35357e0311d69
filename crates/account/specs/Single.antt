-- A make of one channel, with other addresses and one register a read: the theory does not rest on four.
use Rattle.std.specs.Prelude.{ℕ, ◌+◌, ◌*◌, ◌/◌, ◌%◌, Bool, cond, ◌&&◌, ◌||◌, List, [], ◌∷◌, ℤ, pos, ◌*ℤ◌, Some, None, Option, ◌==◌, nat_le}
use Rattle.chip.specs.declared.state.Codes.{Codes}
use Rattle.chip.specs.declared.state.Running.{Running}
use Rattle.chip.specs.declared.state.State.{State}
use Rattle.chip.specs.declared.state.Held.{Held}
use Rattle.chip.specs.Registers.{in_mask, value_of, register_at, big_endian}
use Rattle.chip.specs.Datasheet.{Datasheet, Wanted}
use Rattle.chip.specs.declared.entry.Entry.{Entry}
use Rattle.makes.specs.Table.{image_sum, image_bus, image_sense, image_power, bit}

-- v × s on channel 1; the others are not there
abbrev pub product_single : ℕ → Bool → Codes → ℤ
product_single i two_way k = cond (i == 0) (pos k.bus *ℤ value_of 16 two_way k.sense) (pos 0)

-- control 01h, count 02h, sum 03h, codes 04h and 05h, power 08h, image control 0Fh, image polarity 10h, image flags 11h, polarity 13h, active 17h and 18h
abbrev pub width_single : ℕ → ℕ
width_single a =
    cond (a == 0x01) 2
    (cond (a == 0x02) 4
    (cond (a == 0x03) 7
    (cond (nat_le 0x04 a && nat_le a 0x05) 2
    (cond (a == 0x08) 4
    (cond (a == 0x0F) 2
    (cond (a == 0x10) 1
    (cond (a == 0x11) 2
    (cond (a == 0x13) 1
    (cond (a == 0x17) 2
    (cond (a == 0x18) 1
    0))))))))))

abbrev pub flags_single : Running → ℕ
flags_single r = bit r.sum_flag * 8 + bit r.count_flag * 4

abbrev pub shows_single : State → ℕ → ℕ
shows_single c a =
    cond (a == 0x01) c.held.settings.control
    (cond (a == 0x02) c.image.running.count
    (cond (a == 0x03) (image_sum 0 c.image)
    (cond (a == 0x04) (image_bus 0 c.image)
    (cond (a == 0x05) (image_sense 0 c.image)
    (cond (a == 0x08) (image_power 1 0 c.image)
    (cond (a == 0x0F) c.image.settings.control
    (cond (a == 0x10) c.image.settings.polarity
    (cond (a == 0x11) (flags_single c.image.running)
    (cond (a == 0x13) c.held.settings.polarity
    (cond (a == 0x17) c.active.control
    (cond (a == 0x18) c.active.polarity
    0)))))))))))

abbrev pub keeps_single : ℕ → ℕ → Held → Option Held
keeps_single a n s =
    cond (a == 0x01) (Some (record s { settings = record s.settings { control = n } }))
    (cond (a == 0x13) (Some (record s { settings = record s.settings { polarity = n } }))
    None)

-- modes 2 to 5 in bits 15-12 are rate codes 0 to 3; the mark is bit 10; polarity has 01 in bits 3-2 for two-way
abbrev pub rate_single : ℕ → ℕ
rate_single control = (control / 4096 + 2) % 4

abbrev pub mark_single : ℕ → Bool
mark_single control = (control / 1024) % 2 == 1

abbrev pub two_way_single : ℕ → ℕ
two_way_single polarity = bit ((polarity / 4) % 4 == 1) * 8

abbrev pub single_offer : Wanted → Bool
single_offer w = nat_le w.rate 3 && w.off == 0 && (w.two_way == 0 || w.two_way == 8)

-- five replies: count, sum, flags, control, polarity
abbrev pub entry_single : (replies : List ℕ) → ℕ → Entry
entry_single bs n = record {
  draw = n;
  spoilt = bit (nat_le 1 ((register_at 11 2 bs / 4) % 4));
  count = register_at 0 4 bs;
  rate = rate_single (register_at 13 2 bs);
  off = 0;
  two_way = two_way_single (register_at 15 1 bs);
  sums = value_of 56 (in_mask (two_way_single (register_at 15 1 bs)) 0) (register_at 4 7 bs) ∷ pos 0 ∷ pos 0 ∷ pos 0 ∷ [];
}

abbrev pub single : Datasheet
single = record {
  channels = 1;
  sum_bits = 56;
  count_bits = 32;
  product = product_single;
  fresh = record { control = 0x2000; channels = 0; polarity = 0 };
  rate = λ s. rate_single s.control;
  off = λ s. 0;
  two_way = λ s. two_way_single s.polarity;
  mark = λ s. mark_single s.control;
  width = width_single;
  last_address = 0x18;
  shows = shows_single;
  keeps = keeps_single;
  command = λ a. (a == 0x00) || a == 0x14 || (a == 0x15);
  refresh = 0x00;
  refresh_v = 0x15;
  offers = single_offer;
  settings_writes = λ w b. (0x01, big_endian 2 ((2 + w.rate) * 4096 + bit b * 1024)) ∷ (0x13, (w.two_way / 2) ∷ []) ∷ [];
  mark_at = (0x17, 2);
  mark_in = mark_single;
  booking_reads = (0x02, 4) ∷ (0x03, 7) ∷ (0x11, 2) ∷ (0x0F, 2) ∷ (0x10, 1) ∷ [];
  entry_in = entry_single;
  code_at = λ ch q. 0x04 + q;
  polarity_at = (0x10, 1);
  two_way_in = two_way_single;
  volts = 42;
  tariff = record { factor = 328125; power = 35 };
}
