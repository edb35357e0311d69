-- The PAC193X.
use Rattle.std.specs.Prelude.{ℕ, ◌+◌, ◌*◌, ◌/◌, ◌%◌, Bool, cond, ◌&&◌, List, [], ◌∷◌, ℤ, pos, Some, None, Option, ◌==◌, nat_le}
use Rattle.std.specs.Int.{int_div_euclid}
use Rattle.chip.specs.declared.entry.Entry.{Entry}
use Rattle.chip.specs.declared.state.Codes.{Codes}
use Rattle.chip.specs.declared.state.Held.{Held}
use Rattle.chip.specs.declared.state.Running.{Running}
use Rattle.chip.specs.declared.state.State.{State}
use Rattle.chip.specs.Chip.{spoilt}
use Rattle.chip.specs.Datasheet.{Datasheet}
use Rattle.chip.specs.Registers.{value_of, register_at}
use Rattle.makes.specs.Table.{image_shows, a_command, four_channel_offer, code_from_07h, bit, product, sums_in}

-- floor(v/4) × floor(s/4), on four channels
abbrev pub product_193x : (channel : ℕ) → (two_way : Bool) → Codes → ℤ
product_193x i two_way k = product i k.bus (int_div_euclid (value_of 16 two_way k.sense) (pos 4))

-- bytes at each address; 0 is not listed
abbrev pub width_193x : (address : ℕ) → ℕ
width_193x a =
    cond (a == 0x01) 1
    (cond (a == 0x02) 3
    (cond (nat_le 0x03 a && nat_le a 0x06) 6
    (cond (nat_le 0x07 a && nat_le a 0x16) 2
    (cond (nat_le 0x17 a && nat_le a 0x1A) 4
    (cond (nat_le 0x1C a && nat_le a 0x1D) 1
    (cond (nat_le 0x21 a && nat_le a 0x26) 1
    0))))))

-- bit 0 of a shown control is a flag, whatever was written there
abbrev pub flagged : (control : ℕ) → Running → ℕ
flagged control r = control / 2 * 2 + bit (spoilt r)

abbrev pub shows_193x : State → (address : ℕ) → ℕ
shows_193x c a =
    cond (a == 0x01) c.held.settings.control
    (cond (nat_le 0x02 a && nat_le a 0x1A) (image_shows 16 c.image a)
    (cond (a == 0x1C) c.held.settings.channels
    (cond (a == 0x1D) c.held.settings.polarity
    (cond (a == 0x21) (flagged c.active.control c.running)
    (cond (a == 0x22) c.active.channels
    (cond (a == 0x23) c.active.polarity
    (cond (a == 0x24) (flagged c.image.settings.control c.image.running)
    (cond (a == 0x25) c.image.settings.channels
    (cond (a == 0x26) c.image.settings.polarity
    0)))))))))

-- registers of eight bits, so each keeps its lowest byte
abbrev pub keeps_193x : (address number : ℕ) → Held → Option Held
keeps_193x a n s =
    cond (a == 0x01) (Some (record s { settings = record s.settings { control = n % 256 } }))
    (cond (a == 0x1C) (Some (record s { settings = record s.settings { channels = n % 256 } }))
    (cond (a == 0x1D) (Some (record s { settings = record s.settings { polarity = n % 256 } }))
    None))

-- rate code in bits 7-6 and mark in bit 2 of control; masks in bits 7-4
abbrev pub rate_193x : (control : ℕ) → ℕ
rate_193x control = (control / 64) % 4

abbrev pub mark_193x : (control : ℕ) → Bool
mark_193x control = (control / 4) % 2 == 1

abbrev pub mask_193x : (register : ℕ) → ℕ
mask_193x register = (register / 16) % 16

-- count and four sums, then control, channels and polarity of the image
abbrev pub entry_193x : (replies : List ℕ) → (draw : ℕ) → Entry
entry_193x bs n = record {
  draw = n;
  spoilt = register_at 27 1 bs % 2;
  count = register_at 0 3 bs;
  rate = rate_193x (register_at 27 1 bs);
  off = mask_193x (register_at 28 1 bs);
  two_way = mask_193x (register_at 29 1 bs);
  sums = sums_in 6 48 (mask_193x (register_at 29 1 bs)) 3 bs;
}

abbrev pub pac193x : Datasheet
pac193x = record {
  channels = 4;
  sum_bits = 48;
  count_bits = 24;
  product = product_193x;
  fresh = record { control = 0; channels = 0; polarity = 0 };
  rate = λ s. rate_193x s.control;
  off = λ s. mask_193x s.channels;
  two_way = λ s. mask_193x s.polarity;
  mark = λ s. mark_193x s.control;
  width = width_193x;
  last_address = 0x26;
  shows = shows_193x;
  keeps = keeps_193x;
  command = a_command;
  refresh = 0x00;
  refresh_v = 0x1F;
  offers = four_channel_offer;
  settings_writes = λ w b. (0x01, (w.rate * 64 + bit b * 4) ∷ []) ∷ (0x1C, (w.off * 16) ∷ []) ∷ (0x1D, (w.two_way * 16) ∷ []) ∷ [];
  mark_at = (0x21, 1);
  mark_in = mark_193x;
  booking_reads = (0x02, 27) ∷ (0x24, 3) ∷ [];
  entry_in = entry_193x;
  code_at = code_from_07h;
  polarity_at = (0x26, 1);
  two_way_in = mask_193x;
  volts = 32;
  tariff = record { factor = 15625; power = 27 };
}
