-- What a make of chip is: its widths, arithmetic and registers, and what a driver has to know of it.
use Rattle.std.specs.Prelude.{ℕ, Bool, List, ℤ, Option}
use Rattle.chip.specs.declared.entry.Entry.{Entry}
use Rattle.chip.specs.declared.state.Codes.{Codes}
use Rattle.chip.specs.declared.state.Held.{Held}
use Rattle.chip.specs.declared.state.Masks.{Masks}
use Rattle.chip.specs.declared.state.Settings.{Settings}
use Rattle.chip.specs.declared.state.State.{State}
use Rattle.chip.specs.declared.state.Tariff.{Tariff}

-- a rate code, an off mask and a two-way mask: what a user wants, and what settings mean
pub record Wanted : Type 0 where
  pub rate : ℕ
  pub off : ℕ
  pub two_way : ℕ

pub record Datasheet : Type 0 where
  -- how many of the four channels the chip has; the others have product 0
  pub channels : ℕ
  pub sum_bits : ℕ
  pub count_bits : ℕ
  pub product : (channel : ℕ) → (two_way : Bool) → Codes → ℤ
  pub fresh : Settings
  -- what settings mean; the mark is a bit without effect, by which a driver knows its own settings again
  pub rate : Settings → ℕ
  pub off : Settings → ℕ
  pub two_way : Settings → ℕ
  pub mark : Settings → Bool
  -- the register table: bytes at an address (0: not listed), and the number shown there
  pub width : (address : ℕ) → ℕ
  pub last_address : ℕ
  pub shows : State → (address : ℕ) → ℕ
  -- what a write of a number leaves, at an address that takes one
  pub keeps : (address number : ℕ) → Held → Option Held
  pub command : (address : ℕ) → Bool
  pub refresh : ℕ
  pub refresh_v : ℕ
  -- the codes and masks that its settings can mean
  pub offers : Wanted → Bool
  -- the writes that put settings and a mark in place: addresses and bytes
  pub settings_writes : Wanted → (mark : Bool) → List (ℕ × List ℕ)
  -- where and how long the mark in force is read, and the mark in the number read
  pub mark_at : ℕ × ℕ
  pub mark_in : (number : ℕ) → Bool
  -- the reads that bring an image, and the entry in their replies, one after the other
  pub booking_reads : List (ℕ × ℕ)
  pub entry_in : (replies : List ℕ) → (draw : ℕ) → Entry
  -- where a code is read (channel 1 on; quantity 0 bus, 1 sense), and the image's two-way mask
  pub code_at : (channel quantity : ℕ) → ℕ
  pub polarity_at : ℕ × ℕ
  pub two_way_in : (number : ℕ) → ℕ
  -- the bus code's full scale in volts
  pub volts : ℕ
  pub tariff : Tariff

abbrev pub meaning : Datasheet → Settings → Wanted
meaning m s = record { rate = m.rate s; off = m.off s; two_way = m.two_way s }

abbrev pub masks_of : Datasheet → Settings → Masks
masks_of m s = record { off = m.off s; two_way = m.two_way s }
