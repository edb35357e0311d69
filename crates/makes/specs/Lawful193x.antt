-- The PAC193X keeps the laws.
use Rattle.std.specs.Prelude.{◌≡◌, ℕ, ◌+◌, ◌-◌, ◌*◌, ◌/◌, ◌%◌, ◌^◌, ◌<◌, ◌≤◌, Bool, true, false, ◌||◌, List, [], ◌∷◌, length, nat_eq, nat_le, refl}
use Rattle.std.proofs.Common.{ap, arith}
use Rattle.std.proofs.lemmas.Bool.{le-leb, lt-leb}
use Rattle.makes.specs.Layouts.{and_three, bit_at_most, bit_told, by_channel, chip_with, codes_readable, four_of, offered_limits, one_sum, same_entry, same_wanted, six_bytes, three_bytes, two_bytes, unlisted}
use Rattle.chip.specs.Chip.{channel, entry_of, reply, spoilt}
use Rattle.chip.specs.Laws.{Every, Lawful, Means, Writable, replies, written}
use Rattle.chip.specs.Datasheet.{Wanted, meaning}
use Rattle.chip.specs.declared.entry.Entry.{Entry}
use Rattle.makes.specs.Pac193x.{mask_193x, pac193x, rate_193x, width_193x}
use Rattle.chip.specs.declared.state.Channel.{Channel}
use Rattle.chip.specs.declared.state.Held.{Held}
use Rattle.chip.specs.declared.state.Running.{Running}
use Rattle.chip.specs.declared.state.Settings.{Settings}
use Rattle.chip.specs.declared.state.State.{State}
use Rattle.chip.specs.Registers.{number}
use Rattle.makes.specs.Table.{bit, image_bus, image_sense}

mark_shown : (n : ℕ) (b : Bool) → (((n / 2 * 2 + bit b) / 1) % 256 * 1 + 0) / 4 % 2 ≡ (n / 4) % 2
mark_shown n b = let p = bit_at_most b in omega arith

rate_shown : (n : ℕ) (b : Bool) → (((n / 2 * 2 + bit b) / 1) % 256 * 1 + 0) / 64 % 4 ≡ (n / 64) % 4
rate_shown n b = let p = bit_at_most b in omega arith

pub flag_shown : (n : ℕ) (b : Bool) → (((n / 2 * 2 + bit b) / 1) % 256 * 1 + 0) % 2 ≡ bit b
flag_shown n b = let p = bit_at_most b in omega arith

mask_shown : (n : ℕ) → (((n / 1) % 256 * 1 + 0) / 16) % 16 ≡ (n / 16) % 16
mask_shown n = omega arith

abbrev control : Wanted → Bool → ℕ
control w b = w.rate * 64 + bit b * 4

means : (w : Wanted) → pac193x.offers w ≡ true → (b : Bool) (s : Held) → Means pac193x w b (written pac193x (pac193x.settings_writes w b) s)
means w ok b s =
    let l = offered_limits w ok in let p = bit_at_most b in let l0 = l.0 in let l1 = l.1 in let l2 = l.2 in
    (bit_told b _ (omega arith), same_wanted _ w (omega arith) (omega arith) (omega arith))

writable : (w : Wanted) → pac193x.offers w ≡ true → (b : Bool) → Every Writable (pac193x.settings_writes w b)
writable w ok b = let l = offered_limits w ok in let p = bit_at_most b in let l0 = l.0 in let l1 = l.1 in let l2 =
    l.2 in ((omega arith, (omega arith, tt)), ((omega arith, (omega arith, tt)), ((omega arith, (omega arith, tt)), tt)))

offered : (s : Settings) → pac193x.offers (meaning pac193x s) ≡ true
offered s =
    and_three _ _ _ (le-leb (rate_193x s.control) 3 (omega arith)) (le-leb (mask_193x s.channels) 15 (omega arith)) (le-leb (mask_193x s.polarity) 15 (omega arith))

codes_listed : (a : ℕ) → 0x07 ≤ a → a ≤ 0x0E → 0 < width_193x a
codes_listed a l u = grind arith

abbrev entry_read : State → ℕ → Entry
entry_read c n = pac193x.entry_in (replies pac193x c pac193x.booking_reads) n

entry_ok : (p : Held) (a : Settings) (r : Running) (cs : List Channel) (k : ℕ) (f g : Bool) (s : Settings) (n : ℕ) → length cs ≡ 4 → k < 2 ^ 24
    → Every (λ c. c.sum < 2 ^ 48) cs → entry_read (chip_with p a r cs k f g s) n ≡ entry_of pac193x (chip_with p a r cs k f g s).image n
entry_ok p a r cs k f g s n l small below =
    four_of (λ cs. Every (λ c. c.sum < 2 ^ 48) cs → entry_read (chip_with p a r cs k f g s) n ≡ entry_of pac193x (chip_with p a r cs k f g s).image n)
    (λ w x y z h. same_entry (entry_read (chip_with p a r (w ∷ x ∷ y ∷ z ∷ []) k f g s) n) (entry_of pac193x (chip_with p a r (w ∷ x ∷ y ∷ z ∷ []) k f g s).image n)
    refl
    (flag_shown s.control (f || g))
    (three_bytes k small)
    (rate_shown s.control (f || g))
    (mask_shown s.channels)
    (mask_shown s.polarity)
    (λ i. one_sum 48 _ _ 0 _ _ (mask_shown s.polarity) (six_bytes w.sum h.0) i ∷ one_sum 48 _ _ 1 _ _ (mask_shown s.polarity) (six_bytes x.sum h.1.0) i
    ∷ one_sum 48 _ _ 2 _ _ (mask_shown s.polarity) (six_bytes y.sum h.1.1.0) i ∷ one_sum 48 _ _ 3 _ _ (mask_shown s.polarity)
    (six_bytes z.sum h.1.1.1.0) i ∷ []))
    cs l below

narrow : (a : ℕ) → width_193x a ≤ 8
narrow a = grind arith

pub lawful_193x : Lawful pac193x
lawful_193x = record {
  one_to_four = (omega arith, omega arith);
  some_bits = omega arith;
  sums_fit = omega arith;
  counts_fit = omega arith;
  widths_fit = narrow;
  addresses_fit = omega arith;
  no_product = λ i l b k. let z : nat_le i 3 ≡ false = lt-leb _ _ (omega arith) in rw z refl;
  fresh_mark = refl;
  zero_offered = refl;
  meaning_offered = offered;
  offer_limits = offered_limits;
  two_commands = λ e. omega arith;
  refresh_is = (refl, omega arith);
  refresh_v_is = (refl, omega arith);
  commands_unlisted = unlisted width_193x refl refl refl;
  few_writes = λ w b. omega arith;
  byte_writes = writable;
  written_means = means;
  mark_readable = (omega arith, omega arith, omega arith, omega arith);
  mark_read = λ c. ap (λ n. nat_eq n 1) (mark_shown c.active.control (spoilt c.running));
  booking_readable = ((omega arith, omega arith, omega arith, omega arith), ((omega arith, omega arith, omega arith, omega arith), tt));
  entry_read = λ c n ok. entry_ok c.held c.active c.running c.image.running.channels c.image.running.count c.image.running.sum_flag
      c.image.running.count_flag c.image.settings n ok.four ok.count ok.sums;
  code_readable = codes_readable pac193x codes_listed;
  bus_read = λ c ch l u. by_channel (λ ch. number (reply pac193x c (pac193x.code_at ch 0) 2) ≡ (channel (ch - 1) c.image.running).latest.bus % 65536)
      (two_bytes (image_bus 0 c.image)) (two_bytes (image_bus 1 c.image)) (two_bytes (image_bus 2 c.image)) (two_bytes (image_bus 3 c.image)) ch l u;
  sense_read =
      λ c ch l u. by_channel (λ ch. number (reply pac193x c (pac193x.code_at ch 1) 2) ≡ (channel (ch - 1) c.image.running).latest.sense % 65536)
      (two_bytes (image_sense 0 c.image)) (two_bytes (image_sense 1 c.image)) (two_bytes (image_sense 2 c.image)) (two_bytes (image_sense 3 c.image)) ch l u;
  polarity_readable = (omega arith, omega arith, omega arith, omega arith);
  polarity_read = λ c. mask_shown c.image.settings.polarity;
  few_replies = omega arith;
  mark_short = omega arith;
  polarity_short = omega arith;
  tariff_fits = (omega arith, omega arith);
}
