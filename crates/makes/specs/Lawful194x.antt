-- The PAC194X keeps the laws.
use Rattle.std.specs.Prelude.{◌≡◌, ℕ, ◌+◌, ◌-◌, ◌*◌, ◌/◌, ◌%◌, ◌^◌, ◌<◌, ◌≤◌, Bool, true, false, ◌||◌, List, [], ◌∷◌, length, ◌==◌, nat_eq, nat_le, refl}
use Rattle.std.proofs.Common.{◌∙◌, ap, arith}
use Rattle.std.proofs.lemmas.Bool.{le-leb, lt-leb}
use Rattle.makes.specs.Layouts.{and_three, bit_at_most, bit_told, by_channel, by_mask, chip_with, codes_readable, four_bytes, four_of, offered_limits, one_sum, same_entry, same_wanted, seven_bytes, two_bytes}
use Rattle.makes.specs.Layouts.{unlisted}
use Rattle.chip.specs.Chip.{channel, entry_of, reply}
use Rattle.chip.specs.Laws.{Every, Lawful, Means, Writable, replies, written}
use Rattle.chip.specs.Datasheet.{Wanted, meaning}
use Rattle.chip.specs.declared.entry.Entry.{Entry}
use Rattle.makes.specs.Pac194x.{flagged_194x, control_194x, off_194x, pac194x, polarity_194x, rate_194x, two_way_194x, width_194x}
use Rattle.chip.specs.declared.state.Channel.{Channel}
use Rattle.chip.specs.declared.state.Held.{Held}
use Rattle.chip.specs.declared.state.Running.{Running}
use Rattle.chip.specs.declared.state.Settings.{Settings}
use Rattle.chip.specs.declared.state.State.{State}
use Rattle.chip.specs.Registers.{big_endian, number}
use Rattle.makes.specs.Table.{bit, image_bus, image_sense}

abbrev shown_back : ℕ → ℕ
shown_back n = number (big_endian 2 n)

mark_shown : (n : ℕ) → (shown_back n / 1024) % 2 ≡ (n / 1024) % 2
mark_shown n = let e = two_bytes n in through (shown_back n) n e
  where
    through : (x n : ℕ) → x ≡ n % 65536 → (x / 1024) % 2 ≡ (n / 1024) % 2
    through x n e = omega arith

rate_shown : (n : ℕ) → rate_194x (shown_back n) ≡ rate_194x n
rate_shown n = through (shown_back n) n (two_bytes n)
  where
    through : (x n : ℕ) → x ≡ n % 65536 → (x / 4096) % 4 ≡ (n / 4096) % 4
    through x n e = omega arith

off_shown : (n : ℕ) → off_194x (shown_back n) ≡ off_194x n
off_shown n = through (shown_back n) n (two_bytes n)
  where
    through : (x n : ℕ) → x ≡ n % 65536 → (x / 16) % 16 ≡ (n / 16) % 16
    through x n e = omega arith

way_shown : (n : ℕ) → two_way_194x (shown_back n) ≡ two_way_194x n
way_shown n = rw two_bytes (four_ways _ _ _ _ _ _ _ _ (one n) (two n) (three n) (four n))
  where
    one : (n : ℕ) → (n % 65536 / 16384) % 4 ≡ (n / 16384) % 4
    one n = omega arith

    two : (n : ℕ) → (n % 65536 / 4096) % 4 ≡ (n / 4096) % 4
    two n = omega arith

    three : (n : ℕ) → (n % 65536 / 1024) % 4 ≡ (n / 1024) % 4
    three n = omega arith

    four : (n : ℕ) → (n % 65536 / 256) % 4 ≡ (n / 256) % 4
    four n = omega arith

    four_ways : (a b c d a' b' c' d' : ℕ) → a ≡ a' → b ≡ b' → c ≡ c' → d ≡ d' → bit (a == 1) * 8 + bit (b == 1) * 4 + bit (c == 1) * 2 + bit (d == 1)
        ≡ bit (a' == 1) * 8 + bit (b' == 1) * 4 + bit (c' == 1) * 2 + bit (d' == 1)
    four_ways a b c d a' b' c' d' p q r s = rw (p, q, r, s) refl

pub flags_shown : (f g : Bool) → flagged_194x (number (big_endian 3 (bit f * 8 + bit g * 4))) ≡ bit (f || g)
flags_shown true true = refl
flags_shown true false = refl
flags_shown false true = refl
flags_shown false false = refl

control_small : (w : Wanted) (b : Bool) → w.rate ≤ 3 → w.off ≤ 15 → control_194x w b < 65536
control_small w b l k = let p = bit_at_most b in omega arith

mask_back : (n : ℕ) → n ≤ 15 → two_way_194x (number (big_endian 2 (polarity_194x n))) ≡ n
mask_back n l = by_mask (λ n. two_way_194x (number (big_endian 2 (polarity_194x n))) ≡ n) refl refl refl refl refl refl refl refl refl refl refl refl refl refl refl refl n l

mark_back : (w : Wanted) (b : Bool) → w.rate ≤ 3 → w.off ≤ 15 → (number (big_endian 2 (control_194x w b)) / 1024) % 2 ≡ bit b
mark_back w b l k = mark_shown (control_194x w b) ∙ (let p = bit_at_most b in omega arith)

rate_back : (w : Wanted) (b : Bool) → w.rate ≤ 3 → w.off ≤ 15 → rate_194x (number (big_endian 2 (control_194x w b))) ≡ w.rate
rate_back w b l k = rate_shown (control_194x w b) ∙ (let p = bit_at_most b in omega arith)

off_back : (w : Wanted) (b : Bool) → w.rate ≤ 3 → w.off ≤ 15 → off_194x (number (big_endian 2 (control_194x w b))) ≡ w.off
off_back w b l k = off_shown (control_194x w b) ∙ (let p = bit_at_most b in omega arith)

-- two bytes fit a register of sixteen bits
kept_whole : (n : ℕ) → shown_back n % 65536 ≡ shown_back n
kept_whole n = omega arith

means : (w : Wanted) → pac194x.offers w ≡ true → (b : Bool) (s : Held) → Means pac194x w b (written pac194x (pac194x.settings_writes w b) s)
means w ok b s =
    let l = offered_limits w ok in
    let control = kept_whole (control_194x w b) in (
      bit_told b _ (ap (λ x. (x / 1024) % 2) control ∙ mark_back w b l.0 l.1),
      same_wanted _ w
          (ap rate_194x control ∙ rate_back w b l.0 l.1)
          (ap off_194x control ∙ off_back w b l.0 l.1)
          (ap two_way_194x (kept_whole (polarity_194x w.two_way)) ∙ mask_back w.two_way l.2),
    )

byte : (n : ℕ) → n % 256 < 256
byte n = omega arith

writable : (w : Wanted) → pac194x.offers w ≡ true → (b : Bool) → Every Writable (pac194x.settings_writes w b)
writable w ok b = ((omega arith, (byte _, (byte _, tt))), ((omega arith, (byte _, (byte _, tt))), tt))

way_small : (p : ℕ) → two_way_194x p ≤ 15
way_small p = small _ _ _ _ (bit_at_most ((p / 16384) % 4 == 1)) (bit_at_most ((p / 4096) % 4 == 1)) (bit_at_most ((p / 1024) % 4 == 1))
    (bit_at_most ((p / 256) % 4 == 1))
  where
    small : (a b c d : ℕ) → a ≤ 1 → b ≤ 1 → c ≤ 1 → d ≤ 1 → a * 8 + b * 4 + c * 2 + d ≤ 15
    small a b c d p q r s = omega arith

offered : (s : Settings) → pac194x.offers (meaning pac194x s) ≡ true
offered s =
    and_three _ _ _ (le-leb (rate_194x s.control) 3 (omega arith)) (le-leb (off_194x s.control) 15 (omega arith))
    (le-leb (two_way_194x s.polarity) 15 (way_small s.polarity))

codes_listed : (a : ℕ) → 0x07 ≤ a → a ≤ 0x0E → 0 < width_194x a
codes_listed a l u = grind arith

abbrev entry_read : State → ℕ → Entry
entry_read c n = pac194x.entry_in (replies pac194x c pac194x.booking_reads) n

entry_ok : (p : Held) (a : Settings) (r : Running) (cs : List Channel) (k : ℕ) (f g : Bool) (s : Settings) (n : ℕ) → length cs ≡ 4 → k < 2 ^ 32
    → Every (λ c. c.sum < 2 ^ 56) cs → entry_read (chip_with p a r cs k f g s) n ≡ entry_of pac194x (chip_with p a r cs k f g s).image n
entry_ok p a r cs k f g s n l small below =
    four_of (λ cs. Every (λ c. c.sum < 2 ^ 56) cs → entry_read (chip_with p a r cs k f g s) n ≡ entry_of pac194x (chip_with p a r cs k f g s).image n)
    (λ w x y z h. same_entry (entry_read (chip_with p a r (w ∷ x ∷ y ∷ z ∷ []) k f g s) n) (entry_of pac194x (chip_with p a r (w ∷ x ∷ y ∷ z ∷ []) k f g s).image n)
    refl
    (flags_shown f g)
    (four_bytes k small)
    (rate_shown s.control)
    (off_shown s.control)
    (way_shown s.polarity)
    (λ i. one_sum 56 _ _ 0 _ _ (way_shown s.polarity) (seven_bytes w.sum h.0) i ∷ one_sum 56 _ _ 1 _ _ (way_shown s.polarity) (seven_bytes x.sum h.1.0) i
    ∷ one_sum 56 _ _ 2 _ _ (way_shown s.polarity) (seven_bytes y.sum h.1.1.0) i ∷ one_sum 56 _ _ 3 _ _ (way_shown s.polarity)
    (seven_bytes z.sum h.1.1.1.0) i ∷ []))
    cs l below

narrow : (a : ℕ) → width_194x a ≤ 8
narrow a = grind arith

pub lawful_194x : Lawful pac194x
lawful_194x = record {
  one_to_four = (omega arith, omega arith);
  some_bits = omega arith;
  sums_fit = omega arith;
  counts_fit = omega arith;
  widths_fit = narrow;
  addresses_fit = omega arith;
  no_product = λ i l b k. let z : nat_le i 3 ≡ false = lt-leb _ _ (omega arith) in rw z refl;
  fresh_mark = refl;
  zero_offered = refl;
  meaning_offered = offered;
  offer_limits = offered_limits;
  two_commands = λ e. omega arith;
  refresh_is = (refl, omega arith);
  refresh_v_is = (refl, omega arith);
  commands_unlisted = unlisted width_194x refl refl refl;
  few_writes = λ w b. omega arith;
  byte_writes = writable;
  written_means = means;
  mark_readable = (omega arith, omega arith, omega arith, omega arith);
  mark_read = λ c. ap (λ n. nat_eq n 1) (mark_shown c.active.control);
  booking_readable = ((omega arith, omega arith, omega arith, omega arith), ((omega arith, omega arith, omega arith, omega arith), tt));
  entry_read = λ c n ok. entry_ok c.held c.active c.running c.image.running.channels c.image.running.count c.image.running.sum_flag
      c.image.running.count_flag c.image.settings n ok.four ok.count ok.sums;
  code_readable = codes_readable pac194x codes_listed;
  bus_read = λ c ch l u. by_channel (λ ch. number (reply pac194x c (pac194x.code_at ch 0) 2) ≡ (channel (ch - 1) c.image.running).latest.bus % 65536)
      (two_bytes (image_bus 0 c.image)) (two_bytes (image_bus 1 c.image)) (two_bytes (image_bus 2 c.image)) (two_bytes (image_bus 3 c.image)) ch l u;
  sense_read =
      λ c ch l u. by_channel (λ ch. number (reply pac194x c (pac194x.code_at ch 1) 2) ≡ (channel (ch - 1) c.image.running).latest.sense % 65536)
      (two_bytes (image_sense 0 c.image)) (two_bytes (image_sense 1 c.image)) (two_bytes (image_sense 2 c.image)) (two_bytes (image_sense 3 c.image)) ch l u;
  polarity_readable = (omega arith, omega arith, omega arith, omega arith);
  polarity_read = λ c. way_shown c.image.settings.polarity;
  few_replies = omega arith;
  mark_short = omega arith;
  polarity_short = omega arith;
  tariff_fits = (omega arith, omega arith);
}
