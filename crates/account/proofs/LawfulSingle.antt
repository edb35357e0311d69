-- The make of one channel keeps the laws.
use Rattle.std.proofs.Common.{◌≡◌, ℕ, zero, suc, ◌+◌, ◌-◌, ◌*◌, ◌/◌, ◌%◌, ◌^◌, ◌<◌, ◌≤◌, Bool, true, false, ◌&&◌, ◌||◌, eqb, leb, ◌⊎◌, List, [], ◌∷◌, length, pos, sym, refl, ap, ◌∙◌, inl, inr, ⊎_elim, arith}
use Rattle.std.proofs.lemmas.Bool.{and_parts, cases_Bool, eqb-true, le-leb, leb-true, ne_eqb}
use Rattle.makes.specs.Layouts.{and_three, bit_at_most, bit_told, chip_with, four_bytes, one_sum, same_entry, same_wanted, seven_bytes, two_bytes}
use Rattle.chip.proofs.Ranges.{zero_value}
use Rattle.account.proofs.Tracking.{four_of}
use Rattle.chip.specs.Chip.{channel, entry_of, reply}
use Rattle.chip.specs.Laws.{EmptyFrom, Every, Lawful, Means, Readable, Writable, replies, written}
use Rattle.chip.specs.Datasheet.{Wanted, meaning}
use Rattle.chip.specs.declared.entry.Entry.{Entry}
use Rattle.chip.specs.declared.state.Channel.{Channel}
use Rattle.chip.specs.declared.state.State.{State}
use Rattle.chip.specs.declared.state.Held.{Held}
use Rattle.chip.specs.declared.state.Running.{Running}
use Rattle.chip.specs.declared.state.Settings.{Settings}
use Rattle.chip.specs.Registers.{big_endian, in_mask, number, value_of}
use Rattle.account.specs.Single.{rate_single, single, single_offer, two_way_single, width_single}
use Rattle.makes.specs.Table.{bit, image_bus, image_sense}

abbrev shown_back : ℕ → ℕ
shown_back n = number (big_endian 2 n)

mark_shown : (n : ℕ) → (shown_back n / 1024) % 2 ≡ (n / 1024) % 2
mark_shown n = through (shown_back n) n (two_bytes n)
  where
    through : (x n : ℕ) → x ≡ n % 65536 → (x / 1024) % 2 ≡ (n / 1024) % 2
    through x n e = omega arith

rate_shown : (n : ℕ) → rate_single (shown_back n) ≡ rate_single n
rate_shown n = through (shown_back n) n (two_bytes n)
  where
    through : (x n : ℕ) → x ≡ n % 65536 → (x / 4096 + 2) % 4 ≡ (n / 4096 + 2) % 4
    through x n e = omega arith

way_shown : (n : ℕ) → two_way_single (number (big_endian 1 n)) ≡ two_way_single n
way_shown n = ap (λ x. bit (eqb x 1) * 8) (low n)
  where
    low : (n : ℕ) → (((n / 1) % 256 * 1 + 0) / 4) % 4 ≡ (n / 4) % 4
    low n = omega arith

flags_shown : (f g : Bool) → bit (leb 1 ((number (big_endian 2 (bit f * 8 + bit g * 4)) / 4) % 4)) ≡ bit (f || g)
flags_shown true true = refl
flags_shown true false = refl
flags_shown false true = refl
flags_shown false false = refl

abbrev control : Wanted → Bool → ℕ
control w b = (2 + w.rate) * 4096 + bit b * 1024

-- what a single offers
offers : (w : Wanted) → single_offer w ≡ true → (w.rate ≤ 3) × (w.off ≡ 0) × ((w.two_way ≡ 0) ⊎ (w.two_way ≡ 8))
offers w y =
    let p = and_parts (leb w.rate 3 && eqb w.off 0) (eqb w.two_way 0 || eqb w.two_way 8) y in
    let q = and_parts (leb w.rate 3) (eqb w.off 0) p.0 in
    (leb-true _ _ q.0, eqb-true _ _ q.1, either p.1)
  where
    either : (eqb w.two_way 0 || eqb w.two_way 8) ≡ true → (w.two_way ≡ 0) ⊎ (w.two_way ≡ 8)
    either e = ⊎_elim (λ (z : eqb w.two_way 0 ≡ true). inl (eqb-true _ _ z)) (λ (z : eqb w.two_way 0 ≡ false). inr (eqb-true _ _ (rw z at e)))
        (cases_Bool (eqb w.two_way 0))

offer_limits : (w : Wanted) → single_offer w ≡ true → (w.rate ≤ 3) × (w.off ≤ 15) × (w.two_way ≤ 15)
offer_limits w y = let o = offers w y in let p = o.1 in (o.0, omega arith, ⊎_elim (λ (e : w.two_way ≡ 0). omega arith) (λ (e : w.two_way ≡ 8). omega arith) o.2)

way_back : (n : ℕ) → (n ≡ 0) ⊎ (n ≡ 8) → two_way_single (n / 2 * 1 + 0) ≡ n
way_back n (inl e) = rw e refl
way_back n (inr e) = rw e refl

half_small : (n : ℕ) → (n ≡ 0) ⊎ (n ≡ 8) → n / 2 < 256
half_small n (inl e) = omega arith
half_small n (inr e) = omega arith

means : (w : Wanted) → single.offers w ≡ true → (b : Bool) (s : Held) → Means single w b (written single (single.settings_writes w b) s)
means w ok b s = let o = offers w ok in let l = o.0 in let p = bit_at_most b in
    (bit_told b _ (mark_shown (control w b) ∙ omega arith), same_wanted _ w (rate_shown (control w b) ∙ omega arith) (sym o.1) (way_back w.two_way o.2))

byte : (n : ℕ) → n % 256 < 256
byte n = omega arith

writable : (w : Wanted) → single.offers w ≡ true → (b : Bool) → Every Writable (single.settings_writes w b)
writable w ok b = ((omega arith, (byte _, (byte _, tt))), ((omega arith, (half_small w.two_way (offers w ok).2, tt)), tt))

bit_offer : (b : Bool) → (eqb (bit b * 8) 0 || eqb (bit b * 8) 8) ≡ true
bit_offer true = refl
bit_offer false = refl

offered : (s : Settings) → single.offers (meaning single s) ≡ true
offered s = and_three _ _ _ (le-leb (rate_single s.control) 3 (omega arith)) refl (bit_offer (eqb ((s.polarity / 4) % 4) 1))

code_listed : (ch q : ℕ) → q ≤ 1 → Readable single (single.code_at ch q, 2)
code_listed ch zero v = (omega arith, omega arith, omega arith, omega arith)
code_listed ch (suc zero) v = (omega arith, omega arith, omega arith, omega arith)
code_listed ch (suc (suc q)) v = absurd (omega arith)

three_commands : (a : ℕ) → (eqb a 0x00 || eqb a 0x14 || eqb a 0x15) ≡ true → width_single a ≡ 0
three_commands a e = ⊎_elim (λ (y : eqb a 0x00 ≡ true). let z = eqb-true a 0x00 y in rw z refl) (λ (y : eqb a 0x00 ≡ false). ⊎_elim (λ (y₂ : eqb a 0x14 ≡ true). let z =
    eqb-true a 0x14 y₂ in rw z refl) (λ (y₂ : eqb a 0x14 ≡ false). let y₃ : eqb a 0x15 ≡ true = rw (y, y₂) at e in let z =
    eqb-true a 0x15 y₃ in rw z refl) (cases_Bool (eqb a 0x14))) (cases_Bool (eqb a 0x00))

abbrev entry_read : State → ℕ → Entry
entry_read c n = single.entry_in (replies single c single.booking_reads) n

no_sum : (b : Bool) (n : ℕ) → n ≡ 0 → pos 0 ≡ value_of 56 b n
no_sum b n e = rw e (sym (zero_value 56 b))

entry_ok : (p : Held) (a : Settings) (r : Running) (cs : List Channel) (k : ℕ) (f g : Bool) (s : Settings) (n : ℕ) → length cs ≡ 4 → k < 2 ^ 32
    → Every (λ c. c.sum < 2 ^ 56) cs → EmptyFrom 1 0 cs → entry_read (chip_with p a r cs k f g s) n ≡ entry_of single (chip_with p a r cs k f g s).image n
entry_ok p a r cs k f g s n l small below empty =
    four_of (λ cs. Every (λ c. c.sum < 2 ^ 56) cs → EmptyFrom 1 0 cs → entry_read (chip_with p a r cs k f g s) n ≡ entry_of single (chip_with p a r cs k f g s).image n)
    (λ w x y z h v. same_entry (entry_read (chip_with p a r (w ∷ x ∷ y ∷ z ∷ []) k f g s) n) (entry_of single (chip_with p a r (w ∷ x ∷ y ∷ z ∷ []) k f g s).image n)
    refl
    (flags_shown f g)
    (four_bytes k small)
    (rate_shown s.control)
    refl
    (way_shown s.polarity)
    (λ i. one_sum 56 _ _ 0 _ _ (way_shown s.polarity) (seven_bytes w.sum h.0) i ∷ no_sum (in_mask (two_way_single s.polarity) 1) x.sum (v.1.0 (omega arith)) i
    ∷ no_sum (in_mask (two_way_single s.polarity) 2) y.sum (v.1.1.0 (omega arith)) i ∷ no_sum (in_mask (two_way_single s.polarity) 3) z.sum
    (v.1.1.1.0 (omega arith)) i ∷ []))
    cs l below empty

only_one : (P : ℕ → Type 0) → P 1 → (n : ℕ) → 1 ≤ n → n ≤ 1 → P n
only_one P p zero l u = absurd (omega arith)
only_one P p (suc zero) l u = p
only_one P p (suc (suc n)) l u = absurd (omega arith)

narrow : (a : ℕ) → width_single a ≤ 8
narrow a = grind arith

pub lawful_single : Lawful single
lawful_single = record {
  one_to_four = (omega arith, omega arith);
  some_bits = omega arith;
  sums_fit = omega arith;
  counts_fit = omega arith;
  widths_fit = narrow;
  addresses_fit = omega arith;
  no_product = λ i l b k. let z : eqb i 0 ≡ false = ne_eqb i 0 (λ e. omega arith) in rw z refl;
  fresh_mark = refl;
  zero_offered = refl;
  meaning_offered = offered;
  offer_limits = offer_limits;
  two_commands = λ e. omega arith;
  refresh_is = (refl, omega arith);
  refresh_v_is = (refl, omega arith);
  commands_unlisted = three_commands;
  few_writes = λ w b. omega arith;
  byte_writes = writable;
  written_means = means;
  mark_readable = (omega arith, omega arith, omega arith, omega arith);
  mark_read = λ c. ap (λ n. eqb n 1) (mark_shown c.active.control);
  booking_readable = (
    (omega arith, omega arith, omega arith, omega arith),
    (
      (omega arith, omega arith, omega arith, omega arith),
      ((omega arith, omega arith, omega arith, omega arith), ((omega arith, omega arith, omega arith, omega arith), ((omega arith, omega arith, omega arith, omega arith), tt))),
    ),
  );
  entry_read = λ c n ok. entry_ok c.held c.active c.running c.image.running.channels c.image.running.count c.image.running.sum_flag
      c.image.running.count_flag c.image.settings n ok.four ok.count ok.sums ok.rest;
  code_readable = λ ch q l u v. code_listed ch q v;
  bus_read = λ c ch l u. only_one (λ ch. number (reply single c (single.code_at ch 0) 2) ≡ (channel (ch - 1) c.image.running).latest.bus % 65536)
      (two_bytes (image_bus 0 c.image)) ch l u;
  sense_read = λ c ch l u. only_one (λ ch. number (reply single c (single.code_at ch 1) 2) ≡ (channel (ch - 1) c.image.running).latest.sense % 65536)
      (two_bytes (image_sense 0 c.image)) ch l u;
  polarity_readable = (omega arith, omega arith, omega arith, omega arith);
  polarity_read = λ c. way_shown c.image.settings.polarity;
  few_replies = omega arith;
  mark_short = omega arith;
  polarity_short = omega arith;
  tariff_fits = (omega arith, omega arith);
}
