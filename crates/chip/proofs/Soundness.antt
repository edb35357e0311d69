-- Registers hold what fits them, whatever a chip is asked.
use Rattle.std.proofs.Common.{◌≡◌, ℕ, suc, ◌+◌, ◌^◌, ◌<◌, ◌≤◌, Bool, true, false, cond, eqb, ltb, List, [], ◌∷◌, map, length, ℤ, pos, ◌+ℤ◌, Some, None, Option, refl, ap, ◌∙◌, subst, mod-lt, mod-eq_of_lt, pow_pos}
use Rattle.std.proofs.lemmas.Bool.{cond_both}
use Rattle.std.proofs.lemmas.List.{length-map}
use Rattle.chip.specs.declared.state.Channel.{Channel}
use Rattle.chip.specs.declared.state.Codes.{Codes}
use Rattle.chip.specs.declared.state.Held.{Held}
use Rattle.chip.specs.declared.state.Running.{Running}
use Rattle.chip.specs.declared.state.Settings.{Settings}
use Rattle.chip.specs.declared.state.State.{State}
use Rattle.chip.specs.Chip.{Request, Reaction, add_all, all_off, bad_length, cleared, cycled, does, good_length, idle, no_acknowledge, reacts, read}
use Rattle.chip.specs.Chip.{send, takes, write, zeroed}
use Rattle.chip.specs.Datasheet.{Datasheet}
use Rattle.chip.specs.Laws.{EmptyFrom, Every, Lawful, Sound, SoundChip, StaysSound}
use Rattle.chip.specs.Registers.{bits_of, in_mask, number, value_of}
use Rattle.chip.proofs.Ranges.{bits_below, zero_value}

module _ (m : Datasheet) where
  add_all_length : (s : Settings) (i : ℕ) (ks : List Codes) (cs : List Channel) → length (add_all m s i ks cs) ≡ length cs
  add_all_length s i [] cs = refl
  add_all_length s i (k ∷ ks) [] = refl
  add_all_length s i (k ∷ ks) (c ∷ cs) = ap suc (add_all_length s (i + 1) ks cs)

  add_all_below : (s : Settings) (i : ℕ) (ks : List Codes) (cs : List Channel) → Every (λ c. c.sum < 2 ^ m.sum_bits) cs
      → Every (λ c. c.sum < 2 ^ m.sum_bits) (add_all m s i ks cs)
  add_all_below s i [] cs p = p
  add_all_below s i (k ∷ ks) [] p = tt
  add_all_below s i (k ∷ ks) (c ∷ cs) p = (
    cond_both (in_mask (m.off s) i) c _ (λ x. x.sum < 2 ^ m.sum_bits) (λ _. p.0) (λ _. bits_below _ _),
    add_all_below s (i + 1) ks cs p.1,
  )

  -- a channel that the make has not stays at 0
  zero_stays : (w : ℕ) (b : Bool) (n : ℕ) (z : ℤ) → n ≡ 0 → z ≡ pos 0 → bits_of w (value_of w b n +ℤ z) ≡ 0
  zero_stays w b n z e f = let p : 0 < 2 ^ w = pow_pos w in let v : value_of w b n ≡ pos 0 = rw e (zero_value w b) in rw (v, f) (mod-eq_of_lt p)

  add_all_empty : (law : (i : ℕ) → m.channels ≤ i → (b : Bool) (k : Codes) → m.product i b k ≡ pos 0) (s : Settings) (i : ℕ) (ks : List Codes) (cs : List Channel)
      → EmptyFrom m.channels i cs → EmptyFrom m.channels i (add_all m s i ks cs)
  add_all_empty law s i [] cs p = p
  add_all_empty law s i (k ∷ ks) [] p = tt
  add_all_empty law s i (k ∷ ks) (c ∷ cs) p = (
    λ l. cond_both (in_mask (m.off s) i) c _ (λ x. x.sum ≡ 0) (λ _. p.0 l) (λ _. zero_stays m.sum_bits (in_mask (m.two_way s) i) c.sum _ (p.0 l) (law i l _ k)),
    add_all_empty law s (i + 1) ks cs p.1,
  )

  pub cycle_sound : (law : (i : ℕ) → m.channels ≤ i → (b : Bool) (k : Codes) → m.product i b k ≡ pos 0) (c : State) (ks : List Codes) → Sound m c.running
      → Sound m (cycled m ks c).running
  cycle_sound law c ks ok =
      cond_both (all_off m c.active) c _ (λ x. Sound m x.running) (λ e. ok)
      (λ e. record {
        four = add_all_length c.active 0 ks c.running.channels ∙ ok.four;
        count = mod-lt _ (pow_pos m.count_bits);
        sums =
            add_all_below c.active 0 ks c.running.channels ok.sums;
        rest = add_all_empty law c.active 0 ks c.running.channels ok.rest;
      })

-- after a REFRESH the registers start anew
zero_below : (m : Datasheet) (cs : List Channel) → Every (λ c. c.sum < 2 ^ m.sum_bits) (map cleared cs)
zero_below m [] = tt
zero_below m (c ∷ cs) = (pow_pos m.sum_bits, zero_below m cs)

zero_empty : (n i : ℕ) (cs : List Channel) → EmptyFrom n i (map cleared cs)
zero_empty n i [] = tt
zero_empty n i (c ∷ cs) = (λ l. refl, zero_empty n (i + 1) cs)

pub zeroed_sound : (m : Datasheet) (r : Running) → Sound m r → Sound m (zeroed r)
zeroed_sound m r ok = record {
  four = length-map r.channels cleared ∙ ok.four;
  count = pow_pos m.count_bits;
  sums = zero_below m r.channels;
  rest =
      zero_empty m.channels 0 r.channels;
}

idle_sound : (m : Datasheet) → Sound m idle
idle_sound m = record {
  four = refl;
  count = pow_pos m.count_bits;
  sums = (pow_pos m.sum_bits, (pow_pos m.sum_bits, (pow_pos m.sum_bits, (pow_pos m.sum_bits, tt))));
  rest = (λ l. refl, (λ l. refl, (λ l. refl, (λ l. refl, tt))));
}

-- what holds of a reaction's chip, if there is one
abbrev Then : (State → Type 0) → Reaction → Type 0
Then P bad_length = Unit {0}
Then P no_acknowledge = Unit {0}
Then P (does c bs) = P c

then_cond : (P : State → Type 0) (b : Bool) (r s : Reaction) → Then P r → Then P s → Then P (cond b r s)
then_cond P true r s p q = p
then_cond P false r s p q = q

module _ (m : Datasheet) (c : State) (ok : SoundChip m c) where
  taken : (a : ℕ) (bs : List ℕ) (o : Option Held) → Then (SoundChip m) (takes m c a bs o)
  taken a bs None = tt
  taken a bs (Some s) = then_cond (SoundChip m) (eqb (length bs) (m.width a)) _ _ (record { running = ok.running; image = ok.image }) tt

  reacted : (q : Request) → Then (SoundChip m) (reacts m c q)
  reacted (read a n) = then_cond (SoundChip m) (good_length n) _ _ (then_cond (SoundChip m) (m.command a) _ _ tt (then_cond (SoundChip m) (ltb 0 (m.width a)) _ _ ok tt)) tt
  reacted (write a bs) = taken a bs (m.keeps a (number bs) c.held)
  reacted (send a) =
      then_cond (SoundChip m) (eqb a m.refresh) _ _ (record { running = zeroed_sound m c.running ok.running; image = ok.running })
      (then_cond (SoundChip m) (eqb a m.refresh_v) _ _ (record { running = ok.running; image = ok.running }) tt)

pub stays_sound : (m : Datasheet) → Lawful m → StaysSound m
stays_sound m law = record {
  fresh = record { running = idle_sound m; image = idle_sound m };
  cycle = λ c ks ok. record { running = cycle_sound m law.no_product c ks ok.running; image = image_stays c ks ok.image };
  request = λ c q c' bs ok e. subst (Then (SoundChip m)) e (reacted m c ok q);
}
  where
    image_stays : (c : State) (ks : List Codes) → Sound m c.image.running → Sound m (cycled m ks c).image.running
    image_stays c ks ok = cond_both (all_off m c.active) c _ (λ x. Sound m x.image.running) (λ e. ok) (λ e. ok)
