-- One cycle keeps the running registers in step with the open stretch.
use Rattle.std.proofs.Common.{◌≡◌, ℕ, zero, suc, ◌+◌, ◌%◌, ◌^◌, ◌<◌, ◌≤◌, Bool, true, false, cond, not, ◌&&◌, ◌||◌, eqb, leb, List, [], ◌∷◌, length, get_or, ℤ, pos, ◌+ℤ◌, sym, refl, ap, ◌∙◌, ⊎_elim, mod-lt, mod-eq_of_lt, arith, pow_pos}
use lib.IntN.{+ℤ_comm, +ℤ_idl}
use Rattle.std.proofs.lemmas.Bool.{both_ways, cases_Bool, cond_both, eqb-true, leb-false, lt-leb}
use Rattle.chip.proofs.Ranges.{bits_back, bits_below, zero_value}
use Rattle.chip.specs.Chip.{add_all, all_off, any_leaves, cycled, spoilt, sums_of}
use Rattle.account.specs.History.{Moment, count_over, left_range, sum_beyond, sum_over}
use Rattle.chip.specs.Laws.{EmptyFrom, Every, Sound}
use Rattle.chip.specs.Datasheet.{Datasheet}
use Rattle.chip.specs.declared.state.Channel.{Channel}
use Rattle.chip.specs.declared.state.State.{State}
use Rattle.chip.specs.declared.state.Codes.{Codes}
use Rattle.chip.specs.declared.state.Running.{Running}
use Rattle.chip.specs.declared.state.Settings.{Settings}
use Rattle.chip.specs.Registers.{bits_of, in_mask, in_range, value_of}

pub by_four : (P : ℕ → Type 0) → P 0 → P 1 → P 2 → P 3 → (i : ℕ) → i < 4 → P i
by_four P a b c d zero l = a
by_four P a b c d (suc zero) l = b
by_four P a b c d (suc (suc zero)) l = c
by_four P a b c d (suc (suc (suc zero))) l = d
by_four P a b c d (suc (suc (suc (suc i)))) l = absurd (omega arith)

-- a list of four, written out
pub four_of : {A : Type 0} (P : List A → Type 0) → ((a b c d : A) → P (a ∷ b ∷ c ∷ d ∷ [])) → (xs : List A) → length xs ≡ 4 → P xs
four_of P f [] e = absurd (omega arith)
four_of P f (a ∷ []) e = absurd (omega arith)
four_of P f (a ∷ b ∷ []) e = absurd (omega arith)
four_of P f (a ∷ b ∷ c ∷ []) e = absurd (omega arith)
four_of P f (a ∷ b ∷ c ∷ d ∷ []) e = f a b c d
four_of P f (a ∷ b ∷ c ∷ d ∷ x ∷ xs) e = absurd (omega arith)

-- the running registers against the moments of a stretch
pub record Tracks (m : Datasheet) (s : Settings) (r : Running) (ms : List Moment) : Type 0 where
  pub flag : spoilt r ≡ left_range m ms
  pub count : left_range m ms ≡ false → r.count ≡ count_over m ms
  pub sums : left_range m ms ≡ false → (i : ℕ) → i < 4 → get_or (sums_of m s 0 r.channels) i (pos 0) ≡ sum_over m i ms

module _ (m : Datasheet) (bits : 0 < m.sum_bits) where
  leaves_is : (o two_way : Bool) (v p S : ℤ) → v ≡ S → (not o && not (in_range m.sum_bits two_way (v +ℤ p)))
      ≡ (not o && not (in_range m.sum_bits two_way (cond o (pos 0) p +ℤ S)))
  leaves_is true two_way v p S e = refl
  leaves_is false two_way v p S e = ap (λ z. not (in_range m.sum_bits two_way z)) (ap (λ x. x +ℤ p) e ∙ +ℤ_comm S p)

  in_from : (b : Bool) → not b ≡ false → b ≡ true
  in_from true e = refl
  in_from false e = sym e

  sum_is : (o two_way : Bool) (c : Channel) (k : Codes) (p S : ℤ) → value_of m.sum_bits two_way c.sum ≡ S
      → (not o && not (in_range m.sum_bits two_way (cond o (pos 0) p +ℤ S))) ≡ false
      → value_of m.sum_bits two_way (cond o c (record { latest = k; product = p; sum = bits_of m.sum_bits (value_of m.sum_bits two_way c.sum +ℤ p) })).sum
      ≡ cond o (pos 0) p +ℤ S
  sum_is true two_way c k p S e r = e ∙ sym (+ℤ_idl S)
  sum_is false two_way c k p S e r = let q : value_of m.sum_bits two_way c.sum +ℤ p ≡ p +ℤ S =
      ap (λ x. x +ℤ p) e ∙ +ℤ_comm S p in ap (λ z. value_of m.sum_bits two_way (bits_of m.sum_bits z)) q ∙ bits_back m.sum_bits bits two_way (p +ℤ S) (in_from _ r)

  flags_clean : (f g a b c d w : Bool) → (f || g) ≡ false → ((f || (a || (b || (c || (d || false))))) || (g || w)) ≡ (false || w || a || b || c || d)
  flags_clean f g a b c d w h = grind arith

  flags_spoilt : (f g z w : Bool) → (f || g) ≡ true → ((f || z) || (g || w)) ≡ true
  flags_spoilt f g z w h = grind arith

  count_flag_is : (n k P : ℕ) → n ≡ k → n < P → eqb (n + 1) P ≡ leb P (1 + k)
  count_flag_is n k P e l = grind arith

  six_false : (a b c d e f : Bool) → (a || b || c || d || e || f) ≡ false → (a ≡ false) × (b ≡ false) × (c ≡ false) × (d ≡ false) × (e ≡ false) × (f ≡ false)
  six_false a b c d e f h = (grind arith, grind arith, grind arith, grind arith, grind arith, grind arith)

  module _ (s : Settings) (a b c d : Channel) (n : ℕ) (f g : Bool) (k l x y : Codes) (ms : List Moment) where
    abbrev before : Running
    before = record { channels = a ∷ b ∷ c ∷ d ∷ []; count = n; sum_flag = f; count_flag = g }

    abbrev codes : List Codes
    codes = k ∷ l ∷ x ∷ y ∷ []

    abbrev after : Running
    after = record {
      channels = add_all m s 0 codes before.channels;
      count = (n + 1) % 2 ^ m.count_bits;
      sum_flag = f || any_leaves m s 0 codes before.channels;
      count_flag = g || eqb (n + 1) (2 ^ m.count_bits);
    }

    abbrev moment : Moment
    moment = record { in_force = s; codes = codes }

    parts : left_range m (moment ∷ ms) ≡ false → (left_range m ms ≡ false) × (leb (2 ^ m.count_bits) (count_over m (moment ∷ ms)) ≡ false) × (sum_beyond m 0 moment ms ≡ false)
        × (sum_beyond m 1 moment ms ≡ false) × (sum_beyond m 2 moment ms ≡ false) × (sum_beyond m 3 moment ms ≡ false)
    parts h = six_false (left_range m ms) (leb (2 ^ m.count_bits) (count_over m (moment ∷ ms))) (sum_beyond m 0 moment ms) (sum_beyond m 1 moment ms) (sum_beyond m 2 moment ms)
        (sum_beyond m 3 moment ms) h

    spoilt_already : left_range m ms ≡ true → Tracks m s before ms → Tracks m s after (moment ∷ ms)
    spoilt_already e t = record {
      flag = rw e (flags_spoilt f g _ _ (t.flag ∙ e));
      count = λ h. absurd (both_ways _ (parts h).0 e);
      sums = λ h. absurd (both_ways _ (parts h).0 e);
    }

    counted : all_off m s ≡ false → n < 2 ^ m.count_bits → n ≡ count_over m ms → count_over m (moment ∷ ms) < 2 ^ m.count_bits
        → (n + 1) % 2 ^ m.count_bits ≡ count_over m (moment ∷ ms)
    counted off small e = rw off (λ z. let u : n + 1 < 2 ^ m.count_bits = omega arith in mod-eq_of_lt u ∙ omega arith)

    clean_yet : all_off m s ≡ false → n < 2 ^ m.count_bits → left_range m ms ≡ false → Tracks m s before ms → Tracks m s after (moment ∷ ms)
    clean_yet off small e t =
        let s0 = leaves_is (in_mask (m.off s) 0) (in_mask (m.two_way s) 0) _ (m.product 0 (in_mask (m.two_way s) 0) k) _ (t.sums e 0 (omega arith)) in
        let s1 = leaves_is (in_mask (m.off s) 1) (in_mask (m.two_way s) 1) _ (m.product 1 (in_mask (m.two_way s) 1) l) _ (t.sums e 1 (omega arith)) in
        let s2 = leaves_is (in_mask (m.off s) 2) (in_mask (m.two_way s) 2) _ (m.product 2 (in_mask (m.two_way s) 2) x) _ (t.sums e 2 (omega arith)) in
        let s3 = leaves_is (in_mask (m.off s) 3) (in_mask (m.two_way s) 3) _ (m.product 3 (in_mask (m.two_way s) 3) y) _ (t.sums e 3 (omega arith)) in
        let q = count_flag_is n _ _ (t.count e) small in
        record {
          flag = rw (s0, s1, s2, s3, q, e, off) (flags_clean f g (sum_beyond m 0 moment ms) (sum_beyond m 1 moment ms) (sum_beyond m 2 moment ms) (sum_beyond m 3 moment ms) _
              (t.flag ∙ e));
          count = λ h. let z = leb-false _ _ (parts h).1 in counted off small (t.count e) z;
          sums = λ h.
              let z = parts h in
              by_four (λ i. get_or (sums_of m s 0 after.channels) i (pos 0) ≡ sum_over m i (moment ∷ ms))
              (sum_is (in_mask (m.off s) 0) (in_mask (m.two_way s) 0) a k (m.product 0 (in_mask (m.two_way s) 0) k) _ (t.sums e 0 (omega arith)) z.2)
              (sum_is (in_mask (m.off s) 1) (in_mask (m.two_way s) 1) b l (m.product 1 (in_mask (m.two_way s) 1) l) _ (t.sums e 1 (omega arith)) z.3)
              (sum_is (in_mask (m.off s) 2) (in_mask (m.two_way s) 2) c x (m.product 2 (in_mask (m.two_way s) 2) x) _ (t.sums e 2 (omega arith)) z.4)
              (sum_is (in_mask (m.off s) 3) (in_mask (m.two_way s) 3) d y (m.product 3 (in_mask (m.two_way s) 3) y) _ (t.sums e 3 (omega arith)) z.5);
        }

  same_range : (l w a b c d : Bool) → (l ≡ false → w ≡ false) → a ≡ false → b ≡ false → c ≡ false → d ≡ false → (l || w || a || b || c || d) ≡ l
  same_range true w a b c d f ha hb hc hd = refl
  same_range false w a b c d f ha hb hc hd = let fw = f refl in grind arith

  no_count : (b : Bool) (n : ℕ) → b ≡ true → cond b 0 1 + n ≡ n
  no_count true n e = omega arith
  no_count false n e = absurd (both_ways false refl e)

  module _ (s : Settings) (ks : List Codes) (ms : List Moment) (r : Running) (off : all_off m s ≡ true) (small : r.count < 2 ^ m.count_bits) (t : Tracks m s r ms) where
    abbrev pause : Moment
    pause = record { in_force = s; codes = ks }

    all : m.off s ≡ 15
    all = eqb-true _ _ off

    not_beyond : (i : ℕ) → in_mask (m.off s) i ≡ true → sum_beyond m i pause ms ≡ false
    not_beyond i e = ap (λ b. not b && not (in_range m.sum_bits (in_mask (m.two_way s) i) (sum_over m i (pause ∷ ms)))) e

    nothing_more : (i : ℕ) → in_mask (m.off s) i ≡ true → sum_over m i (pause ∷ ms) ≡ sum_over m i ms
    nothing_more i e = rw e (+ℤ_idl _)

    count_same : count_over m (pause ∷ ms) ≡ count_over m ms
    count_same = no_count (all_off m s) (count_over m ms) off

    range_same : left_range m (pause ∷ ms) ≡ left_range m ms
    range_same =
        same_range (left_range m ms) (leb (2 ^ m.count_bits) (count_over m (pause ∷ ms))) _ _ _ _
        (λ e. lt-leb _ _ (let q = t.count e in let z = count_same in omega arith))
        (not_beyond 0 (ap (λ x. in_mask x 0) all))
        (not_beyond 1 (ap (λ x. in_mask x 1) all))
        (not_beyond 2 (ap (λ x. in_mask x 2) all))
        (not_beyond 3 (ap (λ x. in_mask x 3) all))

    paused : Tracks m s r (pause ∷ ms)
    paused = record {
      flag = t.flag ∙ sym range_same;
      count = λ h. t.count (sym range_same ∙ h) ∙ sym count_same;
      sums = λ h. by_four (λ i. get_or (sums_of m s 0 r.channels) i (pos 0) ≡ sum_over m i (pause ∷ ms))
          (t.sums (sym range_same ∙ h) 0 (omega arith) ∙ sym (nothing_more 0 (ap (λ x. in_mask x 0) all)))
          (t.sums (sym range_same ∙ h) 1 (omega arith) ∙ sym (nothing_more 1 (ap (λ x. in_mask x 1) all)))
          (t.sums (sym range_same ∙ h) 2 (omega arith) ∙ sym (nothing_more 2 (ap (λ x. in_mask x 2) all)))
          (t.sums (sym range_same ∙ h) 3 (omega arith) ∙ sym (nothing_more 3 (ap (λ x. in_mask x 3) all)));
    }

  abbrev went_on : Settings → Running → List Codes → Running
  went_on s r ks = record {
    channels = add_all m s 0 ks r.channels;
    count = (r.count + 1) % 2 ^ m.count_bits;
    sum_flag = r.sum_flag || any_leaves m s 0 ks r.channels;
    count_flag = r.count_flag || eqb (r.count + 1) (2 ^ m.count_bits);
  }

  went_on_tracks : (s : Settings) (cs : List Channel) (n : ℕ) (f g : Bool) (ks : List Codes) (ms : List Moment) → length ks ≡ 4 → length cs ≡ 4 → all_off m s ≡ false
      → n < 2 ^ m.count_bits
      → Tracks m s (record { channels = cs; count = n; sum_flag = f; count_flag = g }) ms
      → Tracks m s (went_on s (record { channels = cs; count = n; sum_flag = f; count_flag = g }) ks) (record { in_force = s; codes = ks } ∷ ms)
  went_on_tracks s cs n f g ks ms lk lc off small =
      four_of (λ cs. Tracks m s (record { channels = cs; count = n; sum_flag = f; count_flag = g }) ms
      → Tracks m s (went_on s (record { channels = cs; count = n; sum_flag = f; count_flag = g }) ks) (record { in_force = s; codes = ks } ∷ ms))
      (λ a b c d. four_of (λ ks. Tracks m s (record { channels = a ∷ b ∷ c ∷ d ∷ []; count = n; sum_flag = f; count_flag = g }) ms
      → Tracks m s (went_on s (record { channels = a ∷ b ∷ c ∷ d ∷ []; count = n; sum_flag = f; count_flag = g }) ks) (record { in_force = s; codes = ks } ∷ ms))
      (λ k l x y t. ⊎_elim (λ e. spoilt_already s a b c d n f g k l x y ms e t) (λ e. clean_yet s a b c d n f g k l x y ms off small e t) (cases_Bool (left_range m ms))) ks lk)
      cs lc

  pub cycle_tracks : (c : State) (ks : List Codes) (ms : List Moment) → length ks ≡ 4 → Sound m c.running → Tracks m c.active c.running ms
      → Tracks m c.active (cycled m ks c).running (record { in_force = c.active; codes = ks } ∷ ms)
  cycle_tracks c ks ms lk ok t =
      cond_both (all_off m c.active) c _ (λ x. Tracks m c.active x.running (record { in_force = c.active; codes = ks } ∷ ms))
      (λ e. paused c.active ks ms c.running e ok.count t)
      (λ e. went_on_tracks c.active c.running.channels c.running.count c.running.sum_flag c.running.count_flag ks ms lk ok.four e ok.count t)

  add_all_length : (s : Settings) (i : ℕ) (ks : List Codes) (cs : List Channel) → length (add_all m s i ks cs) ≡ length cs
  add_all_length s i [] cs = refl
  add_all_length s i (k ∷ ks) [] = refl
  add_all_length s i (k ∷ ks) (c ∷ cs) = ap suc (add_all_length s (i + 1) ks cs)

  adds_below : (o : Bool) (c c' : Channel) → c.sum < 2 ^ m.sum_bits → c'.sum < 2 ^ m.sum_bits → (cond o c c').sum < 2 ^ m.sum_bits
  adds_below true c c' p q = p
  adds_below false c c' p q = q

  add_all_below : (s : Settings) (i : ℕ) (ks : List Codes) (cs : List Channel) → Every (λ c. c.sum < 2 ^ m.sum_bits) cs
      → Every (λ c. c.sum < 2 ^ m.sum_bits) (add_all m s i ks cs)
  add_all_below s i [] cs p = p
  add_all_below s i (k ∷ ks) [] p = tt
  add_all_below s i (k ∷ ks) (c ∷ cs) p = (adds_below (in_mask (m.off s) i) c _ p.0 (bits_below _ _), add_all_below s (i + 1) ks cs p.1)

  -- a channel that the make has not stays at 0
  zero_stays : (w : ℕ) (b : Bool) (n : ℕ) (z : ℤ) → n ≡ 0 → z ≡ pos 0 → bits_of w (value_of w b n +ℤ z) ≡ 0
  zero_stays w b n z e f = let p : 0 < 2 ^ w = pow_pos w in let v : value_of w b n ≡ pos 0 = rw e (zero_value w b) in rw (v, f) (mod-eq_of_lt p)

  still_empty : (o : Bool) (c c' : Channel) → c.sum ≡ 0 → c'.sum ≡ 0 → (cond o c c').sum ≡ 0
  still_empty true c c' p q = p
  still_empty false c c' p q = q

  add_all_empty : (law : (i : ℕ) → m.channels ≤ i → (b : Bool) (k : Codes) → m.product i b k ≡ pos 0) (s : Settings) (i : ℕ) (ks : List Codes) (cs : List Channel)
      → EmptyFrom m.channels i cs → EmptyFrom m.channels i (add_all m s i ks cs)
  add_all_empty law s i [] cs p = p
  add_all_empty law s i (k ∷ ks) [] p = tt
  add_all_empty law s i (k ∷ ks) (c ∷ cs) p = (
    λ l. still_empty (in_mask (m.off s) i) c _ (p.0 l) (zero_stays m.sum_bits (in_mask (m.two_way s) i) c.sum _ (p.0 l) (law i l _ k)),
    add_all_empty law s (i + 1) ks cs p.1,
  )

  pub cycle_sound : (law : (i : ℕ) → m.channels ≤ i → (b : Bool) (k : Codes) → m.product i b k ≡ pos 0) (c : State) (ks : List Codes) → Sound m c.running
      → Sound m (cycled m ks c).running
  cycle_sound law c ks ok =
      cond_both (all_off m c.active) c _ (λ x. Sound m x.running) (λ e. ok)
      (λ e. record {
        four = add_all_length c.active 0 ks c.running.channels ∙ ok.four;
        count = mod-lt _ (pow_pos m.count_bits);
        sums =
            add_all_below c.active 0 ks c.running.channels ok.sums;
        rest = add_all_empty law c.active 0 ks c.running.channels ok.rest;
      })

pub cycled_keeps : (m : Datasheet) (c : State) (ks : List Codes) → ((cycled m ks c).active ≡ c.active) × ((cycled m ks c).held.settings ≡ c.held.settings) × ((cycled m ks c).image ≡ c.image)
cycled_keeps m c ks = cond_both (all_off m c.active) c _ (λ x. (x.active ≡ c.active) × (x.held.settings ≡ c.held.settings) × (x.image ≡ c.image)) (λ e. (refl, refl, refl))
    (λ e. (refl, refl, refl))
