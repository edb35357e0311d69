-- A book whose entries hold has a bill.
use Rattle.std.proofs.Common.{◌≡◌, ℕ, zero, suc, ◌+◌, ◌-◌, ◌*◌, ◌/◌, ◌^◌, ◌<◌, ◌≤◌, Bool, true, false, cond, ◌&&◌, T, eqb, leb, List, [], ◌∷◌, ◌++◌, length, get_or, ℤ, pos, negsuc, ◌+ℤ◌, ◌*ℤ◌, ◌≤ℤ◌, ◌<ℤ◌, Some, None, Option, sym, refl, ap, ◌∙◌, subst, ap₂, ⊎_elim, mod-lt, mul-le-mul_left, div-add-mod', arith, pow_pos}
use lib.IntN.{+ℤ_comm, +ℤ_idl}
use Rattle.std.proofs.lemmas.List.{append-nil}
use Rattle.std.proofs.lemmas.Int.{ints}
use Rattle.std.proofs.lemmas.Bool.{and_parts, both_ways, cases_Bool, leb-true}
use Rattle.std.specs.Int.{int_div_euclid}
use Rattle.account.proofs.Keeping.{Kept, front}
use Rattle.book.specs.Bill.{bill, bill_limits, bill_of, energy, first_bad, holds, sound_entries, spoilt_entries, weighed, weight}
use Rattle.account.specs.History.{Closed, Fate, History, Stretch, got_entry, left_range, waits, was_lost, was_written_off, with_fate}
use Rattle.chip.specs.Laws.{Every, Lawful}
use Rattle.chip.specs.Datasheet.{Datasheet, Wanted}
use Rattle.chip.specs.declared.entry.Entry.{Entry}
use Rattle.chip.specs.declared.state.State.{State}
use Rattle.chip.specs.declared.state.Image.{Image}
use Rattle.chip.specs.Registers.{in_mask}
use Rattle.account.specs.Statements.{Billable, Fated, IsFloor, Matches, given, sound_stretches, spoilt_stretches, stretch_worth, worth}

div_below : (x : ℤ) (n : ℕ) → 0 < n → (int_div_euclid x (pos n) *ℤ pos n) ≤ℤ x
div_below (pos a) n h = let e = div-add-mod' a n in let p = mod-lt a h in omega (arith, ints)
div_below (negsuc a) n h = let e = div-add-mod' a n in let p = mod-lt a h in omega (arith, ints)

-- the quotient of a negative, one up
one_up : (q n a : ℕ) → q * n ≤ a → negsuc a <ℤ ((negsuc q +ℤ pos 1) *ℤ pos n)
one_up zero n a h = omega (arith, ints)
one_up (suc r) n a h = let e : negsuc (suc r) +ℤ pos 1 ≡ negsuc r = omega (arith, ints) in rw e (omega (arith, ints))

div_above : (x : ℤ) (n : ℕ) → 0 < n → x <ℤ ((int_div_euclid x (pos n) +ℤ pos 1) *ℤ pos n)
div_above (pos a) n h = let e = div-add-mod' a n in let p = mod-lt a h in omega (arith, ints)
div_above (negsuc a) n h = let e = div-add-mod' a n in one_up (a / n) n a (omega arith)

none_bad : (m : Datasheet) (n : ℕ) (es : List Entry) → Every (λ e. holds m e ≡ true) es → first_bad m n es ≡ None
none_bad m n [] k = refl
none_bad m n (e ∷ es) k = rw k.0 (none_bad m (n + 1) es k.1)

-- what an entry adds
abbrev entry_worth : ℕ → Entry → ℤ
entry_worth i e = cond (eqb e.spoilt 0) (get_or e.sums i (pos 0) *ℤ pos (weight e.rate (in_mask e.two_way i))) (pos 0)

weighed_push : (i : ℕ) (es : List Entry) (e : Entry) → weighed i (es ++ e ∷ []) ≡ weighed i es +ℤ entry_worth i e
weighed_push i [] e = +ℤ_comm (entry_worth i e) (pos 0)
weighed_push i (x ∷ es) e = let h = weighed_push i es e in shift _ _ _ _ h
  where
    shift : (a b c d : ℤ) → b ≡ c +ℤ d → a +ℤ b ≡ (a +ℤ c) +ℤ d
    shift a b c d e = omega (arith, ints)

sound_push : (es : List Entry) (e : Entry) → sound_entries (es ++ e ∷ []) ≡ sound_entries es + cond (eqb e.spoilt 0) 1 0
sound_push [] e = omega arith
sound_push (x ∷ es) e = let h = sound_push es e in omega arith

spoilt_push : (es : List Entry) (e : Entry) → spoilt_entries (es ++ e ∷ []) ≡ spoilt_entries es + cond (eqb e.spoilt 0) 0 1
spoilt_push [] e = omega arith
spoilt_push (x ∷ es) e = let h = spoilt_push es e in omega arith

module _ (m : Datasheet) where
  holds_so : (b : Bool) → T b → b ≡ true
  holds_so true t = refl
  holds_so false t = absurd t

  is_so : (b : Bool) → b ≡ true → T b
  is_so true e = tt
  is_so false e = absurd (both_ways false refl e)

  -- the mark says what the stretch was
  mark_of : (s : Stretch) (e : Entry) → Matches m s e → (b : Bool) → left_range m s.moments ≡ b → e.spoilt ≡ cond b 1 0
  mark_of s e k true is = k.marked.1 (is_so _ is)
  mark_of s e k false is = let r = k.mark_range in let n : e.spoilt ≡ 1 → ⊥ = λ h. both_ways _ is (holds_so _ (k.marked.0 h)) in omega arith

  one_worth : (i : ℕ) → i < 4 → (s : Stretch) (e : Entry) → Matches m s e → entry_worth i e ≡ stretch_worth m i s
  one_worth i l s e k = ⊎_elim
      (λ is. let mk = mark_of s e k true is in rw (mk, is) refl)
      (λ is. let mk = mark_of s e k false is in rw (mk, is) (ap₂ (λ x y. x *ℤ pos y) (k.sums mk i l) (ap₂ (λ a b. weight a (in_mask b i)) k.rate k.two_way)))
      (cases_Bool (left_range m s.moments))

  one_sound : (s : Stretch) (e : Entry) → Matches m s e → ◌≡◌ {A = ℕ} (cond (eqb e.spoilt 0) 1 0) (cond (left_range m s.moments) 0 1)
  one_sound s e k = ⊎_elim (λ is. let mk = mark_of s e k true is in rw (mk, is) refl) (λ is. let mk =
      mark_of s e k false is in rw (mk, is) refl) (cases_Bool (left_range m s.moments))

  one_spoilt : (s : Stretch) (e : Entry) → Matches m s e → ◌≡◌ {A = ℕ} (cond (eqb e.spoilt 0) 0 1) (cond (left_range m s.moments) 1 0)
  one_spoilt s e k = ⊎_elim (λ is. let mk = mark_of s e k true is in rw (mk, is) refl) (λ is. let mk =
      mark_of s e k false is in rw (mk, is) refl) (cases_Bool (left_range m s.moments))

  -- the entries given are worth what their stretches are
  pub record Worth (xs : List Closed) : Type 0 where
    pub energy : (i : ℕ) → i < 4 → weighed i (given m xs) ≡ worth m i xs
    pub sound : sound_entries (given m xs) ≡ sound_stretches m xs
    pub spoilt : spoilt_entries (given m xs) ≡ spoilt_stretches m xs

  pub given_worth : (xs : List Closed) → Every (Fated m) xs → Worth xs
  given_worth [] f = record { energy = λ i l. refl; sound = refl; spoilt = refl }
  given_worth (x ∷ xs) f = on x.fate f.0 (given_worth xs f.1)
    where
      on : (g : Fate) → Fated m (with_fate x g) → Worth xs → Worth (with_fate x g ∷ xs)
      on waits k h = absurd k
      on (got_entry e) k h = record {
        energy = λ i l. weighed_push i (given m xs) e ∙ ap₂ (λ a b. a +ℤ b) (h.energy i l) (one_worth i l x.stretch e k)
            ∙ +ℤ_comm (worth m i xs) (stretch_worth m i x.stretch);
        sound = sound_push (given m xs) e ∙ (let p = h.sound in let q = one_sound x.stretch e k in omega arith);
        spoilt = spoilt_push (given m xs) e ∙ (let p = h.spoilt in let q = one_spoilt x.stretch e k in omega arith);
      }
      on was_written_off k h = record {
        energy = λ i l. rw append-nil (h.energy i l ∙ sym (+ℤ_idl (worth m i xs)));
        sound = rw append-nil (let p = h.sound in omega arith);
        spoilt = rw append-nil (let p = h.spoilt in omega arith);
      }
      on was_lost k h = absurd k

  front_worth : (u : Option Stretch) (g : Image) (xs : List Closed) → Every (Fated m) xs → Worth (front u g xs)
  front_worth None g xs f = given_worth xs f
  front_worth (Some s) g xs f = let h = given_worth xs f in record {
    energy = λ i l. rw append-nil (h.energy i l ∙ sym (+ℤ_idl (worth m i xs)));
    sound = rw append-nil (let p = h.sound in omega arith);
    spoilt = rw append-nil (let p = h.spoilt in omega arith);
  }

  channel_small : (places filled ch u : ℕ) → m.channels ≤ 4 → bill_limits m places filled ch u ≡ true → (ch - 1 < 4) × (1 ≤ u)
  channel_small places filled ch u four e =
      let a = (and_parts (leb 1 places && leb places 4096 && leb filled places && leb 1 ch && leb ch m.channels && leb 1 u) (leb u 1000) e).0 in
      let b = and_parts (leb 1 places && leb places 4096 && leb filled places && leb 1 ch && leb ch m.channels) (leb 1 u) a in
      let c = and_parts (leb 1 places && leb places 4096 && leb filled places && leb 1 ch) (leb ch m.channels) b.0 in
      let d = and_parts (leb 1 places && leb places 4096 && leb filled places) (leb 1 ch) c.0 in
      let p = leb-true _ _ c.1 in let q = leb-true _ _ d.1 in
      (omega arith, leb-true _ _ b.1)

  module _ (four : m.channels ≤ 4) (places : ℕ) (es : List Entry) (xs : List Closed) (is : es ≡ given m xs) (w : Worth xs) (held : Every (λ e. holds m e ≡ true) es) where
    within : (ch u : ℕ) → bill_limits m places (length es) ch u ≡ true → (z : ℤ) × (bill m places es ch u ≡ bill_of z (sound_stretches m xs) (spoilt_stretches m xs))
        × IsFloor m z (worth m (ch - 1) xs) u
    within ch u e =
        let p = pow_pos m.tariff.power in
        let k = channel_small places (length es) ch u four e in
        let d : 0 < u * 2 ^ m.tariff.power = let k1 = k.1 in omega (arith, mul-le-mul_left u p) in
        let x = pos m.tariff.factor *ℤ weighed (ch - 1) es in
        let same : weighed (ch - 1) es ≡ worth m (ch - 1) xs = ap (weighed (ch - 1)) is ∙ w.energy (ch - 1) k.0 in (
          energy m ch u es,
          rw (e, none_bad m 0 es held) (ap₂ (λ a b. bill_of (energy m ch u es) a b) (ap sound_entries is ∙ w.sound) (ap spoilt_entries is ∙ w.spoilt)),
          (
            subst (λ S. (energy m ch u es *ℤ pos (u * 2 ^ m.tariff.power)) ≤ℤ (pos m.tariff.factor *ℤ S)) same (div_below x _ d),
            subst (λ S. (pos m.tariff.factor *ℤ S) <ℤ ((energy m ch u es +ℤ pos 1) *ℤ pos (u * 2 ^ m.tariff.power))) same (div_above x _ d),
          ),
        )

  pub billable : Lawful m → {places before last offs : ℕ} {w : Wanted} {c : State} {es : List Entry} {h : History} (u : Option Stretch) → Kept m places before last offs w u c es h
      → Billable m places es h
  billable law {places} {c = c} {es} {h} u k ch sh = (
    (λ e. rw e refl),
    (λ e. rw k.account_is (within law.one_to_four.1 places es (front u c.image k.xs) (k.booked.book ∙ sym (given_so u))
        (front_worth u c.image k.xs k.booked.fated) k.booked.held ch sh e)),
  )
    where
      given_so : (u : Option Stretch) → given m (front u c.image k.xs) ≡ given m k.xs
      given_so None = refl
      given_so (Some s) = append-nil (given m k.xs)
