-- The parts of a look.
use Rattle.std.proofs.Common.{◌≡◌, ℕ, ◌-◌, ◌%◌, ◌≤◌, true, cond, ◌&&◌, eqb, leb, List, [], Ok, Err, Result, sym, refl, ap, subst, arith}
use Rattle.std.proofs.lemmas.Bool.{and_parts, eq-eqb, leb-true, ne_eqb}
use Rattle.account.proofs.Reading.{readable_sized}
use Rattle.account.proofs.Wires.{answered_on, ends_followed}
use Rattle.account.specs.Calls.{Followed}
use Rattle.account.specs.Dialogue.{Answer, Meter, Way, at, ends, look, look_limits, looked, looks, looks_at, millivolts, or_fails, reads_at, ready, refused, refuses, sees, volts}
use Rattle.chip.specs.Chip.{read, send, sized}
use Rattle.chip.specs.Datasheet.{Datasheet}
use Rattle.chip.specs.Laws.{Lawful}
use Rattle.chip.specs.Registers.{in_mask, number}
use Rattle.chip.specs.declared.refusal.Refusal.{Refusal}
use Rattle.chip.specs.declared.state.State.{State}
use Rattle.meter.proofs.Alone.{made_alone}
use Rattle.meter.proofs.Failing.{failed_on}
use Rattle.meter.specs.Parts.{NumberHeard, SeenSo}
use Rattle.meter.specs.Promises.{LookMade}
use Rattle.meter.specs.Settles.{settles}
use Rattle.meter.specs.Views.{condition_of}
use Rattle.meter.specs.declared.condition.Condition.{Condition}
use Rattle.meter.specs.declared.condition.Condition.TheVariants.{InDoubt, Ready, SlipOut, Unfinished}
use Rattle.meter.specs.declared.meter.machine.Call.TheVariants.{Look}
use Rattle.meter.specs.declared.meter.machine.Move.{Move}
use Rattle.meter.specs.declared.reading.Reading as code
use Rattle.wire.specs.Wire.{Goes, Heard, IsWire, Passes, Transacted, denied, heard}

-- what a look does, by what the condition settles
module _ (m : Datasheet) (t : Meter) (ch q : ℕ) where
  pub look_refused : (k : Condition) (e : Refusal) → settles k Look ≡ Err e → looks_at m t ch q (condition_of k) ≡ refuses t e
  look_refused Ready e h = let z : ◌≡◌ {A = ℕ} 0 1 = cc in absurd (omega arith)
  look_refused Unfinished e h = ap (refuses t) (cc)
  look_refused InDoubt e h = ap (refuses t) (cc)
  look_refused (SlipOut n) e h = ap (refuses t) (cc)

pub looks_only_when_ready : (k : Condition) (x : Move) → settles k Look ≡ Ok x → k ≡ Ready
looks_only_when_ready Ready x h = refl
looks_only_when_ready Unfinished x h = let z : ◌≡◌ {A = ℕ} 0 1 = cc in absurd (omega arith)
looks_only_when_ready InDoubt x h = let z : ◌≡◌ {A = ℕ} 0 1 = cc in absurd (omega arith)
looks_only_when_ready (SlipOut n) x h = let z : ◌≡◌ {A = ℕ} 0 1 = cc in absurd (omega arith)

-- the code, and for a sense code the polarity
module _ {W : Type 0} (goes : Goes W) (m : Datasheet) (law : Lawful m) (ch q : ℕ) (one_on : 1 ≤ ch) (there : ch ≤ m.channels) (known : q ≤ 1) where
  code_sized : sized (read (m.code_at ch q) 2) ≡ true
  code_sized = readable_sized m (m.code_at ch q, 2) (law.code_readable ch q one_on there known)

  polarity_sized : sized (read m.polarity_at.0 m.polarity_at.1) ≡ true
  polarity_sized = readable_sized m m.polarity_at law.polarity_readable

  -- its address is a byte
  pub code_address : (a : ℕ) → a ≡ m.code_at ch q % 256 → a ≡ m.code_at ch q
  code_address a is = let small = (law.code_readable ch q one_on there known).2 in omega arith

  abbrev shows_sense : Meter → (code polarity : List ℕ) → Way
  shows_sense t bs gs = ends (t, looked (millivolts (in_mask (m.two_way_in (number gs)) (ch - 1)) (number bs)))

  abbrev after_code : Meter → List ℕ → Way
  after_code t bs = cond (eqb q 0) (ends (t, looked (volts (number bs)))) (reads_at t m.polarity_at (shows_sense t bs))

  pub code_failed : {u w : W} (a : ℕ) → a ≡ m.code_at ch q → (e : Refusal) → Transacted goes u (read a 2) (denied e) w
      → (t : Meter) → Followed goes (sees m t ch q) u (at t ready) w (refused e)
  code_failed {u} {w} a is e tr t =
      failed_on goes (read (m.code_at ch q) 2) code_sized t (after_code t) e (subst (λ x. Transacted goes u (read x 2) (denied e) w) is tr) ready

  module _ {u v : W} (a : ℕ) {x : ℕ} (is : a ≡ m.code_at ch q) (h : NumberHeard goes u a 2 x v) where
    code_came : {w : W} (t : Meter) {t' : Meter} {r : Answer} → Followed goes (after_code t h.bytes) v t' w r → Followed goes (sees m t ch q) u t' w r
    code_came {w} t p =
        answered_on goes (read (m.code_at ch q) 2) code_sized (or_fails t ready ready (m.code_at ch q) (after_code t))
        (subst (λ y. Transacted goes u (read y 2) (heard h.bytes) v) is h.went) refl p

    pub bus_seen : q ≡ 0 → (t : Meter) → Followed goes (sees m t ch q) u t v (looked (volts (number h.bytes)))
    bus_seen bus t = code_came t (rw (eq-eqb q 0 bus) ends_followed)

    module _ (sense : q ≡ 0 → ⊥) (b n : ℕ) (at_b : b ≡ m.polarity_at.0) (of_n : n ≡ m.polarity_at.1) where
      on_polarity : {s w : W} {k : Heard} → Transacted goes s (read b n) k w → Transacted goes s (read m.polarity_at.0 m.polarity_at.1) k w
      on_polarity {s} {w} {k} tr = subst (λ y. Transacted goes s (read m.polarity_at.0 y) k w) of_n (subst (λ y. Transacted goes s (read y n) k w) at_b tr)

      pub polarity_failed : {w : W} (e : Refusal) → Transacted goes v (read b n) (denied e) w → (t : Meter)
          → Followed goes (sees m t ch q) u (at t ready) w (refused e)
      polarity_failed e tr t = code_came t (rw (ne_eqb q 0 sense)
          (failed_on goes (read m.polarity_at.0 m.polarity_at.1) polarity_sized t (shows_sense t h.bytes) e (on_polarity tr) ready))

      pub sense_seen : {w : W} {y : ℕ} (g : NumberHeard goes v b n y w) (t : Meter)
          → Followed goes (sees m t ch q) u t w (looked (millivolts (in_mask (m.two_way_in (number g.bytes)) (ch - 1)) (number h.bytes)))
      sense_seen g t = code_came t (rw (ne_eqb q 0 sense)
          (answered_on goes (read m.polarity_at.0 m.polarity_at.1) polarity_sized (or_fails t ready ready m.polarity_at.0 (shows_sense t h.bytes))
          (on_polarity g.went) refl ends_followed))

-- REFRESH_V, and then the code
module _ {W : Type 0} (goes : Goes W) (m : Datasheet) (ch q : ℕ) {u v : W} (a : ℕ) (is : a ≡ m.refresh_v) where
  on_refresh_v : {h : Heard} → Transacted goes u (send a) h v → Transacted goes u (send m.refresh_v) h v
  on_refresh_v {h} tr = subst (λ x. Transacted goes u (send x) h v) is tr

  pub refresh_v_failed : (e : Refusal) → Transacted goes u (send a) (denied e) v → (t : Meter)
      → Followed goes (looks_at m t ch q ready) u (at t ready) v (refused e)
  refresh_v_failed e tr t = failed_on goes (send m.refresh_v) refl t (λ bs. sees m t ch q) e (on_refresh_v tr) ready

  latched : Transacted goes u (send a) (heard []) v → {w : W} (t : Meter) {t' : Meter} {r : Answer} → Followed goes (sees m t ch q) v t' w r
      → Followed goes (looks_at m t ch q ready) u t' w r
  latched tr {w} t p =
      answered_on goes (send m.refresh_v) refl (or_fails t ready ready m.refresh_v (λ bs. sees m t ch q)) (on_refresh_v tr) refl p

  pub then_seen : Transacted goes u (send a) (heard []) v → (r : Result code.Reading Refusal) (w : W) → SeenSo goes m (λ t. sees m t ch q) v r w
      → SeenSo goes m (λ t. looks_at m t ch q ready) u r w
  then_seen tr (Ok x) w s = record { reading = s.reading; shows = s.shows; followed = λ t. latched tr t (s.followed t) }
  then_seen tr (Err e) w s = λ t. latched tr t (s t)

-- the limits, as code asks for them
module _ (m : Datasheet) (ch q : ℕ) where
  pub is_there : look_limits m ch q ≡ true → (1 ≤ ch) × ((ch ≤ m.channels) × (q ≤ 1))
  is_there e =
      let both = and_parts (leb 1 ch && leb ch m.channels) (leb q 1) e in
      let channel = and_parts (leb 1 ch) (leb ch m.channels) both.0 in
      (leb-true 1 ch channel.0, (leb-true ch m.channels channel.1, leb-true q 1 both.1))

-- a whole look
module _ (m : Datasheet) {W : Type 0} {chip_of : W → State} {goes : Goes W} {passes : Passes W} (is : IsWire m chip_of goes passes) (law : Lawful m) (t : Meter) (ch q : ℕ)
    (within : look_limits m ch q ≡ true) (ready_now : t.condition ≡ ready) where
  whole : looks m t ch q ≡ looks_at m t ch q ready
  whole = rw (within, ready_now) refl

  stays_ready : at t ready ≡ t
  stays_ready = ap (at t) (sym ready_now)

  pub look_made : (u w : W) (r : Result code.Reading Refusal) → SeenSo goes m (λ x. looks_at m x ch q ready) u r w → LookMade m chip_of goes ch q t u t w r
  look_made u w (Ok x) s = record {
    reading = s.reading;
    shows = s.shows;
    made = made_alone m is law (look ch q) (λ places es. rw whole (s.followed t)) (λ s. tt) (λ ss s. refl) (λ es. refl);
  }
  look_made u w (Err e) s = made_alone m is law (look ch q)
      (λ places es. rw whole (subst (λ x. Followed goes (looks_at m t ch q ready) u x w (refused e)) stays_ready (s t))) (λ s. tt) (λ ss s. refl) (λ es. refl)
