-- Each call, as what it asks of a chip that converts on: before its REFRESH or REFRESH_V it goes on alike whatever cycles came, and after it reads at most.
use Rattle.std.proofs.Common.{◌≡◌, ℕ, zero, suc, ◌-◌, ◌%◌, ◌≤◌, Bool, true, false, cond, not, ◌&&◌, eqb, leb, List, [], ◌∷◌, ◌++◌, length, refl, ap, ◌∙◌, sym, arith}
use Rattle.std.proofs.lemmas.Bool.{and_parts, leb-true}
use Rattle.chip.specs.Chip.{channel, read, reply, send, write}
use Rattle.chip.specs.Datasheet.{Datasheet}
use Rattle.chip.specs.Laws.{Every, Lawful}
use Rattle.chip.specs.Registers.{in_mask, number}
use Rattle.chip.specs.declared.entry.Entry.{Entry}
use Rattle.chip.specs.declared.state.State.{State}
use Rattle.wire.specs.Wire.{Reply, answered, broken, unacknowledged}
use Rattle.account.specs.Dialogue.{Call, Condition, Meter, Slip, Way, asks, asks_mark, at, bill_for, book, book_limits, books, dialogue, draw, draws_at, ends, entered, fits_slip, gathers, hands, if_numbers_left, in_doubt, look, look_limits, looked, looks, looks_at, millivolts, or_fails, reads_at, ready, refreshes, sees, set_up, sets, slip_out, unfinished, unlike, volts, write_off}
use Rattle.busy.proofs.Chips.{SameOn}
use Rattle.busy.specs.Plain.{ImageAlone}

module _ (m : Datasheet) where
  -- it only reads
  abbrev pub Reads : Way → Type 0
  Reads (ends a) = Unit {0}
  Reads (asks (read a n) f) = SameOn m a n f × ((r : Reply) → Reads (f r))
  Reads (asks (write a bs) f) = ⊥
  Reads (asks (send a) f) = ⊥

  -- it reads and writes; what is sent is sent last, but for some reads
  abbrev pub Calm : Way → Type 0
  Calm (ends a) = Unit {0}
  Calm (asks (read a n) f) = SameOn m a n f × ((r : Reply) → Calm (f r))
  Calm (asks (write a bs) f) = (r : Reply) → Calm (f r)
  Calm (asks (send a) f) = (r : Reply) → Reads (f r)

  calm_cond : (b : Bool) (s s' : Way) → Calm s → Calm s' → Calm (cond b s s')
  calm_cond true s s' p q = p
  calm_cond false s s' p q = q

  calm_if : (b : Bool) (s s' : Way) → (b ≡ true → Calm s) → Calm s' → Calm (cond b s s')
  calm_if true s s' p q = p refl
  calm_if false s s' p q = q

  reads_cond : (b : Bool) (s s' : Way) → Reads s → Reads s' → Reads (cond b s s')
  reads_cond true s s' p q = p
  reads_cond false s s' p q = q

  module _ (t : Meter) where
    calm_answered : (k l : Condition) (a : ℕ) (f : List ℕ → Way) → ((bs : List ℕ) → Calm (f bs)) → (r : Reply) → Calm (or_fails t k l a f r)
    calm_answered k l a f p (answered bs) = p bs
    calm_answered k l a f p (unacknowledged w) = tt
    calm_answered k l a f p broken = tt

    reads_answered : (k l : Condition) (a : ℕ) (f : List ℕ → Way) → ((bs : List ℕ) → Reads (f bs)) → (r : Reply) → Reads (or_fails t k l a f r)
    reads_answered k l a f p (answered bs) = p bs
    reads_answered k l a f p (unacknowledged w) = tt
    reads_answered k l a f p broken = tt

    calm_sets : (ps : List (ℕ × List ℕ)) → Calm (sets m t ps)
    calm_sets [] = reads_answered unfinished in_doubt m.refresh (λ bs. hands t) (λ bs. tt)
    calm_sets (p ∷ ps) = calm_answered unfinished unfinished p.0 (λ bs. sets m t ps) (λ bs. calm_sets ps)

    calm_numbers : (s : Way) → Calm s → Calm (if_numbers_left t s)
    calm_numbers s p = calm_cond (eqb t.last 4294967295) _ s tt p

    module _ (law : Lawful m) where
      pub calm_draws : (k : Condition) → Calm (draws_at m t k)
      calm_draws ready = calm_numbers (refreshes m t) (calm_sets (m.settings_writes t.wanted (not t.mark)))
      calm_draws unfinished = calm_numbers (refreshes m t) (calm_sets (m.settings_writes t.wanted (not t.mark)))
      calm_draws in_doubt = calm_numbers (asks_mark m t) (
        (λ c d p g. ap (λ b. cond (unlike t.mark b) (hands t) (refreshes m t)) (law.mark_read c ∙ ap (λ s. m.mark s) p ∙ sym (law.mark_read d))),
        calm_answered in_doubt in_doubt m.mark_at.0 _
            (λ bs. calm_cond (unlike t.mark (m.mark_in (number bs))) (hands t) (refreshes m t) tt (calm_sets (m.settings_writes t.wanted (not t.mark)))),
      )
      calm_draws (slip_out n) = tt

      -- a look's reads, after its REFRESH_V
      module _ (ch q : ℕ) (one : 1 ≤ ch) (few : ch ≤ m.channels) where
        code_same : (q : ℕ) → q ≤ 1 → (c d : State) → c.image ≡ d.image → number (reply m c (m.code_at ch q) 2) ≡ number (reply m d (m.code_at ch q) 2)
        code_same zero l c d g = law.bus_read c ch one few ∙ ap (λ x. (channel (ch - 1) x.running).latest.bus % 65536) g ∙ sym (law.bus_read d ch one few)
        code_same (suc zero) l c d g = law.sense_read c ch one few ∙ ap (λ x. (channel (ch - 1) x.running).latest.sense % 65536) g ∙ sym (law.sense_read d ch one few)
        code_same (suc (suc q)) l c d g = absurd (omega arith)

        reads_sees : q ≤ 1 → Reads (sees m t ch q)
        reads_sees l = (
          (λ c d p g. ap (λ n. cond (eqb q 0) (ends (t, looked (volts n))) (shows_sense n)) (code_same q l c d g)),
          reads_answered ready ready (m.code_at ch q) _
              (λ bs. reads_cond (eqb q 0) _ (shows_sense (number bs)) tt (
                (λ c d p g. ap (λ w. ends (t, looked (millivolts (in_mask w (ch - 1)) (number bs))))
                    (law.polarity_read c ∙ ap (λ x. m.two_way x.settings) g ∙ sym (law.polarity_read d))),
                reads_answered ready ready m.polarity_at.0 _ (λ gs. tt),
              )),
        )
          where
            shows_sense : ℕ → Way
            shows_sense n = reads_at t m.polarity_at (λ gs. ends (t, looked (millivolts (in_mask (m.two_way_in (number gs)) (ch - 1)) n)))

      calm_looks : (ch q : ℕ) (k : Condition) → look_limits m ch q ≡ true → Calm (looks_at m t ch q k)
      calm_looks ch q ready e =
          let p = and_parts (leb 1 ch && leb ch m.channels) (leb q 1) e in
          let r = and_parts (leb 1 ch) (leb ch m.channels) p.0 in
          reads_answered ready ready m.refresh_v (λ bs. sees m t ch q) (λ bs. reads_sees ch q (leb-true _ _ r.0) (leb-true _ _ r.1) (leb-true _ _ p.1))
      calm_looks ch q unfinished e = tt
      calm_looks ch q in_doubt e = tt
      calm_looks ch q (slip_out n) e = tt

      pub calm_look : (ch q : ℕ) → Calm (looks m t ch q)
      calm_look ch q = calm_if (look_limits m ch q) _ _ (calm_looks ch q t.condition) tt

    -- a booking's reads
    calm_gathers : (ps : List (ℕ × ℕ)) (f : List ℕ → Way) → Every (λ p. (c d : State) → c.image ≡ d.image → reply m c p.0 p.1 ≡ reply m d p.0 p.1) ps
        → ((rs : List ℕ) → Calm (f rs)) → Calm (gathers t ps f)
    calm_gathers [] f e p = p []
    calm_gathers (x ∷ ps) f e p = (
      (λ c d _ g. ap (λ bs. gathers t ps (λ rs. f (bs ++ rs))) (e.0 c d g)),
      calm_answered t.condition t.condition x.0 (λ bs. gathers t ps (λ rs. f (bs ++ rs))) (λ bs. calm_gathers ps (λ rs. f (bs ++ rs)) e.1 (λ rs. p (bs ++ rs))),
    )

    calm_books : ImageAlone m → (p : Slip) (places filled scratch : ℕ) → Calm (books m t p places filled scratch)
    calm_books alone p places filled scratch =
        calm_cond (book_limits places filled scratch) _ _
        (calm_cond (fits_slip t p) _ _
        (calm_cond (eqb filled places) _ _ tt (calm_gathers m.booking_reads (λ rs. ends (at t ready, entered (m.entry_in rs p.draw))) alone.shown (λ rs. tt))) tt) tt

    pub calm_call : Lawful m → ImageAlone m → (q : Call) (places : ℕ) (es : List Entry) → Calm (dialogue m q t places es)
    calm_call law alone (set_up w) places es = calm_cond (m.offers w) _ _ tt tt
    calm_call law alone draw places es = calm_draws law t.condition
    calm_call law alone (book p n) places es = calm_books alone p places (length es) n
    calm_call law alone (write_off p) places es = calm_cond (fits_slip t p) _ _ tt tt
    calm_call law alone (look ch q) places es = calm_look law ch q
    calm_call law alone (bill_for kind ch u) places es = tt
