-- Every call is true to its chip: a draw obeys, a look shows the latest code, a booking gives the image's entry.
use Rattle.std.proofs.Common.{◌≡◌, ℕ, ◌-◌, ◌≤◌, Bool, true, false, cond, not, ◌&&◌, eqb, leb, List, [], ◌∷◌, ◌++◌, length, Some, None, Option, refl, ap, ◌∙◌, subst, ap₂, arith}
use Rattle.std.proofs.lemmas.Bool.{and_parts, eqb-false, eqb-true, leb-true}
use Rattle.account.proofs.CallsKeepRules.{rules_always}
use Rattle.account.proofs.Walks.{does_refresh, does_refresh_v, went_exactly, went_read, went_write}
use Rattle.account.proofs.Ways.{Wq, walked_to, wq_by, wq_cond}
use Rattle.account.specs.CallRules.{AlwaysTrueToChip, EveryCall, ToldOfChip, latest_bus, latest_sense, refresh_carried}
use Rattle.account.specs.Dialogue.{Answer, Call, Condition, Follows, Meter, Slip, Way, asks_mark, book, book_limits, books, closes, dialogue, draws_at, fits_slip, gathers, hands, in_doubt, look, look_limits, looks, looks_at, millivolts, ready, refreshes, sees, sets, slip_out, unfinished, volts}
use Rattle.account.specs.Steps.{Along, Step}
use Rattle.chip.specs.Chip.{latched, refreshed, reply, with_held}
use Rattle.chip.specs.Datasheet.{Datasheet, Wanted, meaning}
use Rattle.chip.specs.Laws.{Lawful, Means, replies, written}
use Rattle.chip.specs.Registers.{in_mask, number}
use Rattle.chip.specs.declared.entry.Entry.{Entry}
use Rattle.chip.specs.declared.state.Held.{Held}
use Rattle.chip.specs.declared.state.State.{State}

module _ (m : Datasheet) where
  -- A DRAW whose REFRESH was carried out put the wanted settings in force
  module _ (t : Meter) where
    abbrev Obeyed : List Step → Meter × Answer → State → Type 0
    Obeyed ss a c = refresh_carried m ss ≡ true → meaning m c.active ≡ t.wanted

    -- a step that was not carried out carried no REFRESH out
    never : {A : Type 0} (b : Bool) → ◌≡◌ {A = Bool} (cond (b && false) true false) true → A
    never true e = cc
    never false e = cc

    not_so : {A : Type 0} → ◌≡◌ {A = Bool} false true → A
    not_so e = cc

    -- REFRESH puts the held settings in force
    closes_obeys : (c : State) → meaning m c.held.settings ≡ t.wanted → Wq m Obeyed (closes m t) c
    closes_obeys c e = went_exactly m c (refreshed c) [] (does_refresh m c) (λ y. e) (λ w y. never (eqb m.refresh m.refresh) y) (λ y. never (eqb m.refresh m.refresh) y)
        (λ y. e)

    -- what the rest of the writes leaves, once the first was taken
    on_next : (o : Option Held) (f b : Bool) (w : Wanted) (s : Held) (ps : List (ℕ × List ℕ)) → Means m w b (cond f (elim o [ None ↦ None | Some s' ↦ written m ps s' ]) None)
        → o ≡ Some s → f ≡ true → Means m w b (written m ps s)
    on_next o f b w s ps q e g = rw (g, e) at q

    -- the writes leave the wanted settings held
    sets_obeys : (b : Bool) (ps : List (ℕ × List ℕ)) (c : State) → Means m t.wanted b (written m ps c.held) → Wq m Obeyed (sets m t ps) c
    sets_obeys b [] c q = closes_obeys c q.1
    sets_obeys b (p ∷ ps) c q = went_write m c
        (λ s r kept len does_it. sets_obeys b ps (with_held c s) (on_next (m.keeps p.0 (number p.1) c.held) (eqb (length p.1) (m.width p.0)) b
        t.wanted s ps q kept len))
        (λ w. not_so) not_so (λ s r does_it. not_so)

    module _ (law : Lawful m) (ok : m.offers t.wanted ≡ true) (c : State) where
      refreshes_obey : Wq m Obeyed (refreshes m t) c
      refreshes_obey = sets_obeys (not t.mark) (m.settings_writes t.wanted (not t.mark)) c (law.written_means t.wanted ok (not t.mark) c.held)

      draws_obey : (k : Condition) → Wq m Obeyed (draws_at m t k) c
      draws_obey ready = wq_cond m Obeyed (eqb t.last 4294967295) _ (refreshes m t) c not_so refreshes_obey
      draws_obey unfinished = wq_cond m Obeyed (eqb t.last 4294967295) _ (refreshes m t) c not_so refreshes_obey
      draws_obey in_doubt = wq_cond m Obeyed (eqb t.last 4294967295) _ (asks_mark m t) c not_so
          (went_read m c (λ e. wq_cond m Obeyed _ (hands t) (refreshes m t) c not_so refreshes_obey) (λ w. not_so) not_so (λ e. not_so))
      draws_obey (slip_out n) = not_so

  -- A LOOK that answers gives the latest code
  module _ (law : Lawful m) (t : Meter) (ch k : ℕ) (c : State) where
    abbrev Told : List Step → Meter × Answer → State → Type 0
    Told ss a c' = ToldOfChip m (look ch k) a.1 c c'

    module _ (low : 1 ≤ ch) (high : ch ≤ m.channels) where
      -- the codes of the image that the REFRESH_V latched
      bus_seen : k ≡ 0 → volts (number (reply m (latched c) (m.code_at ch k) 2)) ≡ volts (latest_bus m c (ch - 1))
      bus_seen e = ap volts (ap (λ x. number (reply m (latched c) (m.code_at ch x) 2)) e ∙ law.bus_read (latched c) ch low high)

      sense_seen : k ≡ 1 → millivolts (in_mask (m.two_way_in (number (reply m (latched c) m.polarity_at.0 m.polarity_at.1))) (ch - 1))
          (number (reply m (latched c) (m.code_at ch k) 2)) ≡ millivolts (in_mask (m.two_way c.active) (ch - 1)) (latest_sense m c (ch - 1))
      sense_seen e = ap₂ (λ w n. millivolts (in_mask w (ch - 1)) n) (law.polarity_read (latched c)) (ap (λ x. number (reply m (latched c) (m.code_at ch x) 2)) e
          ∙ law.sense_read (latched c) ch low high)

      sees_told : Wq m Told (sees m t ch k) (latched c)
      sees_told = went_read m (latched c)
          (λ e. wq_by m Told (eqb k 0) _ _ (latched c)
          (λ y. record { bus = bus_seen; sense = λ is. absurd (let z = eqb-true k 0 y in omega arith); running = refl })
          (λ y. went_read m (latched c) (λ e'. record { bus = λ is. absurd (eqb-false k 0 y is); sense = sense_seen; running = refl }) (λ w. tt) tt (λ e'. tt)))
          (λ w. tt) tt (λ e. tt)

      looks_told : (x : Condition) → Wq m Told (looks_at m t ch k x) c
      looks_told ready = went_exactly m c (latched c) [] (does_refresh_v m c law.two_commands) sees_told (λ w. tt) tt tt
      looks_told unfinished = tt
      looks_told in_doubt = tt
      looks_told (slip_out n) = tt

    look_told : Wq m Told (looks m t ch k) c
    look_told = wq_by m Told (look_limits m ch k) _ _ c
        (λ y. let p = (and_parts (leb 1 ch && leb ch m.channels) (leb k 1) y).0 in let o =
        and_parts (leb 1 ch) (leb ch m.channels) p in looks_told (leb-true _ _ o.0) (leb-true _ _ o.1) t.condition)
        (λ y. tt)

  -- A BOOKING that is taken gives the image's entry
  module _ (law : Lawful m) (t : Meter) (p : Slip) (scratch : ℕ) (c : State) where
    abbrev Entered : List Step → Meter × Answer → State → Type 0
    Entered ss a c' = ToldOfChip m (book p scratch) a.1 c c'

    -- reads leave the chip, and their replies stand in a row
    gathers_told : (ps : List (ℕ × ℕ)) (f : List ℕ → Way) → Wq m Entered (f (replies m c ps)) c → Wq m Entered (gathers t ps f) c
    gathers_told [] f h = h
    gathers_told (x ∷ ps) f h = went_read m c (λ e. gathers_told ps (λ rs. f (reply m c x.0 x.1 ++ rs)) h) (λ w. tt) tt (λ e. tt)

    -- so the entry in them is the image's
    book_told : (places filled : ℕ) → Wq m Entered (books m t p places filled scratch) c
    book_told places filled = wq_cond m Entered (book_limits places filled scratch) _ _ c
        (wq_cond m Entered (fits_slip t p) _ _ c (wq_cond m Entered (eqb filled places) _ _ c tt
        (gathers_told m.booking_reads _ (record { entry = λ sound. law.entry_read c p.draw sound; chip = refl }))) tt) tt

  -- EVERY CALL
  told : Lawful m → (q : Call) (t t' : Meter) (c c' : State) (places : ℕ) (es : List Entry) (ss : List Step) (r : Answer)
      → Follows (dialogue m q t places es) ss (t', r) → Along m c ss c' → ToldOfChip m q r c c'
  told law (look ch k) t t' c c' places es ss r f al = walked_to m (Told law t ch k c) f al (look_told law t ch k c)
  told law (book p n) t t' c c' places es ss r f al = walked_to m (Entered law t p n c) f al (book_told law t p n c places (length es))
  told law q t t' c c' places es ss r f al = tt

pub always_true_to_chip : (m : Datasheet) → Lawful m → AlwaysTrueToChip m
always_true_to_chip m law q t t' c c' places es ss r f al = record {
  obeyed = λ is ok carried. walked_to m (Obeyed m t) (subst (λ x. Follows (dialogue m x t places es) ss (t', r)) is f) al (draws_obey m t law ok c t.condition) carried;
  told = told m law q t t' c c' places es ss r f al;
}

pub every_call : EveryCall
every_call m law = record { rules = rules_always m law; chip = always_true_to_chip m law }
