-- A busy run has a plain run of the same account, and so all that holds of plain runs.
use Rattle.std.proofs.Common.{◌≡◌, ℕ, Bool, true, cond, ◌&&◌, List, [], ◌∷◌, length, sym, refl, ap, ◌∙◌, subst, ap₂}
use Rattle.chip.specs.Chip.{Request, entry_of, read, send, write}
use Rattle.chip.specs.Datasheet.{Datasheet, meaning}
use Rattle.chip.specs.Laws.{Every, Lawful, Sound}
use Rattle.chip.specs.declared.entry.Entry.{Entry}
use Rattle.chip.specs.declared.state.Codes.{Codes}
use Rattle.chip.specs.declared.state.State.{State}
use Rattle.account.proofs.Assembly.{every_run}
use Rattle.account.proofs.CallsAreTrueToChip.{always_true_to_chip}
use Rattle.account.proofs.CallsKeepRules.{rules_always}
use Rattle.account.specs.CallRules.{refresh_carried}
use Rattle.account.specs.Dialogue.{Follows, Meter, book, books, dialogue, draw, draws, entered, look, looked, looks}
use Rattle.account.specs.History.{History, Reached, account, called, carried_in, carried_out, cycle_came, cycle_passed, entries_after, happened_after, is_refresh, made}
use Rattle.account.specs.Statements.{Accounted, HeldAt, Numbered, RunsWell, Settled, Statements, Steady, given, off_count}
use Rattle.account.specs.Steps.{Along, Step, goes_on, stays}
use Rattle.busy.proofs.Calms.{calm_call, calm_draws, calm_look}
use Rattle.busy.proofs.Chips.{cycled_by_active, cycled_by_image}
use Rattle.busy.proofs.Histories.{alike, alike_came, alike_carried, alike_happened, alike_on, alike_then, happened_past}
use Rattle.busy.proofs.Moving.{moved_out}
use Rattle.busy.specs.Events.{Event, Through, after_send, at_end, before_send, by_conversion, by_transaction, conversion, cycles_in, happened_in, just, steps_in, transaction}
use Rattle.busy.specs.Plain.{Alike, ImageAlone, came, cycled_by, requests_of}
use Rattle.busy.specs.Runs.{BusyReached, busy_call, busy_cycle, busy_made}
use Rattle.busy.specs.Statements.{BusyIsPlain, EveryBusyCall, EveryBusyRun}

abbrev pub Whole : List (List Codes) → Type 0
Whole kss = Every (λ ks. length ks ≡ 4) kss

by_asked : (q : Request) (kss jss : List (List Codes)) → Whole kss → Whole jss → Whole (elim q [ read a n ↦ kss | write a bs ↦ kss | send a ↦ jss ])
by_asked (read a n) kss jss p r = p
by_asked (write a bs) kss jss p r = p
by_asked (send a) kss jss p r = r

module _ (m : Datasheet) where
  -- each cycle that came is whole
  whole : (vs : List Event) {c c' : State} → Through m c vs c' → Whole (cycles_in vs)
  whole [] at_end = tt
  whole (transaction s ∷ vs) (by_transaction w th) = whole vs th
  whole (conversion ks ∷ vs) (by_conversion _ l th) = (l, whole vs th)

  whole_before : (vs : List Event) {c c' : State} → Through m c vs c' → Whole (before_send vs)
  whole_before [] at_end = tt
  whole_before (conversion ks ∷ vs) (by_conversion _ l th) = (l, whole_before vs th)
  whole_before (transaction s ∷ vs) (by_transaction w th) = by_asked s.asked (before_send vs) [] (whole_before vs th) tt

  whole_after : (vs : List Event) {c c' : State} → Through m c vs c' → Whole (after_send vs)
  whole_after [] at_end = tt
  whole_after (conversion ks ∷ vs) (by_conversion _ l th) = whole_after vs th
  whole_after (transaction s ∷ vs) (by_transaction w th) = by_asked s.asked (after_send vs) (cycles_in vs) (whole_after vs th) (whole vs th)

  module _ {places number last : ℕ} where
    cycles_passed : (kss : List (List Codes)) → Whole kss → {t : Meter} {c : State} {es : List Entry} {h : History} → Reached m places number last t c es h
        → Reached m places number last t (cycled_by m kss c) es (came kss h)
    cycles_passed [] p r = r
    cycles_passed (ks ∷ kss) p r = cycles_passed kss p.1 (cycle_passed ks p.0 r)

    module _ (law : Lawful m) (alone : ImageAlone m) where
      plain : {t : Meter} {c : State} {es : List Entry} {h : History} → BusyReached m places number last t c es h
          → (h' : History) × Reached m places number last t c es h' × Alike m h h'
      plain busy_made = ([], made, alike m [])
      plain (busy_cycle ks l b) = let p = plain b in (cycle_came ks ∷ p.0, cycle_passed ks l p.1, alike_on m (cycle_came ks) p.2)
      plain (busy_call {t} {t'} {c} {c'} {es} {h} {vs} {r} q b f th) =
          let p = plain b in
          let k = moved_out m (dialogue m q t places es) vs (calm_call m t law alone q places es) f th in
          let on = called q (cycles_passed (before_send vs) (whole_before vs th) p.1) k.follows k.along in
          let behind = cycles_passed (after_send vs) (whole_after vs th) on in (
            came (after_send vs) (happened_after r (carried_in k.steps (came (before_send vs) p.0))),
            subst (λ x. Reached m places number last t' x (entries_after r es) (came (after_send vs) (happened_after r (carried_in k.steps (came (before_send vs) p.0))))) k.behind behind,
            alike_then m (alike_happened m r (k.history h))
                (alike_then m (happened_past m r (after_send vs) (carried_in k.steps (came (before_send vs) h)))
                (alike_came m (after_send vs) (alike_happened m r (alike_carried m k.steps (alike_came m (before_send vs) p.2))))),
          )

  -- what holds of a history holds of one that comes to the same
  accounted : {before : ℕ} {t : Meter} {c : State} {es : List Entry} {h h' : History} → Alike m h h' → Accounted m before t c es h' → Accounted m before t c es h
  accounted {before} {t} {c} {es} {h} {h'} e k =
      let back : account m h' ≡ account m h = sym e.accounts in
      record {
        no_strays = subst (λ a. a.strays ≡ 0) back k.no_strays;
        settled = subst (λ a. Settled m c a.closed) back k.settled;
        the_book = subst (λ a. es ≡ given m a.closed) back k.the_book;
        rising = k.rising;
        numbered = subst (λ a. Numbered m before a.closed) back k.numbered;
        held = subst (λ a. HeldAt m before t.last a.closed t.condition) back k.held;
        written_off = subst (λ a. t.write_offs ≡ off_count m a.closed) back k.written_off;
        all_steady = subst (λ a. Every (λ x. Steady m x.stretch) a.closed) back k.all_steady;
      }

  stated : {places number before : ℕ} {t : Meter} {c : State} {es : List Entry} {h h' : History} → Alike m h h' → Statements m places number before t c es h'
      → Statements m places number before t c es h
  stated {c = c} e k = record {
    serial = k.serial;
    chip = k.chip ∙ sym e.chip;
    accounted = accounted e k.accounted;
    running = subst (λ a. RunsWell m c a.open_stretch) (sym e.accounts) k.running;
    conserved = λ u i l. rw (e.accounts, e.products) (k.conserved (rw e.accounts at u) i l);
    billable = rw e.accounts k.billable;
    room = k.room;
    numbers = k.numbers;
    few_write_offs = k.few_write_offs;
    offered = k.offered;
  }

  -- a call with no cycle in it
  steps_just : (ss : List Step) → steps_in (just ss) ≡ ss
  steps_just [] = refl
  steps_just (s ∷ ss) = ap (λ x. s ∷ x) (steps_just ss)

  happened_just : (ss : List Step) (h : History) → happened_in (just ss) h ≡ carried_in ss h
  happened_just [] h = refl
  happened_just (s ∷ ss) h = happened_just ss (cond s.carried (carried_out s.asked ∷ h) h)

  through_just : {c c' : State} (ss : List Step) → Along m c ss c' → Through m c (just ss) c'
  through_just [] stays = at_end
  through_just (s ∷ ss) (goes_on w al) = by_transaction w (through_just ss al)

  busy : {places number last : ℕ} {t : Meter} {c : State} {es : List Entry} {h : History} → Reached m places number last t c es h
      → BusyReached m places number last t c es h
  busy made = busy_made
  busy (cycle_passed ks l p) = busy_cycle ks l (busy p)
  busy {places} {number} {last} (called {t} {t'} {c} {c'} {es} {h} {ss} {r} q p f al) =
      subst (λ x. BusyReached m places number last t' c' (entries_after r es) (happened_after r x)) (happened_just ss h)
      (busy_call q (busy p) (subst (λ x. Follows (dialogue m q t places es) x (t', r)) (sym (steps_just ss)) f) (through_just ss al))

pub every_busy_run : EveryBusyRun
every_busy_run m law alone places number last t c es h l b =
    let p = plain m law alone b in stated m p.2 (every_run m law places number last t c es p.0 l p.1)

-- whether a REFRESH was carried out is told by the requests
refresh_told : (m : Datasheet) (ss vv : List Step) → requests_of ss ≡ requests_of vv → refresh_carried m ss ≡ refresh_carried m vv
refresh_told m [] [] e = refl
refresh_told m [] (v ∷ vv) e = cc
refresh_told m (s ∷ ss) [] e = cc
refresh_told m (s ∷ ss) (v ∷ vv) e =
    let rest : requests_of ss ≡ requests_of vv = cc in
    let first : ◌≡◌ {A = Request × Bool} (s.asked, s.carried) (v.asked, v.carried) = cc in
    ap₂ (λ x y. cond x true y) (ap (λ p. is_refresh m p.0 && p.1) first) (refresh_told m ss vv rest)

pub every_busy_call : EveryBusyCall
every_busy_call m law = record {
  obeys = λ t t' c c' vs r ok f th yes-refresh.
      let k = moved_out m (draws m t) vs (calm_draws m t law t.condition) f th in
      let true_to_chip = always_true_to_chip m law draw t t' (cycled_by m (before_send vs) c) k.left 0 [] k.steps r k.follows k.along in
      let obeyed = true_to_chip.obeyed refl ok (refresh_told m k.steps (steps_in vs) k.requests ∙ yes-refresh) in
      ap (meaning m) (ap (λ x. x.active) (sym k.behind) ∙ cycled_by_active m (after_send vs) k.left) ∙ obeyed;
  looks_true = λ t t' c c' ch q vs g f th.
      let k = moved_out m (looks m t ch q) vs (calm_look m t law ch q) f th in
      let seen = (always_true_to_chip m law (look ch q) t t' (cycled_by m (before_send vs) c) k.left 0 [] k.steps (looked g) k.follows k.along).told in
      record { bus = seen.bus; sense = seen.sense; meter = (rules_always m law (look ch q) t t' 0 [] k.steps (looked g) k.follows).reason };
  books_true = λ alone t t' c c' p places es n vs e f th.
      let k = moved_out m (books m t p places (length es) n) vs (calm_call m t law alone (book p n) places es) f th in
      let told = (always_true_to_chip m law (book p n) t t' (cycled_by m (before_send vs) c) k.left places es k.steps (entered e) k.follows k.along).told in
      let same = cycled_by_image m (before_send vs) c in
      record {
        entry = λ sound. told.entry (subst (λ g. Sound m g.running) (sym same) sound) ∙ ap (λ g. entry_of m g p.draw) same;
        chip = sym k.behind ∙ ap (cycled_by m (after_send vs)) told.chip;
      };
}

pub busy_is_plain : BusyIsPlain
busy_is_plain = record {
  runs = λ m law alone places number last t c es h b. plain m law alone b;
  calls = λ m law alone q t places es t' r c c' vs f th. moved_out m (dialogue m q t places es) vs (calm_call m t law alone q places es) f th;
  plain_is_busy = λ m places number last t c es h r. busy m r;
}
