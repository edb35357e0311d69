-- Each call, from each condition, keeps what every run keeps.
use Rattle.std.proofs.Common.{◌≡◌, ℕ, ◌+◌, ◌-◌, ◌^◌, ◌<◌, Bool, true, false, cond, not, ◌&&◌, eqb, leb, ◌⊎◌, List, [], ◌∷◌, ◌++◌, length, Some, None, Option, sym, refl, ap, ◌∙◌, subst, inl, inr, ⊎_elim, arith}
use Rattle.std.proofs.lemmas.Bool.{and_parts, both_ways, cases_Bool, eq-eqb, eqb-false, eqb-true, leb-true, ne_eqb}
use Rattle.account.proofs.Keeping.{Kept, keep_booked, keep_latched, keep_pending, keep_refreshed, keep_written_off}
use Rattle.account.proofs.Walks.{Wp, by_cond, does_refresh, does_refresh_v, went_exactly, went_read, went_write}
use Rattle.book.specs.Bill.{Bill, bill, bill_of, no_bill}
use Rattle.chip.specs.Chip.{does, entry_of, latched, reacts, read, refreshed, reply, send, with_held, write}
use Rattle.account.specs.Dialogue.{Answer, Call, Condition, Meter, Slip, Way, asks_mark, at, bill_answer, bill_for, book, book_limits, books, closes, dialogue, draw, draws, ends, entered, enters, gathers, hands, if_numbers_left, in_doubt, look, look_limits, looked, looks, millivolts, reads_at, ready, refreshes, sees, set_up, sets, sets_up, slip_out, unfinished, unlike, write_off, writes_off}
use Rattle.account.specs.History.{History, Stretch, booked, carried_out, entries_after, happened_after, is_refresh, written_off}
use Rattle.chip.specs.Laws.{Lawful, Means, replies, written}
use Rattle.chip.specs.Datasheet.{Datasheet, Wanted}
use Rattle.chip.specs.declared.entry.Entry.{Entry}
use Rattle.chip.specs.declared.state.State.{State}
use Rattle.chip.specs.declared.state.Held.{Held}
use Rattle.chip.specs.Registers.{in_mask, number}

abbrev pub mk : ℕ → ℕ → Wanted → Bool → ℕ → Condition → Meter
mk number last w b offs k = record { meter = number; last = last; wanted = w; mark = b; write_offs = offs; condition = k }

told_same : (a b : Bool) → b ≡ a → unlike a b ≡ false
told_same a b e = grind arith

told_other : (a b : Bool) → b ≡ not a → unlike a b ≡ true
told_other a b e = grind arith

module _ (m : Datasheet) (law : Lawful m) (places before : ℕ) where
  abbrev pub Standing : Condition → ℕ → ℕ → Wanted → Bool → State → List Entry → History → Type 0
  Standing ready last offs w b c es h = Kept m places before last offs w None c es h × (c.held.settings ≡ c.active) × (m.mark c.active ≡ b)
  Standing unfinished last offs w b c es h = Kept m places before last offs w None c es h × (m.mark c.active ≡ b)
  Standing in_doubt last offs w b c es h = (Kept m places before last offs w None c es h × (m.mark c.active ≡ b)) ⊎ ((s : Stretch)
      × Kept m places before last offs w (Some s) c es h × (c.held.settings ≡ c.active) × (m.mark c.active ≡ not b))
  Standing (slip_out n) last offs w b c es h = (k : ℕ) × (s : Stretch) × (last ≡ k + 1) × (n ≡ last) × (last < 2 ^ 32) × Kept m places before k offs w (Some s) c es h
      × (c.held.settings ≡ c.active) × (m.mark c.active ≡ b)

  abbrev pub Inv : Meter → State → List Entry → History → Type 0
  Inv t c es h = Standing t.condition t.last t.write_offs t.wanted t.mark c es h

  abbrev pub Post : List Entry → Meter × Answer → State → History → Type 0
  Post es a c h = Inv a.0 c (entries_after a.1 es) (happened_after a.1 h)

  module _ (es : List Entry) where
    closes_ok : (t : Meter) (c : State) (h : History) → t.last + 1 < 2 ^ 32 → Kept m places before t.last t.write_offs t.wanted None c es h → m.mark c.active ≡ t.mark
        → m.mark c.held.settings ≡ not t.mark → Wp m (Post es) (closes m t) c h
    closes_ok t c h l k e p =
        let yes_refresh : is_refresh m (send m.refresh) ≡ true = eq-eqb m.refresh m.refresh refl in
        let k' = keep_refreshed m places (send m.refresh) [] (does_refresh m c) yes_refresh k in
        went_exactly m c (refreshed c) [] (does_refresh m c)
        (t.last, k.o, refl, refl, l, k', refl, p)
        (λ w. (k, e))
        (inl (k, e))
        (inr (k.o, k', refl, p))

    next : (o : Option Held) (t b : Bool) (w : Wanted) (s : Held) (ps : List (ℕ × List ℕ)) → Means m w b (cond t (elim o [ None ↦ None | Some s' ↦ written m ps s' ]) None)
        → o ≡ Some s → t ≡ true → Means m w b (written m ps s)
    next o t b w s ps q e f = rw (f, e) at q

    sets_ok : (t : Meter) (ps : List (ℕ × List ℕ)) (c : State) (h : History) → t.last + 1 < 2 ^ 32 → Kept m places before t.last t.write_offs t.wanted None c es h
        → m.mark c.active ≡ t.mark → Means m t.wanted (not t.mark) (written m ps c.held) → Wp m (Post es) (sets m t ps) c h
    sets_ok t [] c h l k e q = closes_ok t c h l k e q.0
    sets_ok t (p ∷ ps) c h l k e q = went_write m c
        (λ s r kept len does_it. sets_ok t ps (with_held c s) (carried_out (write p.0 p.1) ∷ h) l (keep_pending m places None (write p.0 p.1) s r does_it refl k) e
        (next (m.keeps p.0 (number p.1) c.held) (eqb (length p.1) (m.width p.0)) (not t.mark) t.wanted s ps q kept len))
        (λ w. (k, e))
        (k, e)
        (λ s r does_it. (keep_pending m places None (write p.0 p.1) s r does_it refl k, e))

    refreshes_ok : (t : Meter) (c : State) (h : History) → t.last + 1 < 2 ^ 32 → Kept m places before t.last t.write_offs t.wanted None c es h
        → m.mark c.active ≡ t.mark → Wp m (Post es) (refreshes m t) c h
    refreshes_ok t c h l k e = sets_ok t (m.settings_writes t.wanted (not t.mark)) c h l k e (law.written_means t.wanted k.wanted_ok (not t.mark) c.held)

    keep_read : (u : Option Stretch) {last offs : ℕ} {w : Wanted} {c : State} {h : History} (a n : ℕ) → reacts m c (read a n) ≡ does c (reply m c a n)
        → Kept m places before last offs w u c es h → Kept m places before last offs w u c es (carried_out (read a n) ∷ h)
    keep_read u {c = c} a n e k = keep_pending m places u (read a n) c.held (reply m c a n) e refl k

    asks_ok : (number last : ℕ) (w : Wanted) (b : Bool) (offs : ℕ) (c : State) (h : History) → last + 1 < 2 ^ 32 → Inv (mk number last w b offs in_doubt) c es h
        → Wp m (Post es) (asks_mark m (mk number last w b offs in_doubt)) c h
    asks_ok number last w b offs c h l (inl (k, e)) =
        went_read m c
        (λ does_it. by_cond m (Post es) _ (hands (mk number last w b offs in_doubt)) (refreshes m (mk number last w b offs in_doubt)) c _
        (λ y. absurd (both_ways _ (told_same b _ (law.mark_read c ∙ e)) y))
        (λ y. refreshes_ok (mk number last w b offs in_doubt) c _ l (keep_read None _ _ does_it k) e))
        (λ x. inl (k, e)) (inl (k, e)) (λ does_it. inl (keep_read None _ _ does_it k, e))
    asks_ok number last w b offs c h l (inr (s, k, p, e)) =
        went_read m c
        (λ does_it. by_cond m (Post es) _ (hands (mk number last w b offs in_doubt)) (refreshes m (mk number last w b offs in_doubt)) c _
        (λ y. (last, s, refl, refl, l, keep_read (Some s) _ _ does_it k, p, e))
        (λ y. absurd (both_ways _ y (told_other b _ (law.mark_read c ∙ e)))))
        (λ x. inr (s, k, p, e)) (inr (s, k, p, e)) (λ does_it. inr (s, keep_read (Some s) _ _ does_it k, p, e))

    numbered_ok : (t : Meter) (s : Way) (c : State) (h : History) → t.last < 2 ^ 32 → Inv t c es h → (t.last + 1 < 2 ^ 32 → Wp m (Post es) s c h)
        → Wp m (Post es) (if_numbers_left t s) c h
    numbered_ok t s c h l i f = by_cond m (Post es) (eqb t.last 4294967295) _ s c h (λ y. i) (λ y. f (let ne = eqb-false _ _ y in omega arith))

    draws_ok : (number last : ℕ) (w : Wanted) (b : Bool) (offs : ℕ) (k : Condition) (c : State) (h : History) → Inv (mk number last w b offs k) c es h
        → Wp m (Post es) (draws m (mk number last w b offs k)) c h
    draws_ok number last w b offs ready c h i =
        numbered_ok (mk number last w b offs ready) _ c h i.0.booked.small i (λ l. refreshes_ok (mk number last w b offs ready) c h l i.0 i.2)
    draws_ok number last w b offs unfinished c h i =
        numbered_ok (mk number last w b offs unfinished) _ c h i.0.booked.small i (λ l. refreshes_ok (mk number last w b offs unfinished) c h l i.0 i.1)
    draws_ok number last w b offs in_doubt c h i =
        numbered_ok (mk number last w b offs in_doubt) _ c h (⊎_elim (λ x. x.0.booked.small) (λ x. x.1.booked.small) i) i (λ l. asks_ok number last w b offs c h l i)
    draws_ok number last w b offs (slip_out n) c h i = i

    -- booking: its reads change nothing, and their replies give the entry
    module _ (number last : ℕ) (w : Wanted) (b : Bool) (offs n : ℕ) (c : State) where
      abbrev holder : Meter
      holder = mk number last w b offs (slip_out n)

      read_on : {h : History} (a k : ℕ) → reacts m c (read a k) ≡ does c (reply m c a k) → Inv holder c es h → Inv holder c es (carried_out (read a k) ∷ h)
      read_on a k e (j, s, is, is', l, kept, same, mark) = (j, s, is, is', l, keep_read (Some s) a k e kept, same, mark)

      gathers_ok : (ps : List (ℕ × ℕ)) (f : List ℕ → Way) (h : History) → Inv holder c es h
          → ((h' : History) → Inv holder c es h' → Wp m (Post es) (f (replies m c ps)) c h') → Wp m (Post es) (gathers holder ps f) c h
      gathers_ok [] f h i g = g h i
      gathers_ok (p ∷ ps) f h i g = went_read m c
          (λ e. gathers_ok ps (λ rs. f (reply m c p.0 p.1 ++ rs)) _ (read_on p.0 p.1 e i) g)
          (λ x. i) i (λ e. read_on p.0 p.1 e i)

      enters_ok : (p : Slip) (h : History) → p.draw ≡ n → length es < places → Inv holder c es h → Wp m (Post es) (enters m holder p) c h
      enters_ok p h fits space i = gathers_ok m.booking_reads (λ rs. ends (at holder ready, entered (m.entry_in rs p.draw))) h i booked_ok
        where
          e : Entry
          e = m.entry_in (replies m c m.booking_reads) p.draw

          booked_ok : (h' : History) → Inv holder c es h' → Standing ready last offs w b c (es ++ m.entry_in (replies m c m.booking_reads) p.draw ∷ [])
              (booked (m.entry_in (replies m c m.booking_reads) p.draw) ∷ h')
          booked_ok h' (k, s, is, is', l, kept, same, mark) =
              let e_is : m.entry_in (replies m c m.booking_reads) p.draw ≡ entry_of m c.image (k + 1) =
              law.entry_read c p.draw kept.image_ok ∙ ap (entry_of m c.image) (fits ∙ is' ∙ is) in (
                subst (λ x. Kept m places before x offs w None c (es ++ m.entry_in (replies m c m.booking_reads) p.draw ∷ [])
                    (booked (m.entry_in (replies m c m.booking_reads) p.draw) ∷ h')) (sym is)
                    (subst (λ y. Kept m places before (k + 1) offs w None c (es ++ y ∷ []) (booked y ∷ h')) (sym e_is) (keep_booked m places law s (omega arith) space kept)),
                same,
                mark,
              )

    books_ok : (number last : ℕ) (w : Wanted) (b : Bool) (offs : ℕ) (k : Condition) (p : Slip) (scratch : ℕ) (c : State) (h : History) → Inv (mk number last w b offs k) c es h
        → Wp m (Post es) (books m (mk number last w b offs k) p places (length es) scratch) c h
    books_ok number last w b offs ready p scratch c h i = ⊎_elim (λ y. rw y i) (λ y. rw y i) (cases_Bool (book_limits places (length es) scratch))
    books_ok number last w b offs unfinished p scratch c h i = ⊎_elim (λ y. rw y i) (λ y. rw y i) (cases_Bool (book_limits places (length es) scratch))
    books_ok number last w b offs in_doubt p scratch c h i = ⊎_elim (λ y. rw y i) (λ y. rw y i) (cases_Bool (book_limits places (length es) scratch))
    books_ok number last w b offs (slip_out n) p scratch c h i =
        ⊎_elim (λ y. rw y (
        ⊎_elim (λ z. rw z (
        ⊎_elim (λ x. rw x i) (λ x. rw x (enters_ok number last w b offs n c p h (eqb-true _ _ (and_parts _ _ z).1) (space y x) i)) (cases_Bool (eqb (length es) places))))
        (λ z. rw z i) (cases_Bool (eqb p.meter number && eqb p.draw n)))) (λ y. rw y i) (cases_Bool (book_limits places (length es) scratch))
      where
        space : book_limits places (length es) scratch ≡ true → eqb (length es) places ≡ false → length es < places
        space y x =
            let a = (and_parts (leb 1 places && leb places 4096 && leb (length es) places) (leb 32 scratch) y).0 in
            let b = leb-true _ _ (and_parts (leb 1 places && leb places 4096) (leb (length es) places) a).1 in
            let ne = eqb-false _ _ x in
            omega arith

    writes_off_ok : (number last : ℕ) (w : Wanted) (b : Bool) (offs : ℕ) (k : Condition) (p : Slip) (c : State) (h : History) → Inv (mk number last w b offs k) c es h
        → Wp m (Post es) (writes_off (mk number last w b offs k) p) c h
    writes_off_ok number last w b offs ready p c h i = i
    writes_off_ok number last w b offs unfinished p c h i = i
    writes_off_ok number last w b offs in_doubt p c h i = i
    writes_off_ok number last w b offs (slip_out n) p c h (k, s, is, is', l, kept, same, mark) =
        ⊎_elim (λ z. rw z (subst (λ x. Kept m places before x (offs + 1) w None c es (written_off ∷ h)) (sym is) (keep_written_off m places s (omega arith) kept), same, mark))
        (λ z. rw z (k, s, is, is', l, kept, same, mark))
        (cases_Bool (eqb p.meter number && eqb p.draw n))

    rewant : {last offs : ℕ} {w : Wanted} {u : Option Stretch} {c : State} {h : History} (v : Wanted) → m.offers v ≡ true → Kept m places before last offs w u c es h
        → Kept m places before last offs v u c es h
    rewant v ok k = record {
      xs = k.xs;
      o = k.o;
      chip = k.chip;
      account_is = k.account_is;
      opened = k.opened;
      image_ok = k.image_ok;
      waiting = k.waiting;
      wanted_ok =
          ok;
      booked = k.booked;
    }

    rewant_inv : (k : Condition) (last offs : ℕ) (w : Wanted) (b : Bool) (c : State) (h : History) (v : Wanted) → m.offers v ≡ true → Standing k last offs w b c es h
        → Standing k last offs v b c es h
    rewant_inv ready last offs w b c h v ok i = (rewant v ok i.0, i.1, i.2)
    rewant_inv unfinished last offs w b c h v ok i = (rewant v ok i.0, i.1)
    rewant_inv in_doubt last offs w b c h v ok (inl i) = inl (rewant v ok i.0, i.1)
    rewant_inv in_doubt last offs w b c h v ok (inr i) = inr (i.0, rewant v ok i.1, i.2, i.3)
    rewant_inv (slip_out n) last offs w b c h v ok i = (i.0, i.1, i.2, i.3, i.4, rewant v ok i.5, i.6, i.7)

    sets_up_ok : (t : Meter) (v : Wanted) (c : State) (h : History) → Inv t c es h → Wp m (Post es) (sets_up m t v) c h
    sets_up_ok t v c h i =
        ⊎_elim (λ y. rw y (rewant_inv t.condition t.last t.write_offs t.wanted t.mark c h v y i)) (λ y. rw y i) (cases_Bool (m.offers v))

    -- a look's reads change nothing
    module _ (serial last : ℕ) (w : Wanted) (b : Bool) (offs : ℕ) (c : State) where
      abbrev looker : Meter
      looker = mk serial last w b offs ready

      look_on : {h : History} (a k : ℕ) → reacts m c (read a k) ≡ does c (reply m c a k) → Inv looker c es h → Inv looker c es (carried_out (read a k) ∷ h)
      look_on a k e i = (keep_read None a k e i.0, i.1, i.2)

      reads_at_ok : (p : ℕ × ℕ) (f : List ℕ → Way) (h : History) → Inv looker c es h → ((bs : List ℕ) (h' : History) → Inv looker c es h' → Wp m (Post es) (f bs) c h')
          → Wp m (Post es) (reads_at looker p f) c h
      reads_at_ok p f h i g = went_read m c (λ e. g _ _ (look_on p.0 p.1 e i)) (λ x. i) i (λ e. look_on p.0 p.1 e i)

      sees_ok : (ch q : ℕ) (h : History) → Inv looker c es h → Wp m (Post es) (sees m looker ch q) c h
      sees_ok ch q h i = reads_at_ok (m.code_at ch q, 2) _ h i
          (λ bs h' i'. by_cond m (Post es) (eqb q 0) _ _ c h' (λ y. i')
          (λ y. reads_at_ok m.polarity_at (λ gs. ends (looker, looked (millivolts (in_mask (m.two_way_in (number gs)) (ch - 1)) (number bs)))) h' i' (λ gs h'' i''. i'')))

    looks_ok : (number last : ℕ) (w : Wanted) (b : Bool) (offs : ℕ) (k : Condition) (ch q : ℕ) (c : State) (h : History) → Inv (mk number last w b offs k) c es h
        → Wp m (Post es) (looks m (mk number last w b offs k) ch q) c h
    looks_ok number last w b offs ready ch q c h i =
        let seen = does_refresh_v m c law.two_commands in
        let not_refresh : is_refresh m (send m.refresh_v) ≡ false = ne_eqb m.refresh_v m.refresh (λ e. law.two_commands (sym e)) in
        let i' : Standing ready last offs w b (latched c) es (carried_out (send m.refresh_v) ∷ h) =
        (keep_latched m places (send m.refresh_v) [] seen not_refresh i.1 i.0, refl, ap (λ x. m.mark x) i.1 ∙ i.2) in
        ⊎_elim (λ y. rw y (went_exactly m c (latched c) [] seen (sees_ok number last w b offs (latched c) ch q _ i') (λ x. i) i i')) (λ y. rw y i)
        (cases_Bool (look_limits m ch q))
    looks_ok number last w b offs unfinished ch q c h i = ⊎_elim (λ y. rw y i) (λ y. rw y i) (cases_Bool (look_limits m ch q))
    looks_ok number last w b offs in_doubt ch q c h i = ⊎_elim (λ y. rw y i) (λ y. rw y i) (cases_Bool (look_limits m ch q))
    looks_ok number last w b offs (slip_out n) ch q c h i = ⊎_elim (λ y. rw y i) (λ y. rw y i) (cases_Bool (look_limits m ch q))

    bill_ok : (b : Bill) (t : Meter) (c : State) (h : History) → Inv t c es h → Post es (t, bill_answer b) c h
    bill_ok (bill_of z n k) t c h i = i
    bill_ok (no_bill r) t c h i = i

  pub call_ok : (q : Call) (t : Meter) (es : List Entry) (c : State) (h : History) → Inv t c es h → Wp m (Post es) (dialogue m q t places es) c h
  call_ok (set_up v) t es c h i = sets_up_ok es t v c h i
  call_ok draw t es c h i = draws_ok es t.meter t.last t.wanted t.mark t.write_offs t.condition c h i
  call_ok (book p n) t es c h i = books_ok es t.meter t.last t.wanted t.mark t.write_offs t.condition p n c h i
  call_ok (write_off p) t es c h i = writes_off_ok es t.meter t.last t.wanted t.mark t.write_offs t.condition p c h i
  call_ok (look ch q) t es c h i = looks_ok es t.meter t.last t.wanted t.mark t.write_offs t.condition ch q c h i
  call_ok (bill_for kind ch u) t es c h i = bill_ok es (bill kind places es ch u) t c h i
