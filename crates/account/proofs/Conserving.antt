-- Nothing is lost and nothing counted twice.
use Rattle.std.proofs.Common.{◌≡◌, ℕ, ◌<◌, Bool, true, false, not, T, List, [], ◌∷◌, ◌++◌, get_or, ℤ, pos, ◌+ℤ◌, Some, None, Option, sym, refl, ◌∙◌, arith}
use Rattle.std.proofs.lemmas.List.{append-nil}
use Rattle.std.proofs.lemmas.Int.{ints}
use Rattle.std.proofs.lemmas.Bool.{both_ways, cond_both}
use Rattle.account.proofs.Keeping.{Kept, front}
use Rattle.chip.specs.Chip.{entry_of}
use Rattle.account.specs.History.{Account, Closed, Fate, History, Stretch, account, booked, carried_out, cycle_came, got_entry, is_refresh, left_range, overtaken, fate_given, sum_over, waits, was_lost, was_written_off, written_off}
use Rattle.chip.specs.Laws.{Every}
use Rattle.chip.specs.Datasheet.{Datasheet, Wanted}
use Rattle.chip.specs.declared.entry.Entry.{Entry}
use Rattle.chip.specs.declared.state.State.{State}
use Rattle.account.specs.Statements.{Conserved, Fated, Matches, all_products, entry_total, given, part_total, waiting_total, written_off_total}

module _ (m : Datasheet) (i : ℕ) where
  abbrev closed_total : List Closed → ℤ
  closed_total [] = pos 0
  closed_total (x ∷ xs) = sum_over m i x.stretch.moments +ℤ closed_total xs

  abbrev account_total : Account → ℤ
  account_total a = closed_total a.closed +ℤ sum_over m i a.open_stretch.moments

  overtaken_total : (xs : List Closed) → closed_total (overtaken xs) ≡ closed_total xs
  overtaken_total [] = refl
  overtaken_total (x ∷ xs) = on x.fate
    where
      on : (f : Fate) → closed_total (overtaken (record { stretch = x.stretch; left = x.left; fate = f } ∷ xs)) ≡ closed_total (x ∷ xs)
      on waits = refl
      on (got_entry e) = refl
      on was_written_off = refl
      on was_lost = refl

  settled_total : (f : Fate) (xs : List Closed) (o : Stretch) (n : ℕ) → account_total (fate_given f (record { closed = xs; open_stretch = o; strays = n })) ≡ closed_total xs
      +ℤ sum_over m i o.moments
  settled_total f [] o n = refl
  settled_total f (x ∷ xs) o n = on x.fate
    where
      on : (g : Fate) → account_total (fate_given f (record { closed = record { stretch = x.stretch; left = x.left; fate = g } ∷ xs; open_stretch = o; strays = n }))
          ≡ closed_total (x ∷ xs) +ℤ sum_over m i o.moments
      on waits = refl
      on (got_entry e) = refl
      on was_written_off = refl
      on was_lost = refl

  step_cycle : (p a c o : ℤ) → a ≡ c +ℤ o → p +ℤ a ≡ c +ℤ (p +ℤ o)
  step_cycle p a c o e = omega (arith, ints)

  step_refresh : (a c c' o : ℤ) → a ≡ c +ℤ o → c' ≡ c → a ≡ (o +ℤ c') +ℤ pos 0
  step_refresh a c c' o e f = omega (arith, ints)

  history_total : (h : History) → all_products m i h ≡ account_total (account m h)
  history_total [] = refl
  history_total (cycle_came ks ∷ h) = step_cycle _ _ _ _ (history_total h)
  history_total (carried_out q ∷ h) =
      cond_both (is_refresh m q) _ _ (λ a. all_products m i h ≡ account_total a) (λ e. step_refresh _ (closed_total (account m h).closed) _ _ (history_total h)
      (overtaken_total (account m h).closed)) (λ e. history_total h)
  history_total (booked e ∷ h) = history_total h ∙ sym (settled_total (got_entry e) (account m h).closed (account m h).open_stretch (account m h).strays)
  history_total (written_off ∷ h) = history_total h ∙ sym (settled_total was_written_off (account m h).closed (account m h).open_stretch (account m h).strays)

  module _ (l : i < 4) where
    clean : (b : Bool) → T (not b) → b ≡ false
    clean true t = absurd t
    clean false t = refl

    matched : (s : Stretch) (e : Entry) → Matches m s e → T (not (left_range m s.moments)) → get_or e.sums i (pos 0) ≡ sum_over m i s.moments
    matched s e k t = k.sums zero_mark i l
      where
        no : e.spoilt ≡ 1 → ⊥
        no h = both_ways (left_range m s.moments) (clean _ t) (was (left_range m s.moments) (k.marked.0 h))
          where
            was : (b : Bool) → T b → b ≡ true
            was true t = refl
            was false t = absurd t

        zero_mark : e.spoilt ≡ 0
        zero_mark = let r = k.mark_range in let n : e.spoilt ≡ 1 → ⊥ = no in omega arith

    push_total : (es : List Entry) (e : Entry) → entry_total m i (es ++ e ∷ []) ≡ entry_total m i es +ℤ get_or e.sums i (pos 0)
    push_total [] e = omega (arith, ints)
    push_total (x ∷ es) e = let h = push_total es e in omega (arith, ints)

    abbrev Clean : Closed → Type 0
    Clean x = T (not (left_range m x.stretch.moments))

    step_got : (g w c e s t : ℤ) → g +ℤ w ≡ c → e ≡ s → t ≡ g +ℤ e → t +ℤ (pos 0 +ℤ w) ≡ s +ℤ c
    step_got g w c e s t p q r = omega (arith, ints)

    step_off : (g w c s : ℤ) → g +ℤ w ≡ c → g +ℤ (s +ℤ w) ≡ s +ℤ c
    step_off g w c s p = omega (arith, ints)

    -- the entries given and what was written off come to what the stretches had
    fated_total : (xs : List Closed) → Every (Fated m) xs → Every Clean xs → entry_total m i (given m xs) +ℤ written_off_total m i xs ≡ closed_total xs
    fated_total [] f u = refl
    fated_total (x ∷ xs) f u = on x.fate f.0 (fated_total xs f.1 u.1)
      where
        on : (g : Fate) → Fated m (record { stretch = x.stretch; left = x.left; fate = g }) → entry_total m i (given m xs) +ℤ written_off_total m i xs ≡ closed_total xs
            → entry_total m i (given m (record { stretch = x.stretch; left = x.left; fate = g } ∷ xs)) +ℤ written_off_total m i (record {
              stretch = x.stretch;
              left =
                  x.left;
              fate = g;
            } ∷ xs) ≡ closed_total (x ∷ xs)
        on waits k h = absurd k
        on (got_entry e) k h = step_got _ _ _ _ _ _ h (matched x.stretch e k u.0) (push_total (given m xs) e)
        on was_written_off k h = rw append-nil (step_off _ _ _ _ h)
        on was_lost k h = absurd k

    sum_up : (e g w c o p a : ℤ) → e +ℤ w ≡ c → p ≡ o → a ≡ c +ℤ o → (e +ℤ pos 0) +ℤ (p +ℤ w) ≡ a
    sum_up e g w c o p a q r s = omega (arith, ints)

    sum_up_waiting : (e s t w c o p a : ℤ) → e +ℤ w ≡ c → p ≡ o → t ≡ s → a ≡ (s +ℤ c) +ℤ o → (e +ℤ t) +ℤ (p +ℤ (pos 0 +ℤ w)) ≡ a
    sum_up_waiting e s t w c o p a q r u v = omega (arith, ints)

    no_waiting : (c : State) (xs : List Closed) → Every (Fated m) xs → waiting_total m i c xs ≡ pos 0
    no_waiting c [] f = refl
    no_waiting c (x ∷ xs) f = on x.fate f.0
      where
        on : (g : Fate) → Fated m (record { stretch = x.stretch; left = x.left; fate = g }) → waiting_total m i c (record { stretch = x.stretch; left = x.left; fate = g } ∷ xs)
            ≡ pos 0
        on waits k = absurd k
        on (got_entry e) k = refl
        on was_written_off k = refl
        on was_lost k = absurd k

    total_at : {places before last offs : ℕ} {w : Wanted} {c : State} {es : List Entry} {h : History} (u : Option Stretch) → (k : Kept m places before last offs w u c es h)
        → Every Clean (front u c.image k.xs) → T (not (left_range m k.o.moments))
        → ((entry_total m i (given m k.xs) +ℤ waiting_total m i c (front u c.image k.xs))
        +ℤ (part_total m i c.active c.running +ℤ written_off_total m i (front u c.image k.xs)))
        ≡ account_total (record { closed = front u c.image k.xs; open_stretch = k.o; strays = 0 })
    total_at {c = c} None k us uo =
        rw (no_waiting c k.xs k.booked.fated) (sum_up (entry_total m i (given m k.xs)) (pos 0) (written_off_total m i k.xs) _ _ _ _
        (fated_total k.xs k.booked.fated us) (k.opened.tracks.sums (clean _ uo) i l) refl)
    total_at {c = c} (Some s) k us uo = sum_up_waiting (entry_total m i (given m k.xs)) (sum_over m i s.moments) _ (written_off_total m i k.xs) _ _ _ _
        (fated_total k.xs k.booked.fated us.1) (k.opened.tracks.sums (clean _ uo) i l) (matched s (entry_of m c.image 0) (k.waiting 0) us.0) refl

pub conserved : (m : Datasheet) {places before last offs : ℕ} {w : Wanted} {c : State} {es : List Entry} {h : History} (u : Option Stretch) → Kept m places before last offs w u c es h
    → Conserved m c es h
conserved m {c = c} {h = h} u k unspoilt i l =
    let un : Every (λ x. T (not (left_range m x.stretch.moments))) (front u c.image k.xs) × T (not (left_range m k.o.moments)) = rw k.account_is at unspoilt in
    rw (history_total m i h, k.booked.book, k.account_is) (total_at m i l u k un.0 un.1)
