-- Every run is accounted for.
use Rattle.std.proofs.Common.{◌≡◌, ℕ, ◌^◌, ◌<◌, ◌≤◌, Bool, false, List, [], ◌∷◌, Some, None, Option, sym, refl, ap, ◌∙◌, subst, inl, inr, arith}
use Rattle.std.proofs.lemmas.List.{append-nil}
use Rattle.account.proofs.Billing.{billable}
use Rattle.account.proofs.Conserving.{conserved}
use Rattle.account.proofs.Keeping.{Kept, UpTo, Waiting, front}
use Rattle.account.proofs.Runs.{run_ok}
use Rattle.account.proofs.Serials.{serial_kept}
use Rattle.account.proofs.Talks.{Standing, mk}
use Rattle.account.specs.Dialogue.{Condition, Meter, in_doubt, ready, slip_out, unfinished}
use Rattle.account.specs.History.{Closed, Fate, History, Stretch, got_entry, waits, was_lost, was_written_off, with_fate}
use Rattle.chip.specs.Laws.{Every, Lawful}
use Rattle.chip.specs.Datasheet.{Datasheet, Wanted}
use Rattle.chip.specs.declared.entry.Entry.{Entry}
use Rattle.chip.specs.declared.state.State.{State}
use Rattle.chip.specs.declared.state.Image.{Image}
use Rattle.chip.specs.Registers.{number}
use Rattle.account.specs.Statements.{Accounted, EveryRun, Fated, Statements, HeldAt, Matches, Numbered, Rising, RunsWell, Settled, Steady, WaitsWell, given, newest_waits, off_count}

module _ (m : Datasheet) where
  all_settled : (c : State) (xs : List Closed) → Every (Fated m) xs → Settled m c xs
  all_settled c [] f = tt
  all_settled c (x ∷ xs) f = (on x.fate f.0, f.1)
    where
      on : (g : Fate) → Fated m (record { stretch = x.stretch; left = x.left; fate = g }) → elim g as (λ _. Type 0) [
        | waits ↦ WaitsWell m c (with_fate x g)
        | got_entry e ↦ Matches m x.stretch e
        | was_written_off ↦ Unit {0}
        | was_lost ↦ ⊥
      ]
      on waits k = absurd k
      on (got_entry e) k = k
      on was_written_off k = tt
      on was_lost k = absurd k

  settled_so : (u : Option Stretch) (c : State) (xs : List Closed) → Every (Fated m) xs → Waiting m u c.image → Settled m c (front u c.image xs)
  settled_so None c xs f w = all_settled c xs f
  settled_so (Some s) c xs f w = ((refl, w), f)

  given_so : (u : Option Stretch) (g : Image) (xs : List Closed) → given m (front u g xs) ≡ given m xs
  given_so None g xs = refl
  given_so (Some s) g xs = append-nil (given m xs)

  offs_so : (u : Option Stretch) (g : Image) (xs : List Closed) → off_count m (front u g xs) ≡ off_count m xs
  offs_so None g xs = refl
  offs_so (Some s) g xs = omega arith

  rising_so : (n : ℕ) (es : List Entry) (b : ℕ) → UpTo n es b → Rising m n es
  rising_so n [] b p = tt
  rising_so n (e ∷ es) b p = (p.0, rising_so e.draw es b p.1)

  none_waits : (xs : List Closed) → Every (Fated m) xs → newest_waits m xs ≡ false
  none_waits [] f = refl
  none_waits (x ∷ xs) f = on x.fate f.0
    where
      on : (g : Fate) → Fated m (record { stretch = x.stretch; left = x.left; fate = g }) → newest_waits m (record { stretch = x.stretch; left = x.left; fate = g } ∷ xs)
          ≡ false
      on waits k = absurd k
      on (got_entry e) k = refl
      on was_written_off k = refl
      on was_lost k = absurd k

  front_numbered : (before : ℕ) (u : Option Stretch) (g : Image) (xs : List Closed) → Numbered m before xs → Numbered m before (front u g xs)
  front_numbered before None g xs n = n
  front_numbered before (Some s) g xs n = (tt, n)

  front_steady : {places before last offs : ℕ} {w : Wanted} {c : State} {es : List Entry} {h : History} (u : Option Stretch) → (k : Kept m places before last offs w u c es h)
      → Every (λ x. Steady m x.stretch) (front u c.image k.xs)
  front_steady None k = k.booked.steadies
  front_steady (Some s) k = ((k.waiting 0).steady, k.booked.steadies)

  over_o : {places before last offs : ℕ} {w : Wanted} {u : Option Stretch} {c : State} {es : List Entry} {h : History} → (k : Kept m places before last offs w u c es h)
      → Every (λ x. x.in_force ≡ k.o.opened_with) k.o.moments
  over_o k = subst (λ s. Every (λ x. x.in_force ≡ s) k.o.moments) k.opened.with k.opened.steady

  runs : {places before last offs : ℕ} {w : Wanted} {u : Option Stretch} {c : State} {es : List Entry} {h : History} → (k : Kept m places before last offs w u c es h)
      → RunsWell m c k.o
  runs k = record { with = k.opened.with; steady = over_o k; flags = k.opened.tracks.flag; count = k.opened.tracks.count; sums = k.opened.tracks.sums }

  accounted : {places before last : ℕ} {t : Meter} {c : State} {es : List Entry} {h : History} (u : Option Stretch)
      → (k : Kept m places before last t.write_offs t.wanted u c es h) → HeldAt m before t.last (front u c.image k.xs) t.condition → Accounted m before t c es h
  accounted {places} {before} {last} {t} {c} {es} {h} u k hd = record {
    no_strays = ap (λ a. a.strays) k.account_is;
    settled = rw k.account_is (settled_so u c k.xs k.booked.fated k.waiting);
    the_book = rw k.account_is (k.booked.book ∙ sym (given_so u c.image k.xs));
    rising = rising_so before es last k.booked.rising;
    numbered = rw k.account_is (front_numbered before u c.image k.xs k.booked.numbered);
    held = rw k.account_is hd;
    written_off = rw k.account_is (k.booked.offs_is ∙ sym (offs_so u c.image k.xs));
    all_steady = rw k.account_is (front_steady u k);
  }

  module _ (law : Lawful m) (places number before : ℕ) where
    all_of : (last : ℕ) (t : Meter) → t.meter ≡ number → (c : State) (es : List Entry) (h : History) (u : Option Stretch)
        → (k : Kept m places before last t.write_offs t.wanted u c es h) → last ≤ t.last → t.last < 2 ^ 32
        → HeldAt m before t.last (front u c.image k.xs) t.condition → Statements m places number before t c es h
    all_of last t serial c es h u k le small hd = record {
      serial = serial;
      chip = k.chip;
      accounted = accounted {t = t} u k hd;
      running = rw k.account_is (runs k);
      conserved = conserved m u k;
      billable = billable m law u k;
      room = k.booked.room;
      numbers = small;
      few_write_offs = let p = k.booked.few in omega arith;
      offered = k.wanted_ok;
    }

    pub found : (last offs : ℕ) (w : Wanted) (b : Bool) (c : State) (es : List Entry) (h : History) (k : Condition) → Standing m law places before k last offs w b c es h
        → Statements m places number before (mk number last w b offs k) c es h
    found last offs w b c es h ready i =
        all_of _ (mk number last w b offs ready) refl c es h None i.0 (omega arith) i.0.booked.small (none_waits i.0.xs i.0.booked.fated, i.0.booked.exact)
    found last offs w b c es h unfinished i =
        all_of _ (mk number last w b offs unfinished) refl c es h None i.0 (omega arith) i.0.booked.small (none_waits i.0.xs i.0.booked.fated, i.0.booked.exact)
    found last offs w b c es h in_doubt (inl i) = all_of _ (mk number last w b offs in_doubt) refl c es h None i.0 (omega arith) i.0.booked.small (let p =
        i.0.booked.exact in let q = none_waits i.0.xs i.0.booked.fated in rw q (omega arith))
    found last offs w b c es h in_doubt (inr i) = all_of _ (mk number last w b offs in_doubt) refl c es h (Some i.0) i.1 (omega arith) i.1.booked.small (let p =
        i.1.booked.exact in omega arith)
    found last offs w b c es h (slip_out n) i = all_of _ (mk number last w b offs (slip_out n)) refl c es h (Some i.1) i.5 (let q =
        i.2 in omega arith) i.4 (refl, i.3, (let p = i.5.booked.exact in let q = i.2 in omega arith))

pub every_run : EveryRun
every_run m law places number last t c es h l r =
    subst (λ n. Statements m places n last t c es h) (serial_kept m law r) (found m law places t.meter last t.last t.write_offs t.wanted t.mark c es h t.condition
    (run_ok m law l r))
