-- Histories that come to the same.
use Rattle.std.proofs.Common.{◌≡◌, ℕ, Bool, true, false, cond, List, [], ◌∷◌, ◌+ℤ◌, sym, refl, ap, ◌∙◌, ap₂}
use Rattle.chip.specs.Chip.{Request, cycled, reacts, read, send, write}
use Rattle.chip.specs.Datasheet.{Datasheet}
use Rattle.chip.specs.Laws.{Every}
use Rattle.chip.specs.declared.entry.Entry.{Entry}
use Rattle.chip.specs.declared.state.Codes.{Codes}
use Rattle.chip.specs.declared.state.State.{State}
use Rattle.account.specs.Dialogue.{Answer, billed, entered, given_up, handed, looked, refused, stored}
use Rattle.account.specs.History.{Account, Closed, Fate, Happening, History, Stretch, account, booked, carried_in, carried_out, chip_after, chip_then, closes_on, cycle_came, cycle_on, fate_given, got_entry, happened_after, is_refresh, product_at, waits, was_lost, was_written_off, written_off}
use Rattle.account.specs.Statements.{all_products}
use Rattle.account.specs.Steps.{Step}
use Rattle.busy.proofs.Chips.{cycle_past_write, read_keeps, write_keeps}
use Rattle.busy.specs.Plain.{Alike, came}

-- a request that does not latch
abbrev pub Still : Request → Type 0
Still (read a n) = Unit {0}
Still (write a bs) = Unit {0}
Still (send a) = ⊥

module _ (m : Datasheet) where
  pub alike : (h : History) → Alike m h h
  alike h = record { cycles = refl; rest = refl; chip = refl; accounts = refl; products = λ i. refl }

  pub alike_then : {h h' h'' : History} → Alike m h h' → Alike m h' h'' → Alike m h h''
  alike_then a b = record {
    cycles = a.cycles ∙ b.cycles;
    rest = a.rest ∙ b.rest;
    chip = a.chip ∙ b.chip;
    accounts = a.accounts ∙ b.accounts;
    products = λ i. a.products i ∙ b.products i;
  }

  -- the same happens to both
  pub alike_on : {h h' : History} (x : Happening) → Alike m h h' → Alike m (x ∷ h) (x ∷ h')
  alike_on (cycle_came ks) a = record {
    cycles = ap (λ x. ks ∷ x) a.cycles;
    rest = a.rest;
    chip = ap (cycled m ks) a.chip;
    accounts = ap₂ (cycle_on m ks) a.accounts a.chip;
    products = λ i. ap₂ (λ c z. product_at m i (record { in_force = c.active; codes = ks }) +ℤ z) a.chip (a.products i);
  }
  alike_on (carried_out q) a = record {
    cycles = a.cycles;
    rest = ap (λ x. carried_out q ∷ x) a.rest;
    chip = ap (λ c. chip_then c (reacts m c q)) a.chip;
    accounts = ap₂ (λ x c. cond (is_refresh m q) (closes_on m x (chip_then c (reacts m c q))) x) a.accounts a.chip;
    products = a.products;
  }
  alike_on (booked e) a = record {
    cycles = a.cycles;
    rest = ap (λ x. booked e ∷ x) a.rest;
    chip = a.chip;
    accounts = ap (fate_given (got_entry e)) a.accounts;
    products = a.products;
  }
  alike_on written_off a = record {
    cycles = a.cycles;
    rest = ap (λ x. written_off ∷ x) a.rest;
    chip = a.chip;
    accounts = ap (fate_given was_written_off) a.accounts;
    products = a.products;
  }

  pub alike_came : {h h' : History} (kss : List (List Codes)) → Alike m h h' → Alike m (came kss h) (came kss h')
  alike_came [] a = a
  alike_came (ks ∷ kss) a = alike_came kss (alike_on (cycle_came ks) a)

  alike_step : {h h' : History} (b : Bool) (q : Request) → Alike m h h' → Alike m (cond b (carried_out q ∷ h) h) (cond b (carried_out q ∷ h') h')
  alike_step true q a = alike_on (carried_out q) a
  alike_step false q a = a

  pub alike_carried : {h h' : History} (ss : List Step) → Alike m h h' → Alike m (carried_in ss h) (carried_in ss h')
  alike_carried [] a = a
  alike_carried (s ∷ ss) a = alike_carried ss (alike_step s.carried s.asked a)

  pub alike_happened : {h h' : History} (r : Answer) → Alike m h h' → Alike m (happened_after r h) (happened_after r h')
  alike_happened (entered e) a = alike_on (booked e) a
  alike_happened given_up a = alike_on written_off a
  alike_happened stored a = a
  alike_happened (handed p) a = a
  alike_happened (looked g) a = a
  alike_happened (billed z n k) a = a
  alike_happened (refused r) a = a

  -- what a cycle may pass
  abbrev Passed : Happening → Type 0
  Passed x = (ks : List Codes) (h : History) → Alike m (cycle_came ks ∷ (x ∷ h)) (x ∷ (cycle_came ks ∷ h))

  same_cycle_on : (ks : List Codes) (a : Account) (c d : State) → c.active ≡ d.active → cycle_on m ks a c ≡ cycle_on m ks a d
  same_cycle_on ks a c d e = ap (λ s. record {
    closed = a.closed;
    open_stretch = record { opened_with = a.open_stretch.opened_with; moments = record { in_force = s; codes = ks } ∷ a.open_stretch.moments };
    strays = a.strays;
  }) e

  past_request : (q : Request) → Still q → Passed (carried_out q)
  past_request (read a n) s ks h =
      let e = read_keeps m (chip_after m h) a n in
      record {
        cycles = refl;
        rest = refl;
        chip = ap (cycled m ks) e ∙ sym (read_keeps m (cycled m ks (chip_after m h)) a n);
        accounts = same_cycle_on ks (account m h) (chip_then (chip_after m h) (reacts m (chip_after m h) (read a n))) (chip_after m h) (ap (λ c. c.active) e);
        products = λ i. ap (λ c. product_at m i (record { in_force = c.active; codes = ks }) +ℤ all_products m i h) e;
      }
  past_request (write a bs) s ks h =
      let e = write_keeps m (chip_after m h) a bs in
      record {
        cycles = refl;
        rest = refl;
        chip = cycle_past_write m ks (chip_after m h) a bs;
        accounts = same_cycle_on ks (account m h) (chip_then (chip_after m h) (reacts m (chip_after m h) (write a bs))) (chip_after m h) e.0;
        products = λ i. ap (λ x. product_at m i (record { in_force = x; codes = ks }) +ℤ all_products m i h) e.0;
      }
  past_request (send a) s ks h = absurd s

  fate_past_cycle : (f : Fate) (ks : List Codes) (xs : List Closed) (o : Stretch) (n : ℕ) (c : State)
      → cycle_on m ks (fate_given f (record { closed = xs; open_stretch = o; strays = n })) c
      ≡ fate_given f (cycle_on m ks (record { closed = xs; open_stretch = o; strays = n }) c)
  fate_past_cycle f ks [] o n c = refl
  fate_past_cycle f ks (x ∷ xs) o n c = on x.fate
    where
      on : (g : Fate) → cycle_on m ks (fate_given f (record { closed = record { stretch = x.stretch; left = x.left; fate = g } ∷ xs; open_stretch = o; strays = n })) c
          ≡ fate_given f (cycle_on m ks (record { closed = record { stretch = x.stretch; left = x.left; fate = g } ∷ xs; open_stretch = o; strays = n }) c)
      on waits = refl
      on (got_entry e) = refl
      on was_written_off = refl
      on was_lost = refl

  past_fate : (f : Fate) (ks : List Codes) (h : History) → cycle_on m ks (fate_given f (account m h)) (chip_after m h) ≡ fate_given f (cycle_on m ks (account m h) (chip_after m h))
  past_fate f ks h = let a = account m h in fate_past_cycle f ks a.closed a.open_stretch a.strays (chip_after m h)

  past_booked : (e : Entry) → Passed (booked e)
  past_booked e ks h = record { cycles = refl; rest = refl; chip = refl; accounts = past_fate (got_entry e) ks h; products = λ i. refl }

  past_written_off : Passed written_off
  past_written_off ks h = record { cycles = refl; rest = refl; chip = refl; accounts = past_fate was_written_off ks h; products = λ i. refl }

  came_past : (x : Happening) → Passed x → (kss : List (List Codes)) (h : History) → Alike m (came kss (x ∷ h)) (x ∷ came kss h)
  came_past x p [] h = alike (x ∷ h)
  came_past x p (ks ∷ kss) h = alike_then (alike_came kss (p ks h)) (came_past x p kss (cycle_came ks ∷ h))

  -- cycles before a request that was carried out, or was not
  pub came_past_request : (q : Request) → Still q → (b : Bool) (kss : List (List Codes)) (h : History)
      → Alike m (came kss (cond b (carried_out q ∷ h) h)) (cond b (carried_out q ∷ came kss h) (came kss h))
  came_past_request q s true kss h = came_past (carried_out q) (past_request q s) kss h
  came_past_request q s false kss h = alike (came kss h)

  alike_back : {h h' : History} → Alike m h h' → Alike m h' h
  alike_back a = record { cycles = sym a.cycles; rest = sym a.rest; chip = sym a.chip; accounts = sym a.accounts; products = λ i. sym (a.products i) }

  -- a cycle before some requests that do not latch is one after them
  pub steps_past : (ss : List Step) → Every (λ s. Still s.asked) ss → (ks : List Codes) (h : History)
      → Alike m (carried_in ss (cycle_came ks ∷ h)) (cycle_came ks ∷ carried_in ss h)
  steps_past [] p ks h = alike (cycle_came ks ∷ h)
  steps_past (s ∷ ss) p ks h = alike_then (alike_carried ss (on s.carried)) (steps_past ss p.1 ks (cond s.carried (carried_out s.asked ∷ h) h))
    where
      on : (b : Bool) → Alike m (cond b (carried_out s.asked ∷ (cycle_came ks ∷ h)) (cycle_came ks ∷ h)) (cycle_came ks ∷ cond b (carried_out s.asked ∷ h) h)
      on true = alike_back (past_request s.asked p.0 ks h)
      on false = alike (cycle_came ks ∷ h)

  -- what a call answered, before or after the cycles behind its last transaction
  pub happened_past : (r : Answer) (kss : List (List Codes)) (h : History) → Alike m (happened_after r (came kss h)) (came kss (happened_after r h))
  happened_past (entered e) kss h = alike_back (came_past (booked e) (past_booked e) kss h)
  happened_past given_up kss h = alike_back (came_past written_off past_written_off kss h)
  happened_past stored kss h = alike (came kss h)
  happened_past (handed p) kss h = alike (came kss h)
  happened_past (looked g) kss h = alike (came kss h)
  happened_past (billed z n k) kss h = alike (came kss h)
  happened_past (refused r) kss h = alike (came kss h)
