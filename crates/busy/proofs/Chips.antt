-- Cycles and the requests that do not latch pass each other.
use Rattle.std.proofs.Common.{◌≡◌, ℕ, Bool, true, false, cond, eqb, ltb, List, [], ◌∷◌, length, Some, None, Option, sym, refl, ap, ◌∙◌, subst, ap₂}
use Rattle.chip.specs.Chip.{Reaction, Request, all_off, bad_length, cycled, does, good_length, no_acknowledge, ran, reacts, read, reply, takes, with_held, write}
use Rattle.chip.specs.Datasheet.{Datasheet}
use Rattle.chip.specs.Registers.{number}
use Rattle.chip.specs.declared.state.Codes.{Codes}
use Rattle.chip.specs.declared.state.Held.{Held}
use Rattle.chip.specs.declared.state.Running.{Running}
use Rattle.chip.specs.declared.state.Settings.{Settings}
use Rattle.chip.specs.declared.state.State.{State}
use Rattle.account.specs.History.{chip_then}
use Rattle.wire.specs.Wire.{Reply, Went, answered, broke_after, broke_before, broken, by_chip, by_wire, done}
use Rattle.busy.specs.Plain.{cycled_by}

-- a chip with another running part
abbrev pub on_with : State → Running → State
on_with c r = record c { running = r }

-- what a request that does not latch makes of a chip with another running part
abbrev moved : Running → Reaction → Reaction
moved r bad_length = bad_length
moved r no_acknowledge = no_acknowledge
moved r (does c bs) = does (on_with c r) bs

same_does : {c c' : State} {bs bs' : List ℕ} → does c bs ≡ does c' bs' → (c ≡ c') × (bs ≡ bs')
same_does e = (cc, cc)

module _ (m : Datasheet) where
  -- the running part after a cycle, and after some
  abbrev pub runs_on : Settings → List Codes → Running → Running
  runs_on s ks r = cond (all_off m s) r (ran m s ks r)

  abbrev pub runs_by : Settings → List (List Codes) → Running → Running
  runs_by s [] r = r
  runs_by s (ks ∷ kss) r = runs_by s kss (runs_on s ks r)

  pub cycled_is : (ks : List Codes) (c : State) → cycled m ks c ≡ on_with c (runs_on c.active ks c.running)
  cycled_is ks c = on (all_off m c.active)
    where
      on : (b : Bool) → cond b c (on_with c (ran m c.active ks c.running)) ≡ on_with c (cond b c.running (ran m c.active ks c.running))
      on true = refl
      on false = refl

  pub cycled_by_is : (kss : List (List Codes)) (c : State) → cycled_by m kss c ≡ on_with c (runs_by c.active kss c.running)
  cycled_by_is [] c = refl
  cycled_by_is (ks ∷ kss) c = ap (cycled_by m kss) (cycled_is ks c) ∙ cycled_by_is kss (on_with c (runs_on c.active ks c.running))

  pub cycled_by_active : (kss : List (List Codes)) (c : State) → (cycled_by m kss c).active ≡ c.active
  cycled_by_active kss c = ap (λ x. x.active) (cycled_by_is kss c)

  pub cycled_by_image : (kss : List (List Codes)) (c : State) → (cycled_by m kss c).image ≡ c.image
  cycled_by_image kss c = ap (λ x. x.image) (cycled_by_is kss c)

  -- writes
  pub write_moves : (c : State) (r : Running) (a : ℕ) (bs : List ℕ) → reacts m (on_with c r) (write a bs) ≡ moved r (reacts m c (write a bs))
  write_moves c r a bs = on (m.keeps a (number bs) c.held)
    where
      taken : (b : Bool) (s : Held) → cond b (does (with_held (on_with c r) s) []) no_acknowledge ≡ moved r (cond b (does (with_held c s) []) no_acknowledge)
      taken true s = refl
      taken false s = refl

      on : (o : Option Held) → takes m (on_with c r) a bs o ≡ moved r (takes m c a bs o)
      on None = refl
      on (Some s) = taken (eqb (length bs) (m.width a)) s

  pub write_keeps : (c : State) (a : ℕ) (bs : List ℕ) → ((chip_then c (reacts m c (write a bs))).active ≡ c.active) × ((chip_then c (reacts m c (write a bs))).running ≡ c.running)
  write_keeps c a bs = on (m.keeps a (number bs) c.held)
    where
      taken : (b : Bool) (s : Held) → ((chip_then c (cond b (does (with_held c s) []) no_acknowledge)).active ≡ c.active)
          × ((chip_then c (cond b (does (with_held c s) []) no_acknowledge)).running ≡ c.running)
      taken true s = (refl, refl)
      taken false s = (refl, refl)

      on : (o : Option Held) → ((chip_then c (takes m c a bs o)).active ≡ c.active) × ((chip_then c (takes m c a bs o)).running ≡ c.running)
      on None = (refl, refl)
      on (Some s) = taken (eqb (length bs) (m.width a)) s

  moved_then : (c : State) (r : Running) (x : Reaction) → chip_then (on_with c r) (moved r x) ≡ on_with (chip_then c x) r
  moved_then c r bad_length = refl
  moved_then c r no_acknowledge = refl
  moved_then c r (does c' bs) = refl

  -- a cycle behind a write is a cycle before it
  pub cycle_past_write : (ks : List Codes) (c : State) (a : ℕ) (bs : List ℕ) → cycled m ks (chip_then c (reacts m c (write a bs)))
      ≡ chip_then (cycled m ks c) (reacts m (cycled m ks c) (write a bs))
  cycle_past_write ks c a bs =
      let k = write_keeps c a bs in
      let r = runs_on c.active ks c.running in
      let x = chip_then c (reacts m c (write a bs)) in
      cycled_is ks x ∙ ap₂ (λ s p. on_with x (runs_on s ks p)) k.0 k.1 ∙ sym (moved_then c r (reacts m c (write a bs))) ∙ ap (chip_then (on_with c r)) (sym (write_moves c r a bs))
      ∙ sym (ap (λ y. chip_then y (reacts m y (write a bs))) (cycled_is ks c))

  crossed_write : (c c' : State) (r : Running) (a : ℕ) (bs : List ℕ) (b : Bool) (x : Reply) → Went m c (write a bs) b x c' → Went m (on_with c r) (write a bs) b x (on_with c' r)
  crossed_write c c' r a bs b x (done e) = done (write_moves c r a bs ∙ ap (moved r) e)
  crossed_write c c' r a bs b x by_wire = by_wire
  crossed_write c c' r a bs b x (by_chip e) = by_chip (write_moves c r a bs ∙ ap (moved r) e)
  crossed_write c c' r a bs b x broke_before = broke_before
  crossed_write c c' r a bs b x (broke_after e) = broke_after (write_moves c r a bs ∙ ap (moved r) e)

  write_leaves : (c c' : State) (a : ℕ) (bs : List ℕ) (b : Bool) (x : Reply) → Went m c (write a bs) b x c' → (c'.active ≡ c.active) × (c'.running ≡ c.running)
  write_leaves c c' a bs b x (done e) = let k = write_keeps c a bs in (ap (λ y. (chip_then c y).active) (sym e) ∙ k.0, ap (λ y. (chip_then c y).running) (sym e) ∙ k.1)
  write_leaves c c' a bs b x by_wire = (refl, refl)
  write_leaves c c' a bs b x (by_chip e) = (refl, refl)
  write_leaves c c' a bs b x broke_before = (refl, refl)
  write_leaves c c' a bs b x (broke_after e) = let k = write_keeps c a bs in (ap (λ y. (chip_then c y).active) (sym e) ∙ k.0, ap (λ y. (chip_then c y).running) (sym e) ∙ k.1)

  -- a write goes the same way after some cycles as before them
  pub write_crosses : (kss : List (List Codes)) (c c' : State) (a : ℕ) (bs : List ℕ) (b : Bool) (x : Reply) → Went m c (write a bs) b x c'
      → Went m (cycled_by m kss c) (write a bs) b x (cycled_by m kss c')
  write_crosses kss c c' a bs b x w =
      let l = write_leaves c c' a bs b x w in
      let r = runs_by c.active kss c.running in
      let to : cycled_by m kss c' ≡ on_with c' r = cycled_by_is kss c' ∙ ap₂ (λ s p. on_with c' (runs_by s kss p)) l.0 l.1 in
      subst (λ y. Went m y (write a bs) b x (cycled_by m kss c')) (sym (cycled_by_is kss c))
      (subst (λ y. Went m (on_with c r) (write a bs) b x y) (sym to) (crossed_write c c' r a bs b x w))

  -- reads: whether one is taken does not depend on the chip, only what it brings
  abbrev brings : State → (start n : ℕ) → Reaction → Reaction
  brings d a n bad_length = bad_length
  brings d a n no_acknowledge = no_acknowledge
  brings d a n (does c bs) = does d (reply m d a n)

  pub read_brings : (c d : State) (a n : ℕ) → reacts m d (read a n) ≡ brings d a n (reacts m c (read a n))
  read_brings c d a n = on (good_length n) (m.command a) (ltb 0 (m.width a))
    where
      on : (g k w : Bool) → cond g (cond k no_acknowledge (cond w (does d (reply m d a n)) no_acknowledge)) bad_length
          ≡ brings d a n (cond g (cond k no_acknowledge (cond w (does c (reply m c a n)) no_acknowledge)) bad_length)
      on true true w = refl
      on true false true = refl
      on true false false = refl
      on false k w = refl

  pub read_keeps : (c : State) (a n : ℕ) → chip_then c (reacts m c (read a n)) ≡ c
  read_keeps c a n = ap (chip_then c) (read_brings c c a n) ∙ on (reacts m c (read a n))
    where
      on : (x : Reaction) → chip_then c (brings c a n x) ≡ c
      on bad_length = refl
      on no_acknowledge = refl
      on (does c' bs) = refl

  -- a read goes on alike at chips of one image and one setting in force
  abbrev pub SameOn : {A : Type 0} (start n : ℕ) → (Reply → A) → Type 0
  SameOn a n f = (c d : State) → c.active ≡ d.active → c.image ≡ d.image → f (answered (reply m c a n)) ≡ f (answered (reply m d a n))

  -- what a read of one chip would have come to at another
  pub record AtAnother {A : Type 0} (c : State) (d d' : State) (q : Request) (b : Bool) (x : Reply) (f : Reply → A) : Type 0 where
    pub leaves : d' ≡ d
    pub reply : Reply
    pub went : Went m c q b reply c
    pub same : f reply ≡ f x

  pub read_at : {A : Type 0} (c d d' : State) (a n : ℕ) (b : Bool) (x : Reply) (f : Reply → A) → SameOn a n f → c.active ≡ d.active → c.image ≡ d.image
      → Went m d (read a n) b x d' → AtAnother c d d' (read a n) b x f
  read_at c d d' a n b x f s p g (done {bs = bs} e) =
      let k = same_does (sym e ∙ read_brings d d a n ∙ ap (brings d a n) e) in
      record {
        leaves = k.0;
        reply = answered (reply m c a n);
        went = done (read_brings d c a n ∙ ap (brings c a n) e);
        same = s c d p g ∙ ap (λ y. f (answered y)) (sym k.1);
      }
  read_at c d d' a n b x f s p g by_wire = record { leaves = refl; reply = _; went = by_wire; same = refl }
  read_at c d d' a n b x f s p g (by_chip e) = record { leaves = refl; reply = _; went = by_chip (read_brings d c a n ∙ ap (brings c a n) e); same = refl }
  read_at c d d' a n b x f s p g broke_before = record { leaves = refl; reply = _; went = broke_before; same = refl }
  read_at c d d' a n b x f s p g (broke_after e) =
      let k = same_does (sym e ∙ read_brings d d a n ∙ ap (brings d a n) e) in
      record { leaves = k.0; reply = broken; went = broke_after (read_brings d c a n ∙ ap (brings c a n) e); same = refl }
