-- What every run keeps, and how each happening keeps it.
use Rattle.std.proofs.Common.{◌≡◌, ℕ, ◌+◌, ◌^◌, ◌<◌, ◌≤◌, true, false, List, [], ◌∷◌, ◌++◌, length, Some, None, Option, sym, refl, ap, ◌∙◌, ap₂, arith, pow_pos}
use Rattle.std.proofs.lemmas.List.{append-nil, length-append}
use Rattle.account.proofs.Closing.{image_holds, tracks_match, zeroed_sound, zeroed_tracks}
use Rattle.account.proofs.Tracking.{Tracks, cycle_sound, cycle_tracks, cycled_keeps}
use Rattle.book.specs.Bill.{holds}
use Rattle.chip.specs.Chip.{Request, cycled, does, entry_of, fresh_chip, idle, latched, reacts, refreshed, with_held}
use Rattle.account.specs.History.{Closed, Fate, Happening, History, Moment, Stretch, account, booked, carried_out, chip_after, chip_then, closes_on, cycle_came, cycle_on, got_entry, is_refresh, overtaken, fate_given, waits, was_lost, was_written_off, written_off}
use Rattle.chip.specs.Laws.{Every, Lawful, Sound, all_zero}
use Rattle.chip.specs.Datasheet.{Datasheet, Wanted}
use Rattle.chip.specs.declared.entry.Entry.{Entry}
use Rattle.chip.specs.declared.state.State.{State}
use Rattle.chip.specs.declared.state.Codes.{Codes}
use Rattle.chip.specs.declared.state.Held.{Held}
use Rattle.chip.specs.declared.state.Image.{Image}
use Rattle.chip.specs.declared.state.Running.{Running}
use Rattle.chip.specs.declared.state.Settings.{Settings}
use Rattle.account.specs.Statements.{Fated, Matches, Numbered, Steady, given, off_count}

-- the draws rise from n and do not pass b
abbrev pub UpTo : ℕ → List Entry → ℕ → Type 0
UpTo n [] b = n ≤ b
UpTo n (e ∷ es) b = (n < e.draw) × UpTo e.draw es b

-- the closed stretches: the one that waits, if any, and those that have their fate
abbrev pub front : Option Stretch → Image → List Closed → List Closed
front None g xs = xs
front (Some s) g xs = record { stretch = s; left = g; fate = waits } ∷ xs

abbrev pub Waiting : Datasheet → Option Stretch → Image → Type 0
Waiting m None g = Unit {0}
Waiting m (Some s) g = (n : ℕ) → Matches m s (entry_of m g n)

module _ (m : Datasheet) (places : ℕ) where
  -- the settings in force and the running registers against the open stretch
  pub record Opened (s : Settings) (r : Running) (o : Stretch) : Type 0 where
    pub sound : Sound m r
    pub with : s ≡ o.opened_with
    pub steady : Every (λ k. k.in_force ≡ s) o.moments
    pub tracks : Tracks m s r o.moments

  -- the book and the count of write-offs against the stretches that have their fate
  pub record Booked (before last offs : ℕ) (es : List Entry) (xs : List Closed) : Type 0 where
    pub fated : Every (Fated m) xs
    pub book : es ≡ given m xs
    pub rising : UpTo before es last
    pub offs_is : offs ≡ off_count m xs
    pub held : Every (λ e. holds m e ≡ true) es
    pub small : last < 2 ^ 32
    pub room : length es ≤ places
    pub exact : last ≡ before + length xs
    pub numbered : Numbered m before xs
    pub few : offs + before ≤ last
    pub steadies : Every (λ x. Steady m x.stretch) xs

  pub record Kept (before last offs : ℕ) (w : Wanted) (u : Option Stretch) (c : State) (es : List Entry) (h : History) : Type 0 where
    pub xs : List Closed
    pub o : Stretch
    pub chip : c ≡ chip_after m h
    pub account_is : account m h ≡ record { closed = front u c.image xs; open_stretch = o; strays = 0 }
    pub opened : Opened c.active c.running o
    pub image_ok : Sound m c.image.running
    pub waiting : Waiting m u c.image
    pub wanted_ok : m.offers w ≡ true
    pub booked : Booked before last offs es xs

  carried_chip : (q : Request) (c c' : State) (bs : List ℕ) (h : History) → c ≡ chip_after m h → reacts m c q ≡ does c' bs → c' ≡ chip_after m (carried_out q ∷ h)
  carried_chip q c c' bs h e d = ap (chip_then (chip_after m h)) (sym d ∙ ap (λ x. reacts m x q) e)

  every_at : {s s' : Settings} → s ≡ s' → (ms : List Moment) → Every (λ k. k.in_force ≡ s) ms → Every (λ k. k.in_force ≡ s') ms
  every_at e [] p = tt
  every_at e (k ∷ ms) p = (p.0 ∙ e, every_at e ms p.1)

  not_overtaken : (xs : List Closed) → Every (Fated m) xs → overtaken xs ≡ xs
  not_overtaken [] p = refl
  not_overtaken (x ∷ xs) p = go x.fate p.0
    where
      go : (f : Fate) → Fated m (record { stretch = x.stretch; left = x.left; fate = f }) → overtaken (record { stretch = x.stretch; left = x.left; fate = f } ∷ xs)
          ≡ record { stretch = x.stretch; left = x.left; fate = f } ∷ xs
      go waits q = absurd q
      go (got_entry y) q = refl
      go was_written_off q = refl
      go was_lost q = absurd q

  up_to_more : (n : ℕ) (es : List Entry) (b b' : ℕ) → b ≤ b' → UpTo n es b → UpTo n es b'
  up_to_more n [] b b' l p = omega arith
  up_to_more n (e ∷ es) b b' l p = (p.0, up_to_more e.draw es b b' l p.1)

  up_to_push : (n : ℕ) (es : List Entry) (b : ℕ) (e : Entry) → b < e.draw → UpTo n es b → UpTo n (es ++ e ∷ []) e.draw
  up_to_push n [] b e l p = (omega arith, omega arith)
  up_to_push n (x ∷ es) b e l p = (p.0, up_to_push x.draw es b e l p.1)

  every_push : (es : List Entry) (e : Entry) → Every (λ e. holds m e ≡ true) es → holds m e ≡ true → Every (λ e. holds m e ≡ true) (es ++ e ∷ [])
  every_push [] e p q = (q, tt)
  every_push (x ∷ es) e p q = (p.0, every_push es e p.1 q)

  module _ {before last offs : ℕ} {w : Wanted} {c : State} {es : List Entry} {h : History} where
    pub keep_cycle : (u : Option Stretch) (ks : List Codes) → Lawful m → length ks ≡ 4 → Kept before last offs w u c es h
        → Kept before last offs w u (cycled m ks c) es (cycle_came ks ∷ h)
    keep_cycle u ks law l k =
        let same = cycled_keeps m c ks in
        record {
          xs = k.xs;
          o = record { opened_with = k.o.opened_with; moments = record { in_force = c.active; codes = ks } ∷ k.o.moments };
          chip = ap (cycled m ks) k.chip;
          account_is =
              ap₂ (cycle_on m ks) k.account_is (sym k.chip) ∙ ap (λ g. record {
                closed = front u g k.xs;
                open_stretch =
                    record { opened_with = k.o.opened_with; moments = record { in_force = c.active; codes = ks } ∷ k.o.moments };
                strays = 0;
              }) (sym same.2);
          opened = record {
            sound = cycle_sound m law.some_bits law.no_product c ks k.opened.sound;
            with = same.0 ∙ k.opened.with;
            steady = (sym same.0, every_at (sym same.0) k.o.moments k.opened.steady);
            tracks = rw same.0 (cycle_tracks m law.some_bits c ks k.o.moments l k.opened.sound k.opened.tracks);
          };
          image_ok = rw same.2 k.image_ok;
          waiting = rw same.2 k.waiting;
          wanted_ok = k.wanted_ok;
          booked = k.booked;
        }

    -- a read or a write of the settings, carried out
    pub keep_pending : (u : Option Stretch) (q : Request) (s : Held) (bs : List ℕ) → reacts m c q ≡ does (with_held c s) bs → is_refresh m q ≡ false
        → Kept before last offs w u c es h → Kept before last offs w u (with_held c s) es (carried_out q ∷ h)
    keep_pending u q s bs d no-refresh k = record {
      xs = k.xs;
      o = k.o;
      chip = carried_chip q c (with_held c s) bs h k.chip d;
      account_is = rw no-refresh k.account_is;
      opened = k.opened;
      image_ok = k.image_ok;
      waiting = k.waiting;
      wanted_ok = k.wanted_ok;
      booked = k.booked;
    }

    -- a REFRESH_V, where no settings are pending and nothing waits
    pub keep_latched : (q : Request) (bs : List ℕ) → reacts m c q ≡ does (latched c) bs → is_refresh m q ≡ false → c.held.settings ≡ c.active → Kept before last offs w None c es h
        → Kept before last offs w None (latched c) es (carried_out q ∷ h)
    keep_latched q bs d no-refresh same k = record {
      xs = k.xs;
      o = k.o;
      chip = carried_chip q c (latched c) bs h k.chip d;
      account_is = rw no-refresh k.account_is;
      opened = rw same k.opened;
      image_ok = k.opened.sound;
      waiting = tt;
      wanted_ok = k.wanted_ok;
      booked = k.booked;
    }

    -- a REFRESH, where nothing waits
    pub keep_refreshed : (q : Request) (bs : List ℕ) → reacts m c q ≡ does (refreshed c) bs → is_refresh m q ≡ true → (k : Kept before last offs w None c es h)
        → Kept before last offs w (Some k.o) (refreshed c) es (carried_out q ∷ h)
    keep_refreshed q bs d yes_refresh k = record {
      xs = k.xs;
      o = record { opened_with = c.held.settings; moments = [] };
      chip = carried_chip q c (refreshed c) bs h k.chip d;
      account_is =
          rw yes_refresh (ap₂ (closes_on m) k.account_is (sym (carried_chip q c (refreshed c) bs h k.chip d))
          ∙ ap (λ ys. record {
            closed = record { stretch = k.o; left = record { running = c.running; settings = c.active }; fate = waits } ∷ ys;
            open_stretch =
                record { opened_with = c.held.settings; moments = [] };
            strays = 0;
          }) (not_overtaken k.xs k.booked.fated));
      opened = record { sound = zeroed_sound m c.running k.opened.sound; with = refl; steady = tt; tracks = zeroed_tracks m c.held.settings c.running };
      image_ok = k.opened.sound;
      waiting = λ n. tracks_match m c.active c.running k.o k.opened.with k.opened.steady k.opened.tracks n;
      wanted_ok = k.wanted_ok;
      booked = k.booked;
    }

    -- what waits gets a fate
    settle : (s : Stretch) (f : Fate) (x : Happening) (last' offs' : ℕ) (es' : List Entry) → chip_after m (x ∷ h) ≡ chip_after m h → account m (x ∷ h) ≡ fate_given f (account m h)
        → Kept before last offs w (Some s) c es h
        → ((xs : List Closed) → Booked before last offs es xs → Booked before last' offs' es' (record { stretch = s; left = c.image; fate = f } ∷ xs))
        → Kept before last' offs' w None c es' (x ∷ h)
    settle s f x last' offs' es' same acc k b = record {
      xs = record { stretch = s; left = c.image; fate = f } ∷ k.xs;
      o = k.o;
      chip = k.chip ∙ sym same;
      account_is = acc ∙ ap (fate_given f) k.account_is;
      opened = k.opened;
      image_ok = k.image_ok;
      waiting = tt;
      wanted_ok = k.wanted_ok;
      booked = b k.xs k.booked;
    }

    pub keep_booked : Lawful m → (s : Stretch) → last + 1 < 2 ^ 32 → length es < places → Kept before last offs w (Some s) c es h
        → Kept before (last + 1) offs w None c (es ++ entry_of m c.image (last + 1) ∷ []) (booked (entry_of m c.image (last + 1)) ∷ h)
    keep_booked law s l space k =
        let e = entry_of m c.image (last + 1) in
        settle s (got_entry e) (booked e) (last + 1) offs (es ++ e ∷ []) refl refl k
        (λ xs b. record {
          fated = (k.waiting (last + 1), b.fated);
          book = ap (λ ys. ys ++ e ∷ []) b.book;
          rising = up_to_push before es last e (omega arith) b.rising;
          offs_is = b.offs_is ∙ omega arith;
          held = every_push es e b.held (image_holds m law c.image (last + 1) k.image_ok);
          small = l;
          room = simp length-append (omega arith);
          exact = let p = b.exact in omega arith;
          numbered = ((let p = b.exact in omega arith), b.numbered);
          few = let p = b.few in omega arith;
          steadies = ((k.waiting 0).steady, b.steadies);
        })

    pub keep_written_off : (s : Stretch) → last + 1 < 2 ^ 32 → Kept before last offs w (Some s) c es h → Kept before (last + 1) (offs + 1) w None c es (written_off ∷ h)
    keep_written_off s l k =
        settle s was_written_off written_off (last + 1) (offs + 1) es refl refl k
        (λ xs b. record {
          fated = (tt, b.fated);
          book = b.book ∙ sym (append-nil _);
          rising = up_to_more before es last (last + 1) (omega arith) b.rising;
          offs_is = let p = b.offs_is in omega arith;
          held = b.held;
          small = l;
          room = b.room;
          exact = let p = b.exact in omega arith;
          numbered = (tt, b.numbered);
          few = let p = b.few in omega arith;
          steadies = ((k.waiting 0).steady, b.steadies);
        })

  pub keep_made : (last : ℕ) → Lawful m → last < 2 ^ 32 → Kept last last 0 all_zero None (fresh_chip m) [] []
  keep_made last law l =
      let ok : Sound m idle = record {
        four = refl;
        count = pow_pos m.count_bits;
        sums = (pow_pos _, (pow_pos _, (pow_pos _, (pow_pos _, tt))));
        rest =
            (λ l. refl, (λ l. refl, (λ l. refl, (λ l. refl, tt))));
      } in
      record {
        xs = [];
        o = record { opened_with = m.fresh; moments = [] };
        chip = refl;
        account_is = refl;
        opened = record { sound = ok; with = refl; steady = tt; tracks = zeroed_tracks m m.fresh idle };
        image_ok = ok;
        waiting = tt;
        wanted_ok = law.zero_offered;
        booked = record {
          fated = tt;
          book = refl;
          rising = omega arith;
          offs_is = refl;
          held = tt;
          small = l;
          room = omega arith;
          exact = omega arith;
          numbered = tt;
          few =
              omega arith;
          steadies = tt;
        };
      }
