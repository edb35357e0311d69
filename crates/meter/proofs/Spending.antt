-- A slip spent, or refused.
use Rattle.std.proofs.Common.{◌≡◌, ℕ, ◌<◌, ◌≤◌, Bool, true, false, cond, ◌&&◌, eqb, leb, ◌⊎◌, List, [], length, take, Ok, Err, Result, sym, refl, ap, ◌∙◌, subst, inl, inr, arith}
use Rattle.std.proofs.lemmas.Bool.{and_from, and_parts, both_ways, eq-eqb, le-leb, leb-true, lt-leb, ne_eqb}
use Rattle.account.proofs.Books.{books_keep}
use Rattle.account.proofs.Wires.{ends_followed, made_call}
use Rattle.account.specs.Book.{book_after}
use Rattle.account.specs.Calls.{Followed, MadeBookCall}
use Rattle.account.specs.Dialogue.{Answer, Meter, Slip, Way, at, book, book_limits, books, ended, ends, entered, enters, fits_slip, given_up, ready, refused, refuses, writes_off, wrote_off}
use Rattle.account.specs.History.{entries_after}
use Rattle.account.specs.Steps.{at_rest}
use Rattle.book.specs.Bill.{book_within}
use Rattle.book.specs.Book.{Pages, entries, put, putting}
use Rattle.chip.specs.Datasheet.{Datasheet}
use Rattle.chip.specs.Laws.{Lawful}
use Rattle.chip.specs.declared.entry.Entry.{Entry}
use Rattle.chip.specs.declared.refusal.Refusal.{Refusal}
use Rattle.chip.specs.declared.refusal.Refusal.TheVariants.{Full, Limits, WrongSlip}
use Rattle.chip.specs.declared.state.State.{State}
use Rattle.meter.specs.Parts.{AllGathered, Laid}
use Rattle.meter.specs.Views.{GivenBack, IsUnspent}
use Rattle.meter.specs.declared.slip.Slip as code
use Rattle.meter.specs.declared.slip.Unspent.{Unspent}
use Rattle.wire.specs.Wire.{Goes, IsWire, Passes}

module _ {W : Type 0} (goes : Goes W) (t : Meter) (p : Slip) {u : W} where
  pub off_refused : fits_slip t p ≡ false → Followed goes (writes_off t p) u t u (refused WrongSlip)
  off_refused e = rw e ends_followed

  pub off_taken : fits_slip t p ≡ true → Followed goes (writes_off t p) u (wrote_off t) u given_up
  off_taken e = rw e ends_followed

-- what was refused is the slip that was given, so it is as unspent as that
pub given_back : {p : code.Slip} {b : Unspent} → b.slip ≡ p → GivenBack p b
given_back is = record { same = is; unspent = λ u. subst IsUnspent (sym is) u }

-- the tests of a booking, in their order
module _ (m : Datasheet) (t : Meter) (p : Slip) (places filled scratch : ℕ) where
  pub beyond_limits : book_limits places filled scratch ≡ false → books m t p places filled scratch ≡ refuses t Limits
  beyond_limits a = rw a refl

  pub another_slip : book_limits places filled scratch ≡ true → fits_slip t p ≡ false → books m t p places filled scratch ≡ refuses t WrongSlip
  another_slip a b = rw (a, b) refl

  pub no_place : book_limits places filled scratch ≡ true → fits_slip t p ≡ true → eqb filled places ≡ true → books m t p places filled scratch ≡ refuses t Full
  no_place a b c = rw (a, b, c) refl

  pub goes_in : book_limits places filled scratch ≡ true → fits_slip t p ≡ true → eqb filled places ≡ false → books m t p places filled scratch ≡ enters m t p
  goes_in a b c = rw (a, b, c) refl

  pub not_overfull : book_limits places filled scratch ≡ true → filled ≤ places
  not_overfull e = leb-true _ _ (and_parts (leb 1 places && leb places 4096) (leb filled places) (and_parts (book_within places filled) (leb 32 scratch) e).0).1

-- the limits, as code asks for them
pub limits_fail : (places filled scratch : ℕ) {r : Bool} → r ≡ book_within places filled → (r ≡ false) ⊎ ((r ≡ true) × (scratch < 32)) → book_limits places filled scratch ≡ false
limits_fail places filled scratch is (inl no-book) = rw (sym is ∙ no-book) refl
limits_fail places filled scratch is (inr (yes-book, short)) = rw (sym is ∙ yes-book) (lt-leb 32 scratch short)

pub limits_hold : (places filled scratch : ℕ) {r : Bool} → r ≡ book_within places filled → r ≡ true → 32 ≤ scratch → book_limits places filled scratch ≡ true
limits_hold places filled scratch is good long = and_from (book_within places filled) (leb 32 scratch) (sym is ∙ good) (le-leb 32 scratch long)

-- a full book, as code asks for it
pub full_so : (places filled : ℕ) → filled ≤ places → leb places filled ≡ true → eqb filled places ≡ true
full_so places filled l e = eq-eqb _ _ (let g = leb-true places filled e in omega arith)

pub room_so : (places filled : ℕ) → leb places filled ≡ false → eqb filled places ≡ false
room_so places filled e = ne_eqb filled places (λ is. both_ways (leb places filled) e (le-leb places filled (omega arith)))

-- what putting leaves of a book with a free place
pub put_so : (e : Entry) (b b' : Pages) (r : Result Unit Refusal) → leb (length b.places) b.filled ≡ false → ◌≡◌ {A = Result Unit Refusal × Pages} (r, b') (putting e b) → b' ≡ put e b
put_so e b b' r free is = ap (λ x. x.1) is ∙ ap (λ x. (cond {A = Result Unit Refusal × Pages} x (Err Full, b) (Ok tt, put e b)).1) free

module _ (m : Datasheet) {W : Type 0} {chip_of : W → State} {goes : Goes W} {passes : Passes W} (is : IsWire m chip_of goes passes) (law : Lawful m) (t : Meter) (p : Slip) (b : Pages)
    (s : List ℕ) (u : W) where
  abbrev many : ℕ
  many = length b.places

  -- as many entries as places are filled
  entries_filled : b.filled ≤ many → length (entries b) ≡ b.filled
  entries_filled l = books_keep.filled_many b l

  on_entries : {way : Way} → b.filled ≤ many → books m t p many b.filled (length s) ≡ way → books m t p many (length (entries b)) (length s) ≡ way
  on_entries l e = ap (λ n. books m t p many n (length s)) (entries_filled l) ∙ e

  -- refused before any transaction
  pub refused_at_once : (e : Refusal) {e' : Refusal} → e' ≡ e → (many < b.filled → e ≡ Limits) → books m t p many b.filled (length s) ≡ refuses t e
      → MadeBookCall m chip_of goes (book p (length s)) t u b s t u b s (refused e')
  refused_at_once e said over way = subst (λ x. MadeBookCall m chip_of goes (book p (length s)) t u b s t u b s (refused x)) (sym said) (record {
    overfull = λ l. (ap refused (over l), refl, refl, refl);
    made = λ l. made_call m is law (record { steps = []; follows = rw (on_entries l way) ended; trip = at_rest; the_book = refl; own_scratch = refl; the_scratch = refl });
    the_book = refl;
  })

  module _ (within : book_limits many b.filled (length s) ≡ true) (way : books m t p many b.filled (length s) ≡ enters m t p) where
    few : b.filled ≤ many
    few = not_overfull m t p many b.filled (length s) within

    laid_call : {t' : Meter} {w : W} {b' : Pages} {s' : List ℕ} {r : Answer} → Laid goes (enters m t p) u s t' w s' r → b' ≡ book_after r b
        → (b.filled ≤ many → entries b' ≡ entries_after r (entries b)) → MadeBookCall m chip_of goes (book p (length s)) t u b s t' w b' s' r
    laid_call l the_book es = record {
      overfull = λ h. absurd (let f = few in omega arith);
      made = λ h. made_call m is law (record {
        steps = l.walk.steps;
        follows = rw (on_entries h way) l.walk.follows;
        trip = l.walk.trip;
        the_book = es h;
        own_scratch = refl;
        the_scratch = l.scratch;
      });
      the_book = the_book;
    }

    -- a read failed: the book stays
    pub reads_refused : {w : W} {s' : List ℕ} (e : Refusal) {e' : Refusal} → e' ≡ e → Laid goes (enters m t p) u s (at t t.condition) w s' (refused e)
        → MadeBookCall m chip_of goes (book p (length s)) t u b s t w b s' (refused e')
    reads_refused {w} {s'} e said l = subst (λ x. MadeBookCall m chip_of goes (book p (length s)) t u b s t w b s' (refused x)) (sym said) (laid_call l refl (λ h. refl))

    -- all replies came: the next free place has their entry
    pub entry_made : {w : W} {s' : List ℕ} {b' : Pages} (n : ℕ) (bytes : List ℕ) (e : Entry) → AllGathered goes m.booking_reads u s n bytes w s' → e ≡ m.entry_in (take n bytes) p.draw
        → b.filled < many → b' ≡ put e b → MadeBookCall m chip_of goes (book p (length s)) t u b s (at t ready) w b' s' (entered e)
    entry_made {w} {s'} {b'} n bytes e all is-entry room is-put =
        laid_call
        ((all.lays t (λ rs. ends (at t ready, entered (m.entry_in rs p.draw)))).on (at t ready) w s' (entered e)
        (subst (λ x. Laid goes (ends (at t ready, entered x)) w s' (at t ready) w s' (entered e)) is-entry
        (record { walk = record { steps = []; follows = ended; trip = at_rest }; scratch = refl })))
        is-put
        (λ h. ap entries is-put ∙ (books_keep.kept (entered e) b room).the_entries)
