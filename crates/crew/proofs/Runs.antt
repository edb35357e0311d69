-- Every line leaves the desk on a run, and so does its beginning.
use Rattle.std.proofs.Common.{◌≡◌, ℕ, ◌^◌, ◌<◌, ◌≤◌, Bool, true, false, List, [], ◌∷◌, ◌++◌, length}
use Rattle.std.proofs.Common.{Some, None, Ok, Err, Option, Result, refl, sym, subst, ap, ◌∙◌, arith, lit<}
use Rattle.std.proofs.Math.ListN.{length-set}
use Rattle.std.proofs.lemmas.List.{append-nil, length-append, length-take-le}
use Rattle.account.specs.Book.{book_after}
use Rattle.account.specs.Dialogue.{Call, book}
use Rattle.account.specs.Dialogue as machine
use Rattle.account.specs.History.{History, Reached, carried_in, cycle_came, entries_after, happened_after}
use Rattle.account.specs.Statements.{Statements}
use Rattle.account.specs.Steps.{Step}
use Rattle.book.specs.Book.{Pages, entries}
use Rattle.chip.specs.Chip.{fresh_chip}
use Rattle.chip.specs.Datasheet.{Datasheet}
use Rattle.chip.specs.declared.entry.Entry.{Entry}
use Rattle.chip.specs.declared.refusal.Refusal.{Refusal}
use Rattle.chip.specs.declared.state.Codes.{Codes}
use Rattle.chip.specs.declared.state.State.{State}
use Rattle.crew.proofs.Histories.{call_seen, seen_after, stands_before}
use Rattle.crew.specs.Obeyed.{IfBytes, Obeyed, all_bytes, no_fields, told}
use Rattle.crew.specs.Runs.{GoesOn, HasRoom, LedBy, OnRun, line_shows, visible}
use Rattle.crew.specs.declared.reply.Shown.{Shown}
use Rattle.crew.specs.declared.reply.Shown.TheVariants as shown
use Rattle.crew.specs.declared.request.Request.{Request}
use Rattle.crew.specs.declared.request.Request.TheVariants.{Cycle, SetUp, Draw, Book, WriteOff, Bill, Fault}
use Rattle.desk.specs.Promises.{BookMade, CycleCame, DeskOpened, OutcomeAdded, SlipBooked, WriteOffMade, book_answer, chip_below, draw_answer, goes_scripted}
use Rattle.desk.specs.Standing.{Standing}
use Rattle.meter.specs.Promises.{MadeAlone}
use Rattle.meter.specs.Views.{set_up_answer}
use Rattle.wire.specs.Wire.{Goes, Passes}
use Rattle.wire.specs.declared.scripted.Scripted.{Scripted}

-- no draw number is used at first
pub none_used : 0 < 2 ^ 32
none_used = lit< tt

module _ (m : Datasheet) {W : Type 0} (chip_of : W → State) where
  -- the run goes on, the crew sees just this more of it, and the book keeps its places
  pub record Onward (shows : History) (d d' : Standing W) : Type 0 where
    pub on : GoesOn m chip_of shows d d'
    pub room : HasRoom d'

  -- on a run before, on a run after
  pub still_on : (shows : History) (d d' : Standing W) → OnRun m chip_of d → Onward shows d d' → OnRun m chip_of d'
  still_on shows d d' o w = let l = w.on.on o.history o.led in record { room = w.room; history = _; led = l.2 }

  -- led to a meter, a chip and a book, by what a call promises
  led : (d : Standing W) {es : List Entry} {g h : History} → entries d.book ≡ es → g ≡ h → Reached m 64 1 0 d.meter (chip_of d.wire.below) es g
      → Statements m 64 1 0 d.meter (chip_of d.wire.below) es g → LedBy m chip_of d h
  led d {es} {g} {h} e same x y =
      subst (λ (z : History). LedBy m chip_of d z) same
      (record {
        reached = subst (λ (z : List Entry). Reached m 64 1 0 d.meter (chip_of d.wire.below) z g) (sym e) x;
        statements = subst (λ (z : List Entry). Statements m 64 1 0 d.meter (chip_of d.wire.below) z g) (sym e) y;
      })

  same_room : (d d' : Standing W) → d'.book ≡ d.book → HasRoom d → HasRoom d'
  same_room d d' e o = record { places = ap (λ (b : Pages). length b.places) e ∙ o.places; filled = subst (λ (b : Pages). b.filled ≤ 64) (sym e) o.filled }

  -- all is as it was
  pub stays : (d d' : Standing W) → d' ≡ d → HasRoom d → Onward [] d d'
  stays d d' e o =
      subst (λ (x : Standing W). Onward [] d x) (sym e) (record { on = record { on = λ h l. ([], refl, l) }; room = o })

  -- a new desk begins a run
  module _ (wire : Scripted W) (places : List Entry) (d : Standing W) (o : DeskOpened m chip_of wire places d) (many : length places ≡ 64) where
    pub begun_room : HasRoom d
    begun_room = record { places = ap (λ (b : Pages). length b.places) o.book ∙ many; filled = subst (λ (b : Pages). b.filled ≤ 64) (sym o.book) (omega arith) }

    pub begun_led : chip_of wire.below ≡ fresh_chip m → LedBy m chip_of d []
    begun_led fresh = let begun = o.meter.run 64 none_used fresh in led d (ap entries o.book) refl begun.0 begun.1

    pub begins : chip_of wire.below ≡ fresh_chip m → OnRun m chip_of d
    begins fresh = record { room = begun_room; history = []; led = begun_led fresh }

  module _ (goes : Goes W) where
    -- a call that takes no book
    called : (q : Call) (r : machine.Answer) (d d' : Standing W) → d'.book ≡ d.book → HasRoom d
        → MadeAlone m (chip_below chip_of) (goes_scripted goes) q d.meter d.wire d'.meter d'.wire r → Onward (seen_after r) d d'
    called q r d d' e o a =
        let call = a.made 64 (entries d.book) [] in
        let ss : List Step = call.made.steps in
        record {
          on = record {
            on = λ h l.
                let on = call.run 1 0 h none_used l.reached in
                (happened_after r (carried_in ss []), call_seen r ss [] ∙ append-nil (seen_after r), led d' (ap entries e) (stands_before r ss h) on.0 on.1);
          };
          room = same_room d d' e o;
        }

    -- a booking: as many places as before, and an entry went to a free one
    after_places : (r : Result Entry Refusal) (b : Pages) → length (book_after (book_answer r) b).places ≡ length b.places
    after_places (Ok e) b = length-set b.places b.filled e
    after_places (Err e) b = refl

    after_filled : (r : Result Entry Refusal) (b : Pages) → length b.places ≡ 64 → b.filled ≤ 64
        → entries (book_after (book_answer r) b) ≡ entries_after (book_answer r) (entries b) → length (entries (book_after (book_answer r) b)) ≤ 64
        → (book_after (book_answer r) b).filled ≤ 64
    after_filled (Ok e) b many few same room =
        let before : length (entries b) ≡ b.filled = length-take-le b.filled b.places (omega arith) in
        let one_more = length-append (entries b) (e ∷ []) in
        let now = ap length same in
        omega arith
    after_filled (Err e) b many few same room = few

    -- what a booking promises of a book of 64 places
    module _ (p : machine.Slip) (r : Result Entry Refusal) (d d' : Standing W) (o : HasRoom d) (s : SlipBooked m chip_of goes p d r d') where
      few : d.book.filled ≤ length d.book.places
      few = let f = o.filled in let n = o.places in omega arith

      since : History
      since = happened_after (book_answer r) (carried_in (s.made.made few).made.steps [])

      booked_on : (h : History) → LedBy m chip_of d h → LedBy m chip_of d' (since ++ h)
      unfolding since
      booked_on h l =
          let before = subst (λ (n : ℕ). Reached m n 1 0 d.meter (chip_of d.wire.below) (entries d.book) h) (sym o.places) l.reached in
          let on = (s.made.made few).run 1 0 h none_used before in
          let g : History = happened_after (book_answer r) (carried_in (s.made.made few).made.steps h) in
          led d' refl (stands_before (book_answer r) (s.made.made few).made.steps h)
          (subst (λ (n : ℕ). Reached m n 1 0 d'.meter (chip_of d'.wire.below) (entries d'.book) g) o.places on.0)
          (subst (λ (n : ℕ). Statements m n 1 0 d'.meter (chip_of d'.wire.below) (entries d'.book) g) o.places on.1)

      booked_room : (h : History) → LedBy m chip_of d h → HasRoom d'
      booked_room h l =
          let after : d'.book ≡ book_after (book_answer r) d.book = s.made.the_book in
          let same : entries (book_after (book_answer r) d.book) ≡ entries_after (book_answer r) (entries d.book) =
          ap entries (sym after) ∙ (s.made.made few).made.the_book in
          let room : length (entries (book_after (book_answer r) d.book)) ≤ 64 =
          subst (λ (b : Pages). length (entries b) ≤ 64) after (booked_on h l).statements.room in
          record {
            places = ap (λ (b : Pages). length b.places) after ∙ after_places r d.book ∙ o.places;
            filled = subst (λ (b : Pages). b.filled ≤ 64) (sym after) (after_filled r d.book o.places o.filled same room);
          }

      seen_since : visible since ≡ seen_after (book_answer r)
      unfolding since
      seen_since = call_seen (book_answer r) (s.made.made few).made.steps [] ∙ append-nil (seen_after (book_answer r))

      pub booked : (h : History) → LedBy m chip_of d h → Onward (seen_after (book_answer r)) d d'
      booked h l = record { on = record { on = λ h l. (since, seen_since, booked_on h l) }; room = booked_room h l }

    -- a line's call shows what its answer does
    set_up_seen : (x : Result Unit Refusal) → seen_after (set_up_answer x) ≡ []
    set_up_seen (Ok u) = refl
    set_up_seen (Err e) = refl

    draw_seen : (meter : ℕ) (x : Result ℕ Refusal) → seen_after (draw_answer meter x) ≡ []
    draw_seen meter (Ok n) = refl
    draw_seen meter (Err e) = refl

    booking_seen : (x : Result Entry Refusal) → seen_after (book_answer x) ≡ line_shows (Some Book) (told shown.Entry x)
    booking_seen (Ok e) = refl
    booking_seen (Err e) = refl

    spent : (hand : Option machine.Slip) (r : Result Entry Refusal) (d d' : Standing W) → OnRun m chip_of d → BookMade m chip_of goes hand d r d'
        → Onward (line_shows (Some Book) (told shown.Entry r)) d d'
    spent None r d d' o b = subst (λ (x : Result Entry Refusal). Onward (line_shows (Some Book) (told shown.Entry x)) d d') (sym b.0) (stays d d' b.1 o.room)
    spent (Some p) r d d' o b = subst (λ (x : History). Onward x d d') (booking_seen r) (booked p r d d' o.room b o.history o.led)

    given_up : (hand : Option machine.Slip) (r : Result Unit Refusal) (d d' : Standing W) → HasRoom d → WriteOffMade m chip_of goes hand d r d'
        → Onward (line_shows (Some WriteOff) (told no_fields r)) d d'
    given_up None r d d' o b = subst (λ (x : Result Unit Refusal). Onward (line_shows (Some WriteOff) (told no_fields x)) d d') (sym b.0) (stays d d' b.1 o)
    given_up (Some p) r d d' o b =
        subst (λ (x : Result Unit Refusal). Onward (line_shows (Some WriteOff) (told no_fields x)) d d') (sym b.taken) (called (machine.write_off p) _ d d' b.book o b.meter)

    -- with bytes the call, and else nothing
    if_bytes : (ns : List ℕ) (call : Type 0) (d : Standing W) (r : Result Shown Refusal) (d' : Standing W) → HasRoom d → IfBytes ns call d r d'
        → (call → Onward [] d d') → Onward [] d d'
    if_bytes ns call d r d' o i on = either (all_bytes ns) refl
      where
        either : (x : Bool) → all_bytes ns ≡ x → Onward [] d d'
        either true is = on (i.within is)
        either false is = stays d d' (i.beyond is).1 o

    module _ (passes : Passes W) where
      cycled : (ks : List Codes) (d d' : Standing W) → HasRoom d → CycleCame m chip_of passes ks d d' → Onward (cycle_came ks ∷ []) d d'
      cycled ks d d' o k = record {
        on = record {
          on = λ h l.
              let on = k.meter.run 64 1 0 (entries d.book) h none_used l.reached in
              (cycle_came ks ∷ [], refl, led d' (ap entries k.rest.book) refl on.0 on.1);
        };
        room = same_room d d' k.rest.book o;
      }

      added : (k : ℕ) (r : Result Unit Refusal) (d d' : Standing W) → HasRoom d → OutcomeAdded m chip_of k d r d' → Onward [] d d'
      added k r d d' o a = record {
        on = record {
          on = λ h l.
              let on = a.run.run 64 1 0 (entries d.book) h none_used l.reached in
              ([], refl, led d' (ap entries a.rest.book) refl on.0 on.1);
        };
        room = same_room d d' a.rest.book o;
      }

      -- whatever is asked, the run goes on, and shows what the line does
      pub goes_onward : (q : Request) (d : Standing W) (r : Result Shown Refusal) (d' : Standing W) → Obeyed m chip_of goes passes q d r d'
          → OnRun m chip_of d → Onward (line_shows (Some q) r) d d'
      goes_onward (Cycle ks) d r d' h o = cycled ks d d' o.room h.1
      goes_onward (SetUp rate off two_way) d r d' h o =
          if_bytes (rate ∷ off ∷ two_way ∷ []) _ d r d' o.room h (λ c.
          subst (λ (x : History). Onward x d d') (set_up_seen c.result) (called (machine.set_up _) _ d d' c.made.rest.book o.room c.made.meter))
      goes_onward Draw d r d' h o =
          subst (λ (x : History). Onward x d d') (draw_seen d.meter.meter h.result) (called machine.draw _ d d' h.made.book o.room h.made.meter)
      goes_onward Book d r d' h o =
          subst (λ (x : Result Shown Refusal). Onward (line_shows (Some Book) x) d d') (sym h.tells) (spent d.hand h.result d d' o h.made)
      goes_onward WriteOff d r d' h o =
          subst (λ (x : Result Shown Refusal). Onward (line_shows (Some WriteOff) x) d d') (sym h.tells) (given_up d.hand h.result d d' o.room h.made)
      goes_onward (Bill ch u) d r d' h o = if_bytes (ch ∷ []) _ d r d' o.room h (λ c. stays d d' c.made.same o.room)
      goes_onward (Fault k) d r d' h o = if_bytes (k ∷ []) _ d r d' o.room h (λ c. added k c.result d d' o.room c.made)
