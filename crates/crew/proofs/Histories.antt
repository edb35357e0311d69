-- What a call adds to a history, and what the crew sees of that.
use Rattle.std.proofs.Common.{◌≡◌, ℕ, Bool, true, false, cond, List, [], ◌∷◌, ◌++◌, refl, sym, ap, ◌∙◌}
use Rattle.account.specs.Dialogue.{Answer, Meter, billed, entered, given_up, handed, looked, refused, stored}
use Rattle.account.specs.History.{History, Reached, booked, called, carried_in, carried_out, cycle_came, cycle_passed, entries_after, happened_after, made, written_off}
use Rattle.account.specs.Steps.{Step}
use Rattle.chip.specs.Datasheet.{Datasheet}
use Rattle.chip.specs.declared.entry.Entry.{Entry}
use Rattle.chip.specs.declared.state.State.{State}
use Rattle.crew.specs.Runs.{visible}
use Rattle.crew.specs.Sessions.{booked_in}

carried_on : (ss : List Step) (a h : History) → carried_in ss (a ++ h) ≡ carried_in ss a ++ h
carried_on [] a h = refl
carried_on (s ∷ ss) a h = step s.carried (carried_on ss (carried_out s.asked ∷ a) h) (carried_on ss a h)
  where
    step : (b : Bool) → carried_in ss (carried_out s.asked ∷ (a ++ h)) ≡ carried_in ss (carried_out s.asked ∷ a) ++ h
        → carried_in ss (a ++ h) ≡ carried_in ss a ++ h
        → carried_in ss (cond b (carried_out s.asked ∷ (a ++ h)) (a ++ h)) ≡ carried_in ss (cond b (carried_out s.asked ∷ a) a) ++ h
    step true with_it without = with_it
    step false with_it without = without

happened_on : (r : Answer) (a h : History) → happened_after r (a ++ h) ≡ happened_after r a ++ h
happened_on (entered e) a h = refl
happened_on given_up a h = refl
happened_on stored a h = refl
happened_on (handed p) a h = refl
happened_on (looked g) a h = refl
happened_on (billed z n k) a h = refl
happened_on (refused e) a h = refl

-- it stands before what was there
pub stands_before : (r : Answer) (ss : List Step) (h : History) → happened_after r (carried_in ss h) ≡ happened_after r (carried_in ss []) ++ h
stands_before r ss h = ap (happened_after r) (carried_on ss [] h) ∙ happened_on r (carried_in ss []) h

-- requests that were carried out are not seen
nothing_seen : (ss : List Step) (h : History) → visible (carried_in ss h) ≡ visible h
nothing_seen [] h = refl
nothing_seen (s ∷ ss) h = nothing_seen ss (cond s.carried (carried_out s.asked ∷ h) h) ∙ one s.carried
  where
    one : (b : Bool) → visible (cond b (carried_out s.asked ∷ h) h) ≡ visible h
    one true = refl
    one false = refl

-- of a call an entry and a write-off are
abbrev pub seen_after : Answer → History
seen_after (entered e) = booked e ∷ []
seen_after given_up = written_off ∷ []
seen_after r = []

pub call_seen : (r : Answer) (ss : List Step) (h : History) → visible (happened_after r (carried_in ss h)) ≡ seen_after r ++ visible h
call_seen (entered e) ss h = ap (λ x. booked e ∷ x) (nothing_seen ss h)
call_seen given_up ss h = ap (λ x. written_off ∷ x) (nothing_seen ss h)
call_seen stored ss h = nothing_seen ss h
call_seen (handed p) ss h = nothing_seen ss h
call_seen (looked g) ss h = nothing_seen ss h
call_seen (billed z n k) ss h = nothing_seen ss h
call_seen (refused e) ss h = nothing_seen ss h

pub seen_joined : (a b : History) → visible (a ++ b) ≡ visible a ++ visible b
seen_joined [] b = refl
seen_joined (carried_out q ∷ a) b = seen_joined a b
seen_joined (cycle_came ks ∷ a) b = ap (λ x. cycle_came ks ∷ x) (seen_joined a b)
seen_joined (booked e ∷ a) b = ap (λ x. booked e ∷ x) (seen_joined a b)
seen_joined (written_off ∷ a) b = ap (λ x. written_off ∷ x) (seen_joined a b)

-- the book has the entries that are seen of a run
carried_books : (ss : List Step) (h : History) → booked_in (visible (carried_in ss h)) ≡ booked_in (visible h)
carried_books ss h = ap booked_in (nothing_seen ss h)

call_books : (r : Answer) (ss : List Step) (h : History) (es : List Entry) → es ≡ booked_in (visible h)
    → entries_after r es ≡ booked_in (visible (happened_after r (carried_in ss h)))
call_books (entered e) ss h es is = ap (λ x. x ++ e ∷ []) (is ∙ sym (carried_books ss h))
call_books given_up ss h es is = is ∙ sym (carried_books ss h)
call_books stored ss h es is = is ∙ sym (carried_books ss h)
call_books (handed p) ss h es is = is ∙ sym (carried_books ss h)
call_books (looked g) ss h es is = is ∙ sym (carried_books ss h)
call_books (billed z n k) ss h es is = is ∙ sym (carried_books ss h)
call_books (refused e) ss h es is = is ∙ sym (carried_books ss h)

pub book_shown : {m : Datasheet} {places number last : ℕ} {t : Meter} {c : State} {es : List Entry} {h : History} → Reached m places number last t c es h
    → es ≡ booked_in (visible h)
book_shown made = refl
book_shown (cycle_passed ks four r) = book_shown r
book_shown (called {h = h} {ss = ss} {r = a} q r f along) = call_books a ss h _ (book_shown r)
