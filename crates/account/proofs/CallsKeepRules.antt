-- Every call is refused for its reason, or taken.
use Rattle.std.proofs.Common.{◌≡◌, ℕ, suc, ◌≤◌, Bool, true, false, cond, not, eqb, List, [], ◌∷◌, ◌++◌, length, ℤ, Some, None, Option, refl, ap, subst, sym, arith}
use Rattle.account.proofs.Ways.{All, all_cond, followed, map_all}
use Rattle.account.specs.CallRules.{LastFailed, OnlyLastFailed, RefusedFor, RefusedOrTaken, RulesAlways, RulesKept, Taken, Untried, all_answered, bad_entry, condition_left, first_wrong, has_slip_out, is_unsettled, most_transactions, tests}
use Rattle.account.specs.Dialogue.{Answer, Call, Condition, Meter, Reading, Slip, Way, asks, asks_mark, at, bill_answer, bill_for, book, book_limits, dialogue, draw, draws_at, ends, enters, fits_slip, gathers, hands, if_numbers_left, in_doubt, look, look_limits, looked, looks_at, or_fails, ready, refreshes, refused, refuses, sees, set_up, sets, slip_out, unfinished, unlike, write_off}
use Rattle.account.specs.Steps.{Step}
use Rattle.book.specs.Bill.{Bill, bill, bill_limits, bill_of, first_bad, no_bill}
use Rattle.chip.specs.Chip.{Request, address_of, read, send, write}
use Rattle.chip.specs.Datasheet.{Datasheet}
use Rattle.chip.specs.Laws.{Lawful}
use Rattle.chip.specs.Registers.{number}
use Rattle.chip.specs.declared.entry.Entry.{Entry}
use Rattle.chip.specs.declared.refusal.Refusal.{Refusal}
use Rattle.chip.specs.declared.refusal.Refusal.TheVariants.{BadEntry, Broken, Full, Limits, NotAcknowledged, NoSlip, NotReady, NumbersSpent, SlipOut, Unreadable, WrongSlip}
use Rattle.chip.specs.declared.refusal.Who.{Who}
use Rattle.wire.specs.Wire.{Reply, answered, broken, unacknowledged}

-- an answered step before a failed one
one_more : (q : Request) (r : Reply) (s : Step) (bs : List ℕ) → s.got ≡ answered bs → (ss : List Step) → OnlyLastFailed q r ss → OnlyLastFailed q r (s ∷ ss)
one_more q r s bs e [] p = absurd p
one_more q r s bs e (x ∷ ss) p = ((bs, e), p)

-- where the last step failed, not all are answered
last_unanswered : (q : Request) (r : Reply) → ((bs : List ℕ) → r ≡ answered bs → ⊥) → (ss : List Step) → OnlyLastFailed q r ss → all_answered ss → ⊥
last_unanswered q r not_so [] p every = p
last_unanswered q r not_so (s ∷ []) p every = let e = every.0.1 in let f = p.1 in not_so every.0.0 (cc)
last_unanswered q r not_so (s ∷ (x ∷ ss)) p every = last_unanswered q r not_so (x ∷ ss) p.1 every.1

-- the refusals that tests give
abbrev OfTests : Refusal → Type 0
OfTests (NotAcknowledged w a) = ⊥
OfTests (Broken a) = ⊥
OfTests Unreadable = ⊥
OfTests NoSlip = ⊥
OfTests e = Unit {0}

module _ (m : Datasheet) where
  module _ (q : Call) (t : Meter) (places : ℕ) (es : List Entry) where
    -- past the tests only the call's own last transaction refuses it,
    abbrev RefusedLate : List Step → Meter → Refusal → Type 0
    RefusedLate ss t' (NotAcknowledged w a) = LastFailed q a (unacknowledged w) ss t t'
    RefusedLate ss t' (Broken a) = LastFailed q a broken ss t t'
    RefusedLate ss t' e = ⊥

    -- or it is taken, with every transaction answered
    abbrev EndsLate : List Step → Meter → Answer → Type 0
    EndsLate ss t' (refused e) = RefusedLate ss t' e
    EndsLate ss t' r = Taken m q r t places es t' × all_answered ss

    -- how a call ends that got past its tests, with n transactions still to come at most
    record Late (n : ℕ) (ss : List Step) (a : Meter × Answer) : Type 0 where
      few : length ss ≤ n
      end : EndsLate ss a.0 a.1

    -- how it ends, by the first test that is wrong
    abbrev Ends : Option Refusal → List Step → Meter × Answer → Type 0
    Ends (Some e) ss a = (a.1 ≡ refused e) × (ss ≡ []) × (a.0 ≡ t) × OfTests e
    Ends None ss a = Late (most_transactions m q) ss a

    -- a test before the rest, as it is in the list and in the dialogue
    one_test : (b : Bool) (e : Refusal) → OfTests e → (o : Option Refusal) (s : Way) → All (Ends o) s → All (Ends (cond b (Some e) o)) (cond b (refuses t e) s)
    one_test true e k o s p = (refl, refl, refl, k)
    one_test false e k o s p = p

    one_limit : (b : Bool) (e : Refusal) → OfTests e → (o : Option Refusal) (s : Way) → All (Ends o) s → All (Ends (cond (not b) (Some e) o)) (cond b s (refuses t e))
    one_limit true e k o s p = p
    one_limit false e k o s p = (refl, refl, refl, k)

    -- THE RULES, BY HOW A CALL ENDS
    module _ (ss : List Step) (t' : Meter) where
      -- what the tests refuse has its reason
      untried_so : (e : Refusal) → OfTests e → Untried m q t places es ss t' e → RefusedFor m q t places es ss t' e
      untried_so (NotAcknowledged w a) k u = absurd k
      untried_so (Broken a) k u = absurd k
      untried_so Unreadable k u = k
      untried_so NoSlip k u = k
      untried_so e k u = u

      -- and so has what comes after them
      refused_so : (e : Refusal) → RefusedLate ss t' e → RefusedFor m q t places es ss t' e
      refused_so (NotAcknowledged w a) p = p
      refused_so (Broken a) p = p
      refused_so e p = absurd p

      ended_so : (r : Answer) → EndsLate ss t' r → RefusedOrTaken m q r t places es ss t'
      ended_so (refused e) p = refused_so e p
      ended_so r p = p.0

      -- such a refusal leaves a transaction unanswered
      no_failure : (e : Refusal) → RefusedLate ss t' e → all_answered ss → ⊥
      no_failure (NotAcknowledged w a) p = last_unanswered _ _ (λ bs is. cc) ss p.last
      no_failure (Broken a) p = last_unanswered _ _ (λ bs is. cc) ss p.last
      no_failure e p = λ every. p

      -- and a call that is taken leaves none
      taken_answered : (r : Answer) → EndsLate ss t' r → ((e : Refusal) → r ≡ refused e → ⊥) → all_answered ss
      taken_answered (refused e) p no_refusal = absurd (no_refusal e refl)
      taken_answered r p no_refusal = p.1

      -- the rules follow from how the call ended, by its first test that is wrong
      ended_by : (r : Answer) (o : Option Refusal) → first_wrong (tests m q t places es) ≡ o → Ends o ss (t', r) → RulesKept m q t places es ss t' r
      ended_by r None none p = record {
        reason = ended_so r p.end;
        tested = λ e is. cc;
        progress = λ _ every e is. no_failure e (subst (EndsLate ss t') is p.end) every;
        complete = taken_answered r p.end;
        few = p.few;
      }
      ended_by r (Some e) wrong p = record {
        reason = subst (λ x. RefusedOrTaken m q x t places es ss t') (sym p.0) (untried_so e p.3 (record { wrong = wrong; nothing_sent = p.1; meter = p.2 }));
        tested = λ x is. let first = p.0 in cc;
        progress = λ none. cc;
        complete = λ no_refusal. absurd (no_refusal e p.0);
        few = let none = ap length p.1 in omega arith;
      }

    -- A TRANSACTION PAST THE TESTS
    -- an answered transaction before it leaves an end as it is
    failed_later : (s : Step) (bs : List ℕ) → s.got ≡ answered bs → (a : ℕ) (got : Reply) (ss : List Step) (t' : Meter) → LastFailed q a got ss t t'
        → LastFailed q a got (s ∷ ss) t t'
    failed_later s bs is a got ss t' p = record { asked = p.asked; address = p.address; last = one_more p.asked got s bs is ss p.last; meter = p.meter }

    later_refusal : (s : Step) (bs : List ℕ) → s.got ≡ answered bs → (ss : List Step) (t' : Meter) (e : Refusal) → RefusedLate ss t' e → RefusedLate (s ∷ ss) t' e
    later_refusal s bs is ss t' (NotAcknowledged w a) p = failed_later s bs is a (unacknowledged w) ss t' p
    later_refusal s bs is ss t' (Broken a) p = failed_later s bs is a broken ss t' p
    later_refusal s bs is ss t' e p = p

    later : (s : Step) (bs : List ℕ) → s.got ≡ answered bs → (ss : List Step) (t' : Meter) (r : Answer) → EndsLate ss t' r → EndsLate (s ∷ ss) t' r
    later s bs is ss t' (refused e) p = later_refusal s bs is ss t' e p
    later s bs is ss t' r p = (p.0, ((bs, is), p.1))

    -- a transaction: answered, the rest ends; failed, the call does, in the condition of the rule
    asks_late : (n : ℕ) (x : Request) (k l : Condition) → ((w : Who) → k ≡ condition_left q x (unacknowledged w) t.condition) → l ≡ condition_left q x broken t.condition
        → (f : List ℕ → Way) → ((bs : List ℕ) → All (Late n) (f bs)) → All (Late (suc n)) (asks x (or_fails t k l (address_of x) f))
    asks_late n x k l nack broke f p b (answered bs) =
        let s : Step = record { asked = x; carried = b; got = answered bs } in
        map_all (f bs) (Late n) (λ ss. Late (suc n) (s ∷ ss)) (λ ss a h. record { few = let few = h.few in omega arith; end = later s bs refl ss a.0 a.1 h.end }) (p bs)
    asks_late n x k l nack broke f p b (unacknowledged w) = record { few = omega arith; end = record { asked = x; address = refl; last = (refl, refl); meter = ap (at t) (nack w) } }
    asks_late n x k l nack broke f p b broken = record { few = omega arith; end = record { asked = x; address = refl; last = (refl, refl); meter = ap (at t) broke } }

    -- a bound may be raised
    fewer : (n k : ℕ) → n ≤ k → (s : Way) → All (Late n) s → All (Late k) s
    fewer n k le s p = map_all s (Late n) (Late k) (λ ss a h. record { few = let few = h.few in omega arith; end = h.end }) p

  module _ (t : Meter) (places : ℕ) (es : List Entry) where
    -- A DRAW
    abbrev Drawing : ℕ → List Step → Meter × Answer → Type 0
    Drawing n = Late draw t places es n

    hands_late : (n : ℕ) → All (Drawing n) (hands t)
    hands_late n = record { few = omega arith; end = ((refl, refl), tt) }

    -- one transaction for each write, and one for REFRESH
    sets_late : (ps : List (ℕ × List ℕ)) → All (Drawing (suc (length ps))) (sets m t ps)
    sets_late [] = asks_late draw t places es 0 (send m.refresh) unfinished in_doubt (λ w. refl) refl (λ bs. hands t) (λ bs. hands_late 0)
    sets_late (p ∷ ps) =
        asks_late draw t places es (suc (length ps)) (write p.0 p.1) unfinished unfinished (λ w. refl) refl (λ bs. sets m t ps) (λ bs. sets_late ps)

    module _ (law : Lawful m) where
      -- three writes and REFRESH
      refreshes_late : (n : ℕ) → 4 ≤ n → All (Drawing n) (refreshes m t)
      refreshes_late n le =
          let ps = m.settings_writes t.wanted (not t.mark) in
          let few : length ps ≤ 3 = law.few_writes t.wanted (not t.mark) in
          fewer draw t places es (suc (length ps)) n (omega arith) (sets m t ps) (sets_late ps)

      asks_mark_late : All (Drawing 5) (asks_mark m t)
      asks_mark_late = asks_late draw t places es 4 (read m.mark_at.0 m.mark_at.1) in_doubt in_doubt (λ w. refl) refl _
          (λ bs. all_cond (Drawing 4) (unlike t.mark (m.mark_in (number bs))) _ _ (hands_late 4) (refreshes_late 4 (omega arith)))

      -- the test for numbers, and the draw behind it
      numbers_end : (s : Way) → All (Drawing 5) s → All (Ends draw t places es (first_wrong ((eqb t.last 4294967295, NumbersSpent) ∷ []))) (if_numbers_left t s)
      numbers_end s p = one_test draw t places es (eqb t.last 4294967295) NumbersSpent tt None s p

      draws_end : (k : Condition) → All (Ends draw t places es (first_wrong ((has_slip_out k, SlipOut) ∷ (eqb t.last 4294967295, NumbersSpent) ∷ []))) (draws_at m t k)
      draws_end ready = numbers_end (refreshes m t) (refreshes_late 5 (omega arith))
      draws_end unfinished = numbers_end (refreshes m t) (refreshes_late 5 (omega arith))
      draws_end in_doubt = numbers_end (asks_mark m t) asks_mark_late
      draws_end (slip_out n) = (refl, refl, refl, tt)

    -- A BOOKING
    module _ (p : Slip) (scratch : ℕ) where
      abbrev Booking : ℕ → List Step → Meter × Answer → Type 0
      Booking n = Late (book p scratch) t places es n

      -- one transaction for each read
      gathers_late : (ps : List (ℕ × ℕ)) (f : List ℕ → Way) → ((rs : List ℕ) → All (Booking 0) (f rs)) → All (Booking (length ps)) (gathers t ps f)
      gathers_late [] f h = h []
      gathers_late (x ∷ ps) f h =
          asks_late (book p scratch) t places es (length ps) (read x.0 x.1) t.condition t.condition (λ w. refl) refl (λ bs. gathers t ps (λ rs. f (bs ++ rs)))
          (λ bs. gathers_late ps (λ rs. f (bs ++ rs)) (λ rs. h (bs ++ rs)))

      enters_late : All (Booking (length m.booking_reads)) (enters m t p)
      enters_late = gathers_late m.booking_reads _ (λ rs. record { few = omega arith; end = (refl, tt) })

    -- A LOOK
    module _ (ch k : ℕ) where
      abbrev Looking : ℕ → List Step → Meter × Answer → Type 0
      Looking n = Late (look ch k) t places es n

      -- a look leaves the meter
      looked_late : (n : ℕ) (g : Reading) → All (Looking n) (ends (t, looked g))
      looked_late n g = record { few = omega arith; end = (refl, tt) }

      module _ (is : t.condition ≡ ready) where
        -- and it is made of a ready meter alone, which a transaction that fails leaves ready
        look_asks : (n : ℕ) (x : Request) (f : List ℕ → Way) → ((bs : List ℕ) → All (Looking n) (f bs)) → All (Looking (suc n)) (asks x (or_fails t ready ready (address_of x) f))
        look_asks n x f h = asks_late (look ch k) t places es n x ready ready (λ w. sym is) (sym is) f h

        sees_late : All (Looking 2) (sees m t ch k)
        sees_late = look_asks 1 (read (m.code_at ch k) 2) _
            (λ bs. all_cond (Looking 1) (eqb k 0) _ _ (looked_late 1 _) (look_asks 0 (read m.polarity_at.0 m.polarity_at.1) _ (λ gs. looked_late 0 _)))

      looks_end : (c : Condition) → t.condition ≡ c
          → All (Ends (look ch k) t places es (first_wrong ((has_slip_out c, SlipOut) ∷ (is_unsettled c, NotReady) ∷ []))) (looks_at m t ch k c)
      looks_end ready is = look_asks is 2 (send m.refresh_v) (λ bs. sees m t ch k) (λ bs. sees_late is)
      looks_end unfinished is = (refl, refl, refl, tt)
      looks_end in_doubt is = (refl, refl, refl, tt)
      looks_end (slip_out n) is = (refl, refl, refl, tt)

    -- A BILL
    bills_end : (kind : Datasheet) (ch u : ℕ) (b : Bool) (o : Option ℕ) (z : ℤ) (n k : ℕ)
        → bill kind places es ch u ≡ cond b (elim o as (λ _. Bill) [ Some x ↦ no_bill (BadEntry x) | None ↦ bill_of z n k ]) (no_bill Limits)
        → Ends (bill_for kind ch u) t places es (first_wrong ((not b, Limits) ∷ bad_entry o)) []
        (t, bill_answer (cond b (elim o as (λ _. Bill) [ Some x ↦ no_bill (BadEntry x) | None ↦ bill_of z n k ]) (no_bill Limits)))
    bills_end kind ch u true None z n k is = record { few = omega arith; end = ((is, refl), tt) }
    bills_end kind ch u true (Some x) z n k is = (refl, refl, refl, tt)
    bills_end kind ch u false o z n k is = (refl, refl, refl, tt)

    -- EVERY CALL
    all_end : Lawful m → (q : Call) → All (Ends q t places es (first_wrong (tests m q t places es))) (dialogue m q t places es)
    all_end law (set_up w) = one_limit (set_up w) t places es (m.offers w) Limits tt None _ (record { few = omega arith; end = (refl, tt) })
    all_end law draw = draws_end law t.condition
    all_end law (book p n) =
        one_limit (book p n) t places es (book_limits places (length es) n) Limits tt _ _ (one_limit (book p n) t places es (fits_slip t p) WrongSlip tt _ _
        (one_test (book p n) t places es (eqb (length es) places) Full tt None _ (enters_late p n)))
    all_end law (write_off p) = one_limit (write_off p) t places es (fits_slip t p) WrongSlip tt None _ (record { few = omega arith; end = (refl, tt) })
    all_end law (look ch k) = one_limit (look ch k) t places es (look_limits m ch k) Limits tt _ _ (looks_end ch k t.condition refl)
    all_end law (bill_for kind ch u) = bills_end kind ch u (bill_limits kind places (length es) ch u) (first_bad kind 0 es) _ _ _ refl

pub rules_always : (m : Datasheet) → Lawful m → RulesAlways m
rules_always m law q t t' places es ss r f =
    let o = first_wrong (tests m q t places es) in
    ended_by m q t places es ss t' r o refl (followed (Ends m q t places es o) f (all_end m t places es law q))
