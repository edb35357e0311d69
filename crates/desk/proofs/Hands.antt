-- The slip in hand fits after each call that leaves it there.
use Rattle.std.proofs.Common.{◌≡◌, ℕ, Bool, true, false, leb, List, [], length, Some, None, Ok, Err, Option, Result, sym, refl, ap₂, subst}
use Rattle.std.proofs.lemmas.Bool.{leb-false, leb-true}
use Rattle.account.specs.CallRules.{RulesKept}
use Rattle.account.specs.Calls.{MadeBookCall}
use Rattle.account.specs.Dialogue.{Answer, Call, Follows, book, dialogue, draw, fits_slip, given_up, handed, look, refused, set_up, write_off, wrote_off}
use Rattle.account.specs.Dialogue as machine
use Rattle.account.specs.Steps.{Step, Trip, at_rest, onward}
use Rattle.book.specs.Book.{Pages}
use Rattle.chip.specs.Datasheet.{Datasheet, Wanted}
use Rattle.chip.specs.declared.refusal.Refusal.{Refusal}
use Rattle.chip.specs.declared.state.State.{State}
use Rattle.desk.proofs.Slips.{drawn_open, draw_refused, look_leaves_open, refusal_leaves_open, set_up_leaves_open, write_off_taken}
use Rattle.desk.specs.Hand.{fits_in_hand}
use Rattle.desk.specs.Promises.{SlipWrittenOff, WriteOffMade}
use Rattle.desk.specs.Standing.{Standing, hand_of}
use Rattle.meter.specs.declared.meter.Meter.{Meter}
use Rattle.meter.specs.declared.reading.Reading.{Reading}
use Rattle.meter.specs.declared.slip.Slip.{Slip}
use Rattle.meter.specs.Promises.{LookMade, MadeAlone}
use Rattle.meter.specs.Views.{meter_of, slip_of}
use Rattle.wire.specs.Wire.{Goes}

-- at rest the wire is as it was
stayed : {V : Type 0} {goes : Goes V} {u w : V} {ss : List Step} → ss ≡ [] → Trip goes u ss w → w ≡ u
stayed e at_rest = refl
stayed e (onward g t) = cc

module _ (m : Datasheet) {V : Type 0} (chip_of : V → State) (goes : Goes V) where
  -- the rules of a call that takes no book
  rules : {q : Call} {t : machine.Meter} {u : V} {t' : machine.Meter} {w : V} {r : Answer} → (a : MadeAlone m chip_of goes q t u t' w r)
      → RulesKept m q t 0 [] (a.made 0 [] []).made.steps t' r
  rules a = (a.made 0 [] []).rules

  -- a slip in hand of an open meter stays open through a set-up, a look and a draw
  pub set_up_keeps : (t t' : Meter V) (hand : Option Slip) (x : Wanted) {u w : V} {r : Answer} → fits_in_hand t hand ≡ true
      → MadeAlone m chip_of goes (set_up x) (meter_of t) u (meter_of t') w r → fits_in_hand t' hand ≡ true
  set_up_keeps t t' None x fits a = refl
  set_up_keeps t t' (Some p) x fits a = set_up_leaves_open m (slip_of p) fits x _ (rules a)

  looked_at : (t t' : Meter V) (hand : Option Slip) (ch q : ℕ) {u w : V} {r : Answer} → fits_in_hand t hand ≡ true
      → MadeAlone m chip_of goes (look ch q) (meter_of t) u (meter_of t') w r → fits_in_hand t' hand ≡ true
  looked_at t t' None ch q fits a = refl
  looked_at t t' (Some p) ch q fits a = look_leaves_open m (slip_of p) fits ch q _ (rules a)

  pub look_keeps : (t t' : Meter V) (hand : Option Slip) (ch q : ℕ) (u w : V) (r : Result Reading Refusal) → fits_in_hand t hand ≡ true
      → LookMade m chip_of goes ch q (meter_of t) u (meter_of t') w r → fits_in_hand t' hand ≡ true
  look_keeps t t' hand ch q u w (Ok x) fits a = looked_at t t' hand ch q fits a.made
  look_keeps t t' hand ch q u w (Err e) fits a = looked_at t t' hand ch q fits a

  pub draw_keeps : (t t' : Meter V) (hand : Option Slip) {u w : V} {r : Answer} → fits_in_hand t hand ≡ true
      → MadeAlone m chip_of goes draw (meter_of t) u (meter_of t') w r → fits_in_hand t' hand ≡ true
  draw_keeps t t' None fits a = refl
  draw_keeps t t' (Some p) fits a = subst (λ x. fits_slip x (slip_of p) ≡ true) (sym (draw_refused m (slip_of p) fits (rules a)).0) fits

  -- a draw that hands out a slip finds no other in hand
  pub hand_was_empty : (t t' : Meter V) (hand : Option Slip) {u w : V} {p : machine.Slip} → fits_in_hand t hand ≡ true
      → MadeAlone m chip_of goes draw (meter_of t) u (meter_of t') w (handed p) → hand ≡ None
  hand_was_empty t t' None fits a = refl
  hand_was_empty t t' (Some x) fits a = let e = (draw_refused m (slip_of x) fits (rules a)).1 in cc

  -- the slip of a draw is the meter's open one, and names the meter
  pub drawn_fits : (t t' : Meter V) (p : Slip) {u w : V} → MadeAlone m chip_of goes draw (meter_of t) u (meter_of t') w (handed (slip_of p))
      → (slip_of p).meter ≡ (meter_of t).meter × (fits_slip (meter_of t') (slip_of p) ≡ true)
  drawn_fits t t' p a = let h = drawn_open m (rules a) in (h.meter, h.fits)

  -- a refused booking of the slip leaves it open
  pub refused_booking_keeps : (t t' : Meter V) (p : Slip) (n : ℕ) {u w : V} {b b' : Pages} {s s' : List ℕ} (e : Refusal) → fits_slip (meter_of t) (slip_of p) ≡ true
      → MadeBookCall m chip_of goes (book (slip_of p) n) (meter_of t) u b s (meter_of t') w b' s' (refused e) → fits_slip (meter_of t') (slip_of p) ≡ true
  refused_booking_keeps t t' p n {b = b} e fits a = on (leb b.filled (length b.places)) refl
    where
      on : (x : Bool) → leb b.filled (length b.places) ≡ x → fits_slip (meter_of t') (slip_of p) ≡ true
      on true is = refusal_leaves_open m (slip_of p) fits (λ same. cc) (a.made (leb-true _ _ is)).rules
      on false is = subst (λ x. fits_slip x (slip_of p) ≡ true) (sym (a.overfull (leb-false _ _ is)).1) fits

  -- a write-off of the open slip is taken, and sends nothing
  pub given_up_so : (t t' : Meter V) (p : Slip) {u w : V} {r : Answer} → fits_slip (meter_of t) (slip_of p) ≡ true
      → MadeAlone m chip_of goes (write_off (slip_of p)) (meter_of t) u (meter_of t') w r → (meter_of t' ≡ wrote_off (meter_of t)) × (r ≡ given_up) × (w ≡ u)
  given_up_so t t' p fits a =
      let e = write_off_taken m (slip_of p) fits _ (rules a) in
      (e.1, e.2, stayed e.0 (a.made 0 [] []).made.trip)

  pub never_refused : (t t' : Meter V) (p : Slip) {u w : V} {e : Refusal} → fits_slip (meter_of t) (slip_of p) ≡ true
      → MadeAlone m chip_of goes (write_off (slip_of p)) (meter_of t) u (meter_of t') w (refused e) → ⊥
  never_refused t t' p fits a = let h = (given_up_so t t' p fits a).1 in cc

-- the machine's slip, under the meter's number and the draw number that was answered
pub named_so : (p : Slip) {meter draw : ℕ} → (slip_of p).meter ≡ meter → draw ≡ p.draw → slip_of p ≡ record { meter = meter; draw = draw }
named_so p e d = let named : ℕ → ℕ → machine.Slip = λ a b. record { meter = a; draw = b } in ap₂ named e (sym d)

module _ (m : Datasheet) {W : Type 0} (chip_of : W → State) (goes : Goes W) where
  -- what a write-off promises is told of what was in hand
  pub from_hand : (hand : Option Slip) (p : Slip) (d : Standing W) (r : Result Unit Refusal) (d' : Standing W) → hand ≡ Some p
      → SlipWrittenOff m chip_of goes (slip_of p) d r d' → WriteOffMade m chip_of goes (hand_of hand) d r d'
  from_hand hand p d r d' e w = subst (λ h. WriteOffMade m chip_of goes (hand_of h) d r d') (sym e) w
