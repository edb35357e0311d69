use Rattle.std.proofs.Common.{◌≡◌, Some, Ok, Err, true, sym, ap, ◌∙◌, subst}
use Rattle.account.specs.Dialogue.{fits_slip}
use Rattle.desk.proofs.Hands.{refused_booking_keeps}
use Rattle.desk.proofs.desk.Desk.book.Goals as goal
use Rattle.desk.specs.Hand.{fits_in_hand}
use Rattle.desk.specs.Promises.{BookMade}
use Rattle.book.specs.Book.{pages}
use Rattle.desk.specs.Standing.{Standing, hand_of, standing}
use Rattle.meter.specs.Views.{meter_of, slip_of}

pub invariant_of-self-in-Err : goal.invariant_of-self-in-Err
invariant_of-self-in-Err g c =
    let hand : c.args.self.now.slip ≡ Some c.in_ok-slip.slip = sym c.take.ensures.value ∙ c.in_ok-slip.ensures.ok_part in
    let fits = subst (λ h. fits_in_hand c.args.self.now.meter h ≡ true) hand c.args.self.now.fits in
    record {
      fits = subst (λ p. fits_slip (meter_of c.book.new.self) (slip_of p) ≡ true) (sym c.in-Err.ensures.back.same)
          (refused_booking_keeps g.W.Make.Make.sheet _ _ c.args.self.now.meter c.book.new.self c.in_ok-slip.slip _ c.in-Err.field-0.refusal fits c.in-Err.ensures.made);
      unspent = λ p is. let back = c.in-Err.ensures.back.unspent (c.args.self.now.unspent _ hand) in cc;
    }

pub returns-in-Ok-clause-made : goal.returns-in-Ok-clause-made
returns-in-Ok-clause-made g c =
    let hand : c.args.self.now.slip ≡ Some c.in_ok-slip.slip = sym c.take.ensures.value ∙ c.in_ok-slip.ensures.ok_part in
    let after : Standing g.row.W.Denot = record {
      meter = meter_of c.book.new.self;
      wire = c.book.new.self.wire;
      hand = hand_of c.take.new.self;
      book = pages c.book.new.book;
      scratch = c.book.new.scratch;
    } in
    subst (λ h. BookMade g.W.Make.Make.sheet g.W.Wire.chip g.W.Wire.goes (hand_of h) (standing c.args.self.now) (Ok c.in-Ok.entry) after) (sym hand)
    (record { made = c.in-Ok.ensures.made; hand = ap hand_of c.take.ensures.after })

pub returns-in-Err-clause-made : goal.returns-in-Err-clause-made
returns-in-Err-clause-made g c =
    let hand : c.args.self.now.slip ≡ Some c.in_ok-slip.slip = sym c.take.ensures.value ∙ c.in_ok-slip.ensures.ok_part in
    let after : Standing g.row.W.Denot = record {
      meter = meter_of c.book.new.self;
      wire = c.book.new.self.wire;
      hand = Some (slip_of c.in-Err.field-0.slip);
      book = pages c.book.new.book;
      scratch = c.book.new.scratch;
    } in
    subst (λ h. BookMade g.W.Make.Make.sheet g.W.Wire.chip g.W.Wire.goes (hand_of h) (standing c.args.self.now) (Err c.in-Err.field-0.refusal) after) (sym hand)
    (record { made = c.in-Err.ensures.made; hand = ap (λ p. Some (slip_of p)) c.in-Err.ensures.back.same })
