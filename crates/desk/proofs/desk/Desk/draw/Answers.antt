use Rattle.std.proofs.Common.{◌≡◌, None, Some, refl, ap, subst}
use Rattle.std.proofs.lemmas.Result.{err_from_is_err_and}
use Rattle.account.specs.Dialogue.{draw, handed}
use Rattle.desk.proofs.Hands.{draw_keeps, drawn_fits, hand_was_empty, named_so}
use Rattle.desk.proofs.desk.Desk.draw.Goals as goal
use Rattle.desk.specs.Promises.{chip_below, goes_scripted}
use Rattle.meter.specs.Promises.{MadeAlone}
use Rattle.meter.specs.Views.{meter_of}

pub invariant_of-self : goal.invariant_of-self
invariant_of-self g c = record {
  fits = draw_keeps g.W.Make.Make.sheet _ _ c.args.self.now.meter c.draw.new.self c.args.self.now.slip c.args.self.now.fits c.draw.ensures.made;
  unspent = c.args.self.now.unspent;
}

pub invariant_of-self-2 : goal.invariant_of-self-2
invariant_of-self-2 g c = record {
  fits = (drawn_fits g.W.Make.Make.sheet _ _ c.args.self.now.meter c.draw.new.self c.in_ok-slip.slip c.in_ok-slip.ensures.made).1;
  unspent = λ p is. let fresh = c.in_ok-slip.ensures.unspent in cc;
}

pub drop-self-requires : goal.drop-self-requires
drop-self-requires g c =
    let none : c.args.self.now.slip ≡ None = hand_was_empty g.W.Make.Make.sheet _ _ c.args.self.now.meter c.draw.new.self c.args.self.now.slip c.args.self.now.fits c.in_ok-slip.ensures.made in
    cc

pub returns-in_err-slip-clause-made : goal.returns-in_err-slip-clause-made
returns-in_err-slip-clause-made g c =
    let p = err_from_is_err_and c.from_residual.result c.from_residual.ensures.1 in
    rw (p.1, p.2) (record { meter = c.in_err-slip.ensures.made; hand = refl; book = refl; scratch = refl })

pub returns-clause-made : goal.returns-clause-made
returns-clause-made g c =
    let m = g.W.Make.Make.sheet in
    let t = meter_of c.args.self.now.meter in
    let named = named_so c.in_ok-slip.slip (drawn_fits m _ _ c.args.self.now.meter c.draw.new.self c.in_ok-slip.slip c.in_ok-slip.ensures.made).0 c.draw-draw.ensures in
    record {
      meter = subst (λ p. MadeAlone m (chip_below g.W.Wire.chip) (goes_scripted g.W.Wire.goes) draw t c.args.self.now.meter.wire (meter_of c.draw.new.self) c.draw.new.self.wire (handed p))
          named c.in_ok-slip.ensures.made;
      hand = ap Some named;
      book = refl;
      scratch = refl;
    }
