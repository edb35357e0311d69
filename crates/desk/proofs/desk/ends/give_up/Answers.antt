use Rattle.std.proofs.Common.{◌≡◌, true, sym, subst}
use Rattle.account.specs.Dialogue.{given_up, write_off}
use Rattle.desk.proofs.Hands.{given_up_so, never_refused}
use Rattle.desk.proofs.desk.ends.give_up.Goals as goal
use Rattle.desk.specs.Hand.{fits_in_hand}
use Rattle.desk.specs.Promises.{Ended, chip_below, goes_scripted}
use Rattle.desk.specs.Standing.{hand_of}
use Rattle.meter.specs.Promises.{MadeAlone}
use Rattle.meter.specs.Views.{meter_of, slip_of}

pub unreachable-requires : goal.unreachable-requires
unreachable-requires g c =
    let fits = subst (λ h. fits_in_hand c.args.meter.now h ≡ true) c.in-Some.is c.requires in
    never_refused g.W.Make.Make.sheet _ _ c.args.meter.now c.write_off.new.self c.in-Some.slip fits c.in-Err.ensures.made

pub returns-in-Ok-clause-written_off : goal.returns-in-Ok-clause-written_off
returns-in-Ok-clause-written_off g c =
    let m = g.W.Make.Make.sheet in
    let t = meter_of c.args.meter.now in
    let fits = subst (λ h. fits_in_hand c.args.meter.now h ≡ true) c.in-Some.is c.requires in
    let gone = given_up_so m _ _ c.args.meter.now c.write_off.new.self c.in-Some.slip fits c.in-Ok.ensures.made in
    subst (λ h. Ended m g.W.Wire.chip g.W.Wire.goes (hand_of h) t c.args.meter.now.wire c.write_off.new.self.wire) (sym c.in-Some.is)
    (subst (λ x. MadeAlone m (chip_below g.W.Wire.chip) (goes_scripted g.W.Wire.goes) (write_off (slip_of c.in-Some.slip)) t c.args.meter.now.wire x c.write_off.new.self.wire given_up) gone.0
    c.in-Ok.ensures.made)

pub returns-in-Ok-clause-wire : goal.returns-in-Ok-clause-wire
returns-in-Ok-clause-wire g c =
    let fits = subst (λ h. fits_in_hand c.args.meter.now h ≡ true) c.in-Some.is c.requires in
    (given_up_so g.W.Make.Make.sheet _ _ c.args.meter.now c.write_off.new.self c.in-Some.slip fits c.in-Ok.ensures.made).2
