use Rattle.std.proofs.Common.{◌≡◌, Some, true, ap, refl, sym, ◌∙◌, subst}
use Rattle.desk.proofs.Hands.{from_hand, given_up_so, never_refused}
use Rattle.desk.proofs.desk.Desk.write_off.Goals as goal
use Rattle.desk.specs.Hand.{fits_in_hand}
use Rattle.desk.specs.Standing.{hand_of}

pub unreachable-requires : goal.unreachable-requires
unreachable-requires g c =
    let hand : c.args.self.now.slip ≡ Some c.in_ok-open.open = sym c.take.ensures.value ∙ c.in_ok-open.ensures.ok_part in
    let fits = subst (λ h. fits_in_hand c.args.self.now.meter h ≡ true) hand c.args.self.now.fits in
    never_refused g.W.Make.Make.sheet _ _ c.args.self.now.meter c.write_off.new.self c.in_ok-open.open fits c.in-Err.ensures.made

pub returns-clause-made : goal.returns-clause-made
returns-clause-made g c =
    let m = g.W.Make.Make.sheet in
    let desk = c.args.self.now in
    let hand : c.args.self.now.slip ≡ Some c.in_ok-open.open = sym c.take.ensures.value ∙ c.in_ok-open.ensures.ok_part in
    let fits = subst (λ h. fits_in_hand desk.meter h ≡ true) hand desk.fits in
    let gone = given_up_so m _ _ desk.meter c.write_off.new.self c.in_ok-open.open fits c.in-Ok.ensures.made in
    from_hand m g.W.Wire.chip g.W.Wire.goes _ _ _ _ _ hand
    (record { meter = c.in-Ok.ensures.made; taken = refl; wire = gone.2; hand = ap hand_of c.take.ensures.after; book = refl; scratch = refl })
