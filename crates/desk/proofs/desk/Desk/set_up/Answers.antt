use Rattle.desk.proofs.Hands.{set_up_keeps}
use Rattle.desk.proofs.desk.Desk.set_up.Goals as goal

pub invariant_of-self : goal.invariant_of-self
invariant_of-self g c = record {
  fits = set_up_keeps g.W.Make.Make.sheet _ _ c.args.self.now.meter c.set_up.new.self c.args.self.now.slip _ c.args.self.now.fits c.set_up.ensures;
  unspent = c.args.self.now.unspent;
}
