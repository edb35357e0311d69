use Rattle.desk.proofs.Hands.{look_keeps}
use Rattle.desk.proofs.desk.Desk.look.Goals as goal

pub invariant_of-self : goal.invariant_of-self
invariant_of-self g c = record {
  fits = look_keeps g.W.Make.Make.sheet _ _ c.args.self.now.meter c.look.new.self c.args.self.now.slip c.args.channel c.args.quantity _ _ c.look.result c.args.self.now.fits
      c.look.ensures;
  unspent = c.args.self.now.unspent;
}
