use Rattle.std.proofs.Common.{sym, refl, subst, arith}
use Rattle.account.specs.Dialogue.{refused, write_off}
use Rattle.meter.proofs.Alone.{made_alone}
use Rattle.meter.proofs.Spending.{given_back, off_refused, off_taken}
use Rattle.meter.proofs.meter.Meter.write_off.Goals as goal
use Rattle.meter.specs.Promises.{MadeAlone}
use Rattle.meter.specs.Views.{meter_of, slip_of}

pub returns-then-not-takes : goal.returns-then-not-takes
returns-then-not-takes g c =
    let m = g.W.Make.Make.sheet in
    let t = meter_of c.args.self.now in
    let p = slip_of c.args.slip in
    record {
      made = subst (λ e. MadeAlone m g.W.Wire.chip g.W.Wire.goes (write_off p) t c.args.self.now.wire t c.args.self.now.wire (refused e)) (sym c.refused.ensures.1)
          (made_alone m g.met.W.Wire.meant g.met.W.Make.Make.lawful (write_off p)
          (λ places es. off_refused g.W.Wire.goes t p (sym c.if-not-takes.ensures.fits)) (λ s. tt) (λ ss s. refl) (λ es. refl));
      back = given_back c.refused.ensures.0;
    }

pub overflow_add-self : goal.overflow_add-self
overflow_add-self g c =
    let h = c.takes.ensures.room c.if-not-takes.false in
    omega (arith, c.args.self.now.numbers)

pub returns : goal.returns
returns g c = record {
  made = made_alone g.W.Make.Make.sheet g.met.W.Wire.meant g.met.W.Make.Make.lawful (write_off (slip_of c.args.slip))
      (λ places es. off_taken g.W.Wire.goes (meter_of c.args.self.now) (slip_of c.args.slip) (sym c.if-not-takes.ensures.fits)) (λ s. tt) (λ ss s. refl) (λ es. refl);
  back = tt;
}
