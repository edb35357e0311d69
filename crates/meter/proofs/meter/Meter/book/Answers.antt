use Rattle.std.proofs.Common.{length, sym, refl, subst}
use Rattle.std.proofs.lemmas.Bool.{lt-leb}
use Rattle.account.specs.Calls.{MadeBookCall}
use Rattle.account.specs.Dialogue.{at, book, entered, ready, refused}
use Rattle.book.specs.Book.{pages, put}
use Rattle.meter.proofs.Spending.{given_back, put_so}
use Rattle.meter.proofs.meter.Meter.book.Goals as goal
use Rattle.meter.specs.Views.{meter_of, slip_of}

pub returns-in-Ok : goal.returns-in-Ok
returns-in-Ok g c =
    let m = g.W.Make.Make.sheet in
    let b = pages c.args.book.now in
    let s = c.args.scratch.now in
    let found = c.in-Ok.ensures.found in
    let written = put_so c.in-Ok.entry b _ _ (lt-leb (length b.places) b.filled found.room) c.put.ensures.written in
    record {
      made = subst (λ x. MadeBookCall m g.W.Wire.chip g.W.Wire.goes (book (slip_of c.args.slip) (length s)) (meter_of c.args.self.now) c.args.self.now.wire b s
          (at (meter_of c.entry_for.new.self) ready) c.entry_for.new.self.wire x c.entry_for.new.scratch (entered c.in-Ok.entry)) (sym written)
          (subst (λ t'. MadeBookCall m g.W.Wire.chip g.W.Wire.goes (book (slip_of c.args.slip) (length s)) (meter_of c.args.self.now) c.args.self.now.wire b s
          (at t' ready) c.entry_for.new.self.wire (put c.in-Ok.entry b) c.entry_for.new.scratch (entered c.in-Ok.entry)) (sym c.in-Ok.ensures.meter) found.made);
      back = tt;
      same = c.put.ensures.same;
    }

pub returns-in-Err : goal.returns-in-Err
returns-in-Err g c =
    let m = g.W.Make.Make.sheet in
    let b = pages c.args.book.now in
    let s = c.args.scratch.now in
    record {
      made = subst (λ e. MadeBookCall m g.W.Wire.chip g.W.Wire.goes (book (slip_of c.args.slip) (length s)) (meter_of c.args.self.now) c.args.self.now.wire b s
          (meter_of c.entry_for.new.self) c.entry_for.new.self.wire b c.entry_for.new.scratch (refused e)) (sym c.refused.ensures.1)
          (subst (λ t'. MadeBookCall m g.W.Wire.chip g.W.Wire.goes (book (slip_of c.args.slip) (length s)) (meter_of c.args.self.now) c.args.self.now.wire b s
          t' c.entry_for.new.self.wire b c.entry_for.new.scratch (refused c.in-Err.refusal)) (sym c.in-Err.ensures.meter) c.in-Err.ensures.found);
      back = given_back c.refused.ensures.0;
      same = refl;
    }
