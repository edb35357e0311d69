use Rattle.std.proofs.Common.{sym, ◌∙◌, arith}
use Rattle.std.proofs.lemmas.Int.{ints}
use Rattle.book.proofs.Totals.{weighed_all, weighed_more}
use Rattle.book.proofs.bill.weighed.Goals as goal

pub loop-entry-preserved : goal.loop-entry-preserved
loop-entry-preserved c = (
  omega (arith, ints),
  weighed_more c.args.channel c.args.entries.now c.loop-entry.entry-index _ _ _ _ c.loop-entry-test.true c.worth-total.ensures.value (omega (arith, ints))
      ∙ c.loop-entry.invariant.1,
)

pub returns : goal.returns
returns c = record {
  value = sym (weighed_all c.args.channel c.args.entries.now c.loop-entry.entry-index _ c.loop-entry-test.false) ∙ c.loop-entry.invariant.1;
  bound = omega arith;
}
