use Rattle.std.proofs.Common.{◌+◌, drop, sym, ap, ◌∙◌, arith}
use Rattle.book.specs.Bill.{spoilt_entries}
use Rattle.book.proofs.Totals.{spoilt_all, spoilt_more, spoilt_still}
use Rattle.book.proofs.bill.spoilt_entries.Goals as goal
use Rattle.book.proofs.bill.spoilt_entries.Goals.{then-entry-ne0, else-entry-ne0}

pub loop-entry-preserved : goal.loop-entry-preserved
loop-entry-preserved c =
    let es = c.args.entries.now in
    let i = c.loop-entry.entry-index in
    elim c.if-entry-ne0.branch [
      | then-entry-ne0 w ↦ (
        omega (arith, w.spoilt-is),
        ap (λ n. n + spoilt_entries (drop (i + 1) es)) w.spoilt-is ∙ spoilt_more es i _ _ c.loop-entry-test.true w.if-entry-ne0.true ∙ c.loop-entry.invariant.1,
      )
      | else-entry-ne0 w ↦ (
        omega (arith, w.spoilt-is),
        ap (λ n. n + spoilt_entries (drop (i + 1) es)) w.spoilt-is ∙ spoilt_still es i _ _ c.loop-entry-test.true w.if-entry-ne0.false ∙ c.loop-entry.invariant.1,
      )
    ]

pub returns : goal.returns
returns c = sym (spoilt_all c.args.entries.now c.loop-entry.entry-index c.loop-entry.spoilt c.loop-entry-test.false) ∙ c.loop-entry.invariant.1
