use Rattle.std.proofs.Common.{get_or, pos, ◌∙◌, arith, w64, SFits, rules}
use Rattle.std.proofs.lemmas.Int.{to_z-of_z}
use Rattle.book.proofs.Walks.{sum_passed, sum_refused, sums_passed}
use Rattle.book.proofs.ranges.sums_hold.Goals as goal

pub returns-then-not-sum_holds : goal.returns-then-not-sum_holds
returns-then-not-sum_holds g c =
    let i = c.loop-channel.channel in
    let f : SFits w64 (get_or c.args.sums.now i (pos 0)) = search rules in
    sum_refused g.M.Make.sheet c.args.two_way c.args.sums.now i (pos 0) _ c.loop-channel-test.true (to_z-of_z w64 _ f) c.if-not-sum_holds.ensures
    ∙ c.loop-channel.invariant

pub loop-channel-preserved : goal.loop-channel-preserved
loop-channel-preserved g c =
    let i = c.loop-channel.channel in
    let f : SFits w64 (get_or c.args.sums.now i (pos 0)) = search rules in
    sum_passed g.M.Make.sheet c.args.two_way c.args.sums.now i (pos 0) _ c.loop-channel-test.true (to_z-of_z w64 _ f) c.if-not-sum_holds.ensures
    ∙ c.loop-channel.invariant

pub returns : goal.returns
returns g c =
    sums_passed g.M.Make.sheet c.args.two_way c.args.sums.now c.loop-channel.channel c.loop-channel-test.false (omega arith)
    ∙ c.loop-channel.invariant
