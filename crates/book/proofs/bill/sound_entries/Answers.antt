use Rattle.std.proofs.Common.{arith}
use Rattle.book.proofs.Totals.{sound_or_spoilt}
use Rattle.book.proofs.bill.sound_entries.Goals as goal

pub overflow_sub-result : goal.overflow_sub-result
overflow_sub-result c = omega (arith, sound_or_spoilt c.args.entries.now)

pub returns : goal.returns
returns c = omega (arith, sound_or_spoilt c.args.entries.now)
