use Rattle.std.proofs.Common.{arith}
use Rattle.chip.proofs.Bytes.{more_room}
use Rattle.chip.proofs.cursor.Cursor.take.Goals as goal

-- fewer bytes than were asked for write a smaller number
pub returns-clause-bound : goal.returns-clause-bound
returns-clause-bound c = more_room _ _ _ c.number_of.ensures.bound (omega (arith, c.split_at.ensures.front_len))
