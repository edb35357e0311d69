use Rattle.std.proofs.Common.{◌+◌, length}
use Rattle.chip.proofs.Fills.{Filled}
use Rattle.chip.proofs.chip.Chip.fill.Given as goal

abbrev pub invariant-loop-address : goal.invariant-loop-address
invariant-loop-address g l = Filled g.M.Make.sheet l.self.state (l.address-end + 1) l.start (length l.initial.bytes) l.bytes l.at l.address
