use Rattle.std.proofs.Common.{◌≡◌, ◌++◌, take, drop}
use Rattle.chip.specs.Registers.{big_endian}
use Rattle.chip.proofs.register.put.Given as goal

abbrev pub invariant-loop-i : goal.invariant-loop-i
invariant-loop-i l = l.bytes ≡ take l.i (big_endian l.width l.value) ++ drop l.i l.initial.bytes
