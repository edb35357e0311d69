use Rattle.std.proofs.Common.{◌≡◌, ◌++◌, map, take, drop}
use Rattle.chip.specs.Chip.{cleared}
use Rattle.chip.proofs.state.clear_all.Given as goal

abbrev pub invariant-loop-channel : goal.invariant-loop-channel
invariant-loop-channel l = l.channel-items ≡ map cleared (take l.channel-index l.initial.channel-items) ++ drop l.channel-index l.initial.channel-items
