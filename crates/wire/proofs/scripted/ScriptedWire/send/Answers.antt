use Rattle.std.proofs.Common.{[], refl, rules}
use Rattle.chip.specs.Chip.{send}
use Rattle.wire.proofs.Plays.{played}
use Rattle.wire.specs.Wire.{heard_of}
use Rattle.wire.proofs.scripted.ScriptedWire.send.Goals as goal

pub returns : goal.returns
returns g c = played g.W.Wire.goes (send c.args.command) refl (λ r. heard_of r []) (λ e. refl) c.play.ensures (λ u w r d. search rules)
