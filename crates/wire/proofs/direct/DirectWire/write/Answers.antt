use Rattle.wire.specs.Directs.{direct_writes}
use Rattle.wire.proofs.direct.DirectWire.write.Goals as goal

pub returns : goal.returns
returns g c = direct_writes g.M.Make.sheet (λ s. s.chip.state) c.write.ensures.answer c.write.ensures.after
