use Rattle.wire.specs.Directs.{direct_reads}
use Rattle.wire.proofs.direct.DirectWire.read.Goals as goal

pub returns-clause-went : goal.returns-clause-went
returns-clause-went g c = direct_reads g.M.Make.sheet (λ s. s.chip.state) _ c.read.ensures.answer c.read.ensures.filled
