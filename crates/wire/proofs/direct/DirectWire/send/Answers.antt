use Rattle.wire.specs.Directs.{direct_sends}
use Rattle.wire.proofs.direct.DirectWire.send.Goals as goal

pub returns : goal.returns
returns g c = direct_sends g.M.Make.sheet (λ s. s.chip.state) c.send.ensures.answer c.send.ensures.after
