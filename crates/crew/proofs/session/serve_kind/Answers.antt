use Rattle.std.proofs.lemmas.Result.{on_ok_weaker}
use Rattle.crew.proofs.Sessions.{printed_at_kind}
use Rattle.crew.proofs.session.serve_kind.Goals as goal

pub returns-in-Pac193x : goal.returns-in-Pac193x
returns-in-Pac193x c =
    on_ok_weaker c.serve-answered.result.0 (λ p. printed_at_kind (λ bs ps s. s) c.in-Pac193x.is p) c.serve-answered.ensures

pub returns-in-Pac194x : goal.returns-in-Pac194x
returns-in-Pac194x c =
    on_ok_weaker c.serve-answered-in-Pac194x.result.0 (λ p. printed_at_kind (λ bs ps s. s) c.in-Pac194x.is p) c.serve-answered-in-Pac194x.ensures
