use Rattle.std.proofs.Common.{rules, ap, ◌∙◌}
use Rattle.crew.proofs.Runs.{begins}
use Rattle.crew.proofs.post.Post.new.Goals as goal
use Rattle.crew.specs.Runs.{chip_at}
use Rattle.desk.specs.Standing.{standing}

pub invariant_of-result : goal.invariant_of-result
invariant_of-result g c =
    let fresh = ap (λ s. chip_at s.below) c.new-2.ensures ∙ c.new.ensures in
    record { run = ∣ begins g.M.Make.sheet chip_at c.new-2.result _ (standing c.new-3.result) c.new-3.ensures.opened (search rules) fresh ∣₁ }
