use Rattle.std.proofs.Common.{[], ◌≡◌, Some, None, Option, sym, subst, refl, ◌∙◌}
use Rattle.std.proofs.Math.Logic.{∥∥₁_elim, ∥∥₁_map}
use Rattle.std.proofs.Props.{props}
use Rattle.crew.proofs.Readings.{read_none, read_some}
use Rattle.crew.proofs.Runs.{goes_onward, still_on}
use Rattle.crew.proofs.post.Post.answer.Goals as goal
use Rattle.crew.specs.Asks.{asked}
use Rattle.crew.specs.Obeyed.{unreadable}
use Rattle.crew.specs.Runs.{GoesOn, HasRoom, LineAnswered, OnRun, chip_at, goes_to, line_shows, passes_to}
use Rattle.crew.specs.declared.request.Request.{Request}
use Rattle.desk.specs.Standing.{standing}

pub invariant_of-self : goal.invariant_of-self
invariant_of-self g c =
    let m = g.M.Make.sheet in
    let d = standing c.args.self.now.desk in
    let d' = standing c.obey.new.desk in
    record {
      run = ∥∥₁_map c.args.self.now.run
          (λ o. still_on m chip_at _ d d' o (goes_onward m chip_at (goes_to m) (passes_to m) c.in-Ok.request d c.obey.result d' c.obey.ensures.obeyed o));
    }

pub returns-in-Ok-clause-answered : goal.returns-in-Ok-clause-answered
returns-in-Ok-clause-answered g c =
    let m = g.M.Make.sheet in
    let some : asked c.args.line.now ≡ Some c.in-Ok.request = read_some _ _ (sym c.read.ensures ∙ c.in-Ok.is) in
    subst
    (λ (o : Option Request). LineAnswered m o (standing c.args.self.now.desk) (record { word = c.of.result; outcome = c.obey.result }) (standing c.obey.new.desk))
    (sym some) (c.of.ensures, c.obey.ensures.obeyed)

pub returns-in-Err-clause-answered : goal.returns-in-Err-clause-answered
returns-in-Err-clause-answered g c =
    let m = g.M.Make.sheet in
    let none : asked c.args.line.now ≡ None = read_none _ _ (sym c.read.ensures ∙ c.in-Err.is) in
    subst (λ (o : Option Request). LineAnswered m o (standing c.args.self.now.desk) unreadable (standing c.args.self.now.desk)) (sym none)
    (refl, refl)

pub returns-in-Ok-clause-goes_on : goal.returns-in-Ok-clause-goes_on
returns-in-Ok-clause-goes_on g c =
    let m = g.M.Make.sheet in
    let d = standing c.args.self.now.desk in
    let d' = standing c.obey.new.desk in
    let some : asked c.args.line.now ≡ Some c.in-Ok.request = read_some _ _ (sym c.read.ensures ∙ c.in-Ok.is) in
    let room : HasRoom d = ∥∥₁_elim c.args.self.now.run (hlevel props) (λ o. o.room) in
    subst (λ (q : Option Request). GoesOn m chip_at (line_shows q c.obey.result) d d') (sym some) (record {
      on = λ h l.
          let o : OnRun m chip_at d = record { room = room; history = h; led = l } in
          (goes_onward m chip_at (goes_to m) (passes_to m) c.in-Ok.request d c.obey.result d' c.obey.ensures.obeyed o).on.on h l;
    })

pub returns-in-Err-clause-goes_on : goal.returns-in-Err-clause-goes_on
returns-in-Err-clause-goes_on g c =
    let m = g.M.Make.sheet in
    let d = standing c.args.self.now.desk in
    let none : asked c.args.line.now ≡ None = read_none _ _ (sym c.read.ensures ∙ c.in-Err.is) in
    subst (λ (q : Option Request). GoesOn m chip_at (line_shows q unreadable.outcome) d d) (sym none) (record { on = λ h l. ([], refl, l) })
