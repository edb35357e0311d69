use Rattle.std.proofs.Common.{◌≡◌, List, Ok, Err, Result, sym, refl, ap, ◌∙◌}
use Rattle.std.proofs.lemmas.Result.{err_from_is_err_and}
use Rattle.account.proofs.Wires.{ends_followed}
use Rattle.account.specs.Dialogue.{asks_mark, draw, draws_at, refreshes}
use Rattle.account.specs.History.{entries_after}
use Rattle.chip.specs.declared.entry.Entry.{Entry}
use Rattle.chip.specs.declared.refusal.Refusal.{Refusal}
use Rattle.meter.proofs.Alone.{made_alone}
use Rattle.meter.proofs.Drawing.{asks_only_in_doubt, draw_refused, else_refreshes, numbers_left, numbers_spent, some_way}
use Rattle.meter.proofs.meter.Meter.draw.Goals as goal
use Rattle.meter.specs.Views.{condition_of, draw_answer, meter_of}
use Rattle.meter.specs.declared.slip.Slip.{Slip}

-- a draw adds no entry
none_added : (r : Result Slip Refusal) (es : List Entry) → es ≡ entries_after (draw_answer r) es
none_added (Ok p) es = refl
none_added (Err e) es = refl

pub returns-then-self-clause-made : goal.returns-then-self-clause-made
returns-then-self-clause-made g c =
    let m = g.W.Make.Make.sheet in
    let t = meter_of c.args.self.now in
    let w = some_way m t c.args.self.now.condition c.in_ok-way.way (sym c.in_ok-way.ensures) in
    made_alone m g.met.W.Wire.meant g.met.W.Make.Make.lawful draw
    (λ places es. rw w.1 (numbers_spent g.W.Wire.goes t w.0 c.if-self.true)) (λ s. tt) (λ ss s. refl) (λ es. refl)

pub returns-in_err-way-clause-made : goal.returns-in_err-way-clause-made
returns-in_err-way-clause-made g c =
    let m = g.W.Make.Make.sheet in
    let t = meter_of c.args.self.now in
    let p = err_from_is_err_and c.from_residual.result c.from_residual.ensures.1 in
    rw (p.1, p.2) (made_alone m g.met.W.Wire.meant g.met.W.Make.Make.lawful draw
    (λ places es. rw (draw_refused m t c.args.self.now.condition _ (sym c.in_err-way.ensures)) ends_followed) (λ s. tt) (λ ss s. refl) (λ es. refl))

pub returns-in-AskMark-clause-made : goal.returns-in-AskMark-clause-made
returns-in-AskMark-clause-made g c =
    let m = g.W.Make.Make.sheet in
    let t = meter_of c.args.self.now in
    let doubt = asks_only_in_doubt m t c.args.self.now.condition (sym c.in_ok-way.ensures ∙ ap Ok c.in-AskMark.is) in
    let way = ap (λ k. draws_at m t (condition_of k)) doubt in
    made_alone m g.met.W.Wire.meant g.met.W.Make.Make.lawful draw
    (λ places es. rw way (numbers_left g.W.Wire.goes t (asks_mark m t) c.if-self.false (c.draw_in_doubt.ensures.followed doubt))) (λ s. tt) (λ ss s. refl)
    (none_added c.draw_in_doubt.result)

pub returns-in_default-clause-made : goal.returns-in_default-clause-made
returns-in_default-clause-made g c =
    let m = g.W.Make.Make.sheet in
    let t = meter_of c.args.self.now in
    let way = else_refreshes m t c.args.self.now.condition c.in_ok-way.way (sym c.in_ok-way.ensures) c.in_default.not-AskMark in
    made_alone m g.met.W.Wire.meant g.met.W.Make.Make.lawful draw
    (λ places es. rw way (numbers_left g.W.Wire.goes t (refreshes m t) c.if-self.false c.refresh.ensures.followed)) (λ s. tt) (λ ss s. refl)
    (none_added c.refresh.result)
