-- A meter keeps its number.
use Rattle.std.proofs.Common.{◌≡◌, ℕ, List, refl, ◌∙◌}
use Rattle.account.proofs.CallsKeepRules.{rules_always}
use Rattle.account.proofs.CallsLeave.{keeps_number}
use Rattle.account.specs.Dialogue.{Meter}
use Rattle.account.specs.History.{History, Reached, called, cycle_passed, made}
use Rattle.chip.specs.Datasheet.{Datasheet}
use Rattle.chip.specs.Laws.{Lawful}
use Rattle.chip.specs.declared.entry.Entry.{Entry}
use Rattle.chip.specs.declared.state.State.{State}

pub serial_kept : (m : Datasheet) → Lawful m → {places number last : ℕ} {t : Meter} {c : State} {es : List Entry} {h : History} → Reached m places number last t c es h
    → t.meter ≡ number
serial_kept m law made = refl
serial_kept m law (cycle_passed ks l r) = serial_kept m law r
serial_kept m law {places} (called {t} {t'} {es = es} {ss = ss} {r = a} q r f al) = keeps_number m (rules_always m law q t t' places es ss a f) ∙ serial_kept m law r
