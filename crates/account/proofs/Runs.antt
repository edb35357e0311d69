-- Every run keeps it.
use Rattle.std.proofs.Common.{◌≡◌, ℕ, ◌^◌, ◌<◌, Bool, List, ◌∷◌, length, Option, sym, refl, ap, ◌∙◌, inl, inr}
use Rattle.account.proofs.Keeping.{Kept, keep_cycle, keep_made}
use Rattle.account.proofs.Talks.{Inv, Post, Standing, call_ok}
use Rattle.account.proofs.Tracking.{cycled_keeps}
use Rattle.account.proofs.Walks.{walked}
use Rattle.chip.specs.Chip.{cycled}
use Rattle.account.specs.Dialogue.{Condition, Meter, in_doubt, ready, slip_out, unfinished}
use Rattle.account.specs.History.{History, Reached, Stretch, called, cycle_came, cycle_passed, made}
use Rattle.chip.specs.Laws.{Lawful}
use Rattle.chip.specs.Datasheet.{Datasheet, Wanted}
use Rattle.chip.specs.declared.entry.Entry.{Entry}
use Rattle.chip.specs.declared.state.State.{State}
use Rattle.chip.specs.declared.state.Codes.{Codes}

module _ (m : Datasheet) (law : Lawful m) where
  cycle_ok : (places before : ℕ) (k : Condition) (last offs : ℕ) (w : Wanted) (b : Bool) (c : State) (es : List Entry) (h : History) (ks : List Codes) → length ks ≡ 4
      → Standing m law places before k last offs w b c es h → Standing m law places before k last offs w b (cycled m ks c) es (cycle_came ks ∷ h)
  cycle_ok places before k last offs w b c es h ks l = on k
    where
      same : ((cycled m ks c).active ≡ c.active) × ((cycled m ks c).held.settings ≡ c.held.settings) × ((cycled m ks c).image ≡ c.image)
      same = cycled_keeps m c ks

      settled_still : c.held.settings ≡ c.active → (cycled m ks c).held.settings ≡ (cycled m ks c).active
      settled_still e = same.1 ∙ e ∙ sym same.0

      marked_still : {x : Bool} → m.mark c.active ≡ x → m.mark (cycled m ks c).active ≡ x
      marked_still e = ap (λ s. m.mark s) same.0 ∙ e

      kept : (last : ℕ) (u : Option Stretch) → Kept m places before last offs w u c es h → Kept m places before last offs w u (cycled m ks c) es (cycle_came ks ∷ h)
      kept last u k = keep_cycle m places u ks law l k

      on : (k : Condition) → Standing m law places before k last offs w b c es h → Standing m law places before k last offs w b (cycled m ks c) es (cycle_came ks ∷ h)
      on ready i = (kept _ _ i.0, settled_still i.1, marked_still i.2)
      on unfinished i = (kept _ _ i.0, marked_still i.1)
      on in_doubt (inl i) = inl (kept _ _ i.0, marked_still i.1)
      on in_doubt (inr i) = inr (i.0, kept _ _ i.1, settled_still i.2, marked_still i.3)
      on (slip_out n) i = (i.0, i.1, i.2, i.3, i.4, kept _ _ i.5, settled_still i.6, marked_still i.7)

  pub run_ok : {places number last : ℕ} {t : Meter} {c : State} {es : List Entry} {h : History} → last < 2 ^ 32 → Reached m places number last t c es h
      → Inv m law places last t c es h
  run_ok l made = (keep_made m _ _ law l, refl, law.fresh_mark)
  run_ok {places} {last = last} l (cycle_passed {t} {c} {es} {h} ks lk r) =
      cycle_ok places last t.condition t.last t.write_offs t.wanted t.mark c es h ks lk (run_ok l r)
  run_ok {places} {last = last} l (called {t} {c = c} {es = es} {h = h} q r f al) = walked m (Post m law places last es) h f al (call_ok m law places last q t es c h (run_ok l r))
