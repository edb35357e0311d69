-- A call along events is a plain call between cycles.
use Rattle.std.proofs.Common.{◌≡◌, Bool, cond, List, [], ◌∷◌, sym, refl, ap, ◌∙◌, subst}
use Rattle.chip.specs.Chip.{Request, read, send, write}
use Rattle.chip.specs.Datasheet.{Datasheet}
use Rattle.chip.specs.Laws.{Every}
use Rattle.chip.specs.declared.state.State.{State}
use Rattle.account.proofs.Tracking.{cycled_keeps}
use Rattle.account.specs.Dialogue.{Answer, Follows, Meter, Way, asks, ended, ends, stepped}
use Rattle.account.specs.History.{History, carried_in, carried_out, cycle_came}
use Rattle.account.specs.Steps.{Along, Step, goes_on, stays}
use Rattle.busy.proofs.Calms.{Calm, Reads}
use Rattle.busy.proofs.Chips.{cycled_by_active, cycled_by_image, read_at, write_crosses}
use Rattle.busy.proofs.Histories.{Still, alike, alike_came, alike_carried, alike_then, came_past_request, steps_past}
use Rattle.busy.specs.Events.{Event, Through, after_send, at_end, before_send, by_conversion, by_transaction, conversion, cycles_in, happened_in, steps_in, transaction}
use Rattle.busy.specs.Plain.{Alike, PlainCall, came, cycled_by, requests_of}

module _ (m : Datasheet) where
  -- some reads at a chip that stands still, and the cycles behind them
  record Behind (s : Way) (a : Meter × Answer) (c d : State) (vs : List Event) (c' : State) : Type 0 where
    steps : List Step
    follows : Follows s steps a
    requests : requests_of steps ≡ requests_of (steps_in vs)
    along : Along m c steps c
    still : Every (λ s. Still s.asked) steps
    behind : cycled_by m (cycles_in vs) d ≡ c'
    history : (h : History) → Alike m (happened_in vs h) (came (cycles_in vs) (carried_in steps h))

  behind : (s : Way) (vs : List Event) {a : Meter × Answer} {c d c' : State} → Reads m s → Follows s (steps_in vs) a → Through m d vs c' → c.active ≡ d.active → c.image ≡ d.image
      → Behind s a c d vs c'
  behind s [] p ended at_end e g = record { steps = []; follows = ended; requests = refl; along = stays; still = tt; behind = refl; history = λ h. alike m h }
  behind s (conversion ks ∷ vs) {d = d} p f (by_conversion _ l th) e g =
      let k = cycled_keeps m d ks in
      let b = behind s vs p f th (e ∙ sym k.0) (g ∙ sym k.2) in
      record {
        steps = b.steps;
        follows = b.follows;
        requests = b.requests;
        along = b.along;
        still = b.still;
        behind = b.behind;
        history = λ h. alike_then m (b.history (cycle_came ks ∷ h)) (alike_came m (cycles_in vs) (steps_past m b.steps b.still ks h));
      }
  behind (ends x) (transaction y ∷ vs) p f th e g = elim f [ ]
  behind (asks (write a bs) f) (transaction x ∷ vs) p fo th e g = absurd p
  behind (asks (send a) f) (transaction x ∷ vs) p fo th e g = absurd p
  behind (asks (read a n) f) (transaction x ∷ vs) {a = z} {c = c} {d = d} p (stepped fo) (by_transaction {c' = d'} w th) e g =
      let r = read_at m c d d' a n x.carried x.got f p.0 e g w in
      let b = behind (f x.got) vs (p.1 x.got) fo th (e ∙ ap (λ y. y.active) (sym r.leaves)) (g ∙ ap (λ y. y.image) (sym r.leaves)) in
      record {
        steps = record { asked = read a n; carried = x.carried; got = r.reply } ∷ b.steps;
        follows = stepped (subst (λ s. Follows s b.steps z) (sym r.same) b.follows);
        requests = ap (λ y. (read a n, x.carried) ∷ y) b.requests;
        along = goes_on r.went b.along;
        still = (tt, b.still);
        behind = ap (cycled_by m (cycles_in vs)) (sym r.leaves) ∙ b.behind;
        history = λ h. b.history (cond x.carried (carried_out (read a n) ∷ h) h);
      }

  -- a request that was asked before the cycles, or behind them
  before : (q : Request) → Still q → (b : Bool) (vs : List Event) (ss : List Step) (h : History)
      → Alike m (happened_in vs (cond b (carried_out q ∷ h) h)) (came (after_send vs) (carried_in ss (came (before_send vs) (cond b (carried_out q ∷ h) h))))
      → Alike m (happened_in vs (cond b (carried_out q ∷ h) h))
      (came (after_send vs) (carried_in ss (cond b (carried_out q ∷ came (before_send vs) h) (came (before_send vs) h))))
  before q s b vs ss h a = alike_then m a (alike_came m (after_send vs) (alike_carried m ss (came_past_request m q s b (before_send vs) h)))

  -- the call up to its REFRESH or REFRESH_V, whose cycles can as well come first
  pub moved_out : (s : Way) (vs : List Event) {t : Meter} {r : Answer} {c c' : State} → Calm m s → Follows s (steps_in vs) (t, r) → Through m c vs c' → PlainCall m s t r c vs c'
  moved_out s [] {c = c} p ended at_end = record { steps = []; follows = ended; requests = refl; left = c; along = stays; behind = refl; history = λ h. alike m h }
  moved_out s (conversion ks ∷ vs) p f (by_conversion _ l th) =
      let k = moved_out s vs p f th in
      record { steps = k.steps; follows = k.follows; requests = k.requests; left = k.left; along = k.along; behind = k.behind; history = λ h. k.history (cycle_came ks ∷ h) }
  moved_out (ends x) (transaction y ∷ vs) p f th = elim f [ ]
  moved_out (asks (read a n) f) (transaction x ∷ vs) {t = t} {r = r} {c = c} p (stepped fo) (by_transaction {c' = c₁} w th) =
      let k = moved_out (f x.got) vs (p.1 x.got) fo th in
      let d = cycled_by m (before_send vs) c in
      let o = read_at m d c c₁ a n x.carried x.got f p.0 (cycled_by_active m (before_send vs) c) (cycled_by_image m (before_send vs) c) w in
      record {
        steps = record { asked = read a n; carried = x.carried; got = o.reply } ∷ k.steps;
        follows = stepped (subst (λ s. Follows s k.steps (t, r)) (sym o.same) k.follows);
        requests = ap (λ y. (read a n, x.carried) ∷ y) k.requests;
        left = k.left;
        along = goes_on o.went (subst (λ y. Along m (cycled_by m (before_send vs) y) k.steps k.left) o.leaves k.along);
        behind = k.behind;
        history = λ h. before (read a n) tt x.carried vs k.steps h (k.history (cond x.carried (carried_out (read a n) ∷ h) h));
      }
  moved_out (asks (write a bs) f) (transaction x ∷ vs) {c = c} p (stepped fo) (by_transaction {c' = c₁} w th) =
      let k = moved_out (f x.got) vs (p x.got) fo th in
      record {
        steps = record { asked = write a bs; carried = x.carried; got = x.got } ∷ k.steps;
        follows = stepped k.follows;
        requests = ap (λ y. (write a bs, x.carried) ∷ y) k.requests;
        left = k.left;
        along = goes_on (write_crosses m (before_send vs) c c₁ a bs x.carried x.got w) k.along;
        behind = k.behind;
        history = λ h. before (write a bs) tt x.carried vs k.steps h (k.history (cond x.carried (carried_out (write a bs) ∷ h) h));
      }
  moved_out (asks (send a) f) (transaction x ∷ vs) {c' = c'} p (stepped fo) (by_transaction {c' = c₁} w th) =
      let b = behind (f x.got) vs (p x.got) fo th refl refl in
      record {
        steps = record { asked = send a; carried = x.carried; got = x.got } ∷ b.steps;
        follows = stepped b.follows;
        requests = ap (λ y. (send a, x.carried) ∷ y) b.requests;
        left = c₁;
        along = goes_on w b.along;
        behind = b.behind;
        history = λ h. b.history (cond x.carried (carried_out (send a) ∷ h) h);
      }
