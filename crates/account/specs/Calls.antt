-- What the code of a meter promises of a call, a cycle and a beginning, over its own wire.
use Rattle.std.specs.Prelude.{◌≡◌, ℕ, ◌^◌, ◌<◌, ◌≤◌, List, [], ◌∷◌, length}
use Rattle.chip.specs.declared.state.State.{State}
use Rattle.chip.specs.declared.state.Codes.{Codes}
use Rattle.chip.specs.Datasheet.{Datasheet}
use Rattle.chip.specs.declared.entry.Entry.{Entry}
use Rattle.chip.specs.Chip.{cycled, fresh_chip}
use Rattle.chip.specs.declared.refusal.Refusal.TheVariants.{Limits}
use Rattle.book.specs.Book.{Pages, entries}
use Rattle.account.specs.Book.{book_after}
use Rattle.account.specs.Steps.{Along, Step, Trip}
use Rattle.wire.specs.Direct.{DirectGoes}
use Rattle.wire.specs.Scripted.{Scripting, ScriptedGoes, seen}
use Rattle.wire.specs.declared.direct.Direct.{Direct}
use Rattle.wire.specs.declared.scripted.Scripted.{Scripted}
use Rattle.wire.specs.Wire.{Goes, Passes}
use Rattle.account.specs.Dialogue.{Meter, new_meter, Answer, refused, Way, Follows, Call, set_up, draw, book, write_off, look, bill_for, dialogue}
use Rattle.account.specs.History.{History, cycle_came, carried_in, entries_after, happened_after, scratched, Reached}
use Rattle.account.specs.Statements.{Statements}
use Rattle.account.specs.CallRules.{RulesKept, TrueToChip}

-- what a helper of the code shows of a part of a dialogue
pub record Followed {W : Type 0} (goes : Goes W) (s : Way) (u : W) (t' : Meter) (w : W) (r : Answer) : Type 0 where
  pub steps : List Step
  pub follows : Follows s steps (t', r)
  pub trip : Trip goes u steps w

-- the number that a booking names is its scratch's length; no other call names one
abbrev pub OwnScratch : Call → List ℕ → Type 0
OwnScratch (book p n) s = n ≡ length s
OwnScratch (set_up w) s = Unit {0}
OwnScratch draw s = Unit {0}
OwnScratch (write_off p) s = Unit {0}
OwnScratch (look ch q) s = Unit {0}
OwnScratch (bill_for kind ch u) s = Unit {0}

-- only a booking lays its replies on the scratch
abbrev pub scratch_after : Call → List Step → List ℕ → List ℕ
scratch_after (book p n) ss s = scratched ss s
scratch_after (set_up w) ss s = s
scratch_after draw ss s = s
scratch_after (write_off p) ss s = s
scratch_after (look ch q) ss s = s
scratch_after (bill_for kind ch u) ss s = s

-- what the code has to show of a call: one list of steps for the answer, the meter, the wire, the book and the scratch
pub record MadeSteps (m : Datasheet) {W : Type 0} (goes : Goes W) (q : Call) (t : Meter) (u : W) (places : ℕ) (es : List Entry) (s : List ℕ)
    (t' : Meter) (w : W) (es' : List Entry) (s' : List ℕ) (r : Answer) : Type 0 where
  pub steps : List Step
  pub follows : Follows (dialogue m q t places es) steps (t', r)
  pub trip : Trip goes u steps w
  pub the_book : es' ≡ entries_after r es
  pub own_scratch : OwnScratch q s
  pub the_scratch : s' ≡ scratch_after q steps s

-- and what its contract promises: the chip behind the wire went along with just these steps, the call keeps its rules and is true to that chip, and
-- whatever history led here, that history with just these steps leads on, and all statements hold of it
pub record MadeCall (m : Datasheet) {W : Type 0} (chip_of : W → State) (goes : Goes W) (q : Call) (t : Meter) (u : W) (places : ℕ)
    (es : List Entry) (s : List ℕ) (t' : Meter) (w : W) (es' : List Entry) (s' : List ℕ) (r : Answer) : Type 0 where
  pub made : MadeSteps m goes q t u places es s t' w es' s' r
  pub chip : Along m (chip_of u) made.steps (chip_of w)
  pub rules : RulesKept m q t places es made.steps t' r
  pub true_to_chip : TrueToChip m q t (chip_of u) made.steps (chip_of w) r
  pub run : (number last : ℕ) (h : History) → last < 2 ^ 32 → Reached m places number last t (chip_of u) es h
      → Reached m places number last t' (chip_of w) es' (happened_after r (carried_in made.steps h))
      × Statements m places number last t' (chip_of w) es' (happened_after r (carried_in made.steps h))

-- the same of a call that takes a book: one with more filled than it has places is refused by 1, and all stays
pub record MadeBookCall (m : Datasheet) {W : Type 0} (chip_of : W → State) (goes : Goes W) (q : Call) (t : Meter) (u : W) (b : Pages)
    (s : List ℕ) (t' : Meter) (w : W) (b' : Pages) (s' : List ℕ) (r : Answer) : Type 0 where
  pub overfull : length b.places < b.filled → (r ≡ refused Limits) × (t' ≡ t) × (w ≡ u) × (s' ≡ s)
  pub made : b.filled ≤ length b.places
      → MadeCall m chip_of goes q t u (length b.places) (entries b) s t' w (entries b') s' r
  pub the_book : b' ≡ book_after r b

-- a cycle: just this one, and the meter as before
pub record MadeCycle (m : Datasheet) {W : Type 0} (chip_of : W → State) (passes : Passes W) (ks : List Codes) (t : Meter) (u : W) (t' : Meter)
    (w : W) : Type 0 where
  pub wire : passes u ks w
  pub chip : chip_of w ≡ cycled m ks (chip_of u)
  pub meter : t' ≡ t
  pub run : (places number last : ℕ) (es : List Entry) (h : History) → last < 2 ^ 32 → Reached m places number last t (chip_of u) es h
      → Reached m places number last t' (chip_of w) es (cycle_came ks ∷ h)
      × Statements m places number last t' (chip_of w) es (cycle_came ks ∷ h)

-- a new meter on a wire that means a fresh chip begins a run, with an empty book of any size
pub record Begun (m : Datasheet) {W : Type 0} (chip_of : W → State) (number last : ℕ) (u : W) (t : Meter) (w : W) : Type 0 where
  pub wire : w ≡ u
  pub meter : t ≡ new_meter number last
  pub run : (places : ℕ) → last < 2 ^ 32 → chip_of u ≡ fresh_chip m → Reached m places number last t (chip_of w) [] []
      × Statements m places number last t (chip_of w) [] []

-- what happens between calls and leaves the chip and the meter as they were, as an outcome added to a script: the run goes on
pub record Added (m : Datasheet) {W : Type 0} (chip_of : W → State) (t : Meter) (u : W) (t' : Meter) (w : W) : Type 0 where
  pub chip : chip_of w ≡ chip_of u
  pub meter : t' ≡ t
  pub run : (places number last : ℕ) (es : List Entry) (h : History) → last < 2 ^ 32 → Reached m places number last t (chip_of u) es h
      → Reached m places number last t' (chip_of w) es h × Statements m places number last t' (chip_of w) es h

-- the code need show no more than the steps
abbrev pub StepsSufficeOn : (m : Datasheet) {W : Type 0} (chip_of : W → State) (goes : Goes W) → Type 0
StepsSufficeOn m {W} chip_of goes = (q : Call) (t : Meter) (u : W) (places : ℕ) (es : List Entry) (s : List ℕ) (t' : Meter) (w : W)
    (es' : List Entry) (s' : List ℕ) (r : Answer)
    → MadeSteps m goes q t u places es s t' w es' s' r → MadeCall m chip_of goes q t u places es s t' w es' s' r

abbrev pub CyclesOn : (m : Datasheet) {W : Type 0} (chip_of : W → State) (passes : Passes W) → Type 0
CyclesOn m {W} chip_of passes = (ks : List Codes) (t : Meter) (u : W) (t' : Meter) (w : W) → length ks ≡ 4 → passes u ks w → t' ≡ t
    → MadeCycle m chip_of passes ks t u t' w

abbrev pub BeginsOn : (m : Datasheet) {W : Type 0} (chip_of : W → State) → Type 0
BeginsOn m {W} chip_of = (number last : ℕ) (u w : W) (t : Meter) → w ≡ u → t ≡ new_meter number last → Begun m chip_of number last u t w

-- on a wire that keeps the meaning: steps are calls of a run, cycles are its cycles, and a new meter begins one
pub record CarriesRuns (m : Datasheet) {W : Type 0} (chip_of : W → State) (goes : Goes W) (passes : Passes W) : Type 0 where
  pub calls : StepsSufficeOn m chip_of goes
  pub cycles : CyclesOn m chip_of passes
  pub begins : BeginsOn m chip_of

-- a part of a dialogue has one end only: the same meter, answer and steps (so the same scratch and history), and the same of all that is seen of the wire
abbrev pub OneEnd : {W V : Type 0} (goes : Goes W) (view : W → V) → Type 0
OneEnd {W} goes view = (s : Way) (u : W) (t t' : Meter) (w w' : W) (r r' : Answer) (p : Followed goes s u t w r) (q : Followed goes s u t' w' r')
    → (t ≡ t') × (r ≡ r') × (p.steps ≡ q.steps) × (view w ≡ view w')

-- the wire below, seen by a view
abbrev pub over : {W V : Type 0} (view : W → V) → Scripting W → Scripting V
over view s = record { below = view s.below; outcomes = s.outcomes; added = s.added }

-- on the direct wire, a scripted one over it, and a scripted one over that, a call is settled by what was there before
pub record CallsExact (m : Datasheet) (M : Type 0) : Type 0 where
  pub direct : OneEnd {W = Direct M} (λ u q b r w. DirectGoes m u.chip.state q b r w.chip.state) (λ u. u.chip.state)
  pub scripted : OneEnd {W = Scripted (Direct M)} (λ u q b r w. ScriptedGoes (λ u q b r w. DirectGoes m u.chip.state q b r w.chip.state) (seen u) q b r (seen w))
      (λ u. over (λ d. d.chip.state) (seen u))
  pub twice : OneEnd {W = Scripted (Scripted (Direct M))}
      (λ u q b r w. ScriptedGoes (λ u q b r w. ScriptedGoes (λ u q b r w. DirectGoes m u.chip.state q b r w.chip.state) (seen u) q b r (seen w)) (seen u) q b r (seen w))
      (λ u. over (λ s. over (λ d. d.chip.state) (seen s)) (seen u))
