-- Calls that take no book and no scratch.
use Rattle.std.proofs.Common.{◌≡◌, ℕ, List}
use Rattle.account.proofs.Wires.{whole_call}
use Rattle.account.specs.Calls.{Followed, OwnScratch, scratch_after}
use Rattle.account.specs.Dialogue.{Answer, Call, Meter, dialogue}
use Rattle.account.specs.History.{entries_after}
use Rattle.account.specs.Steps.{Step}
use Rattle.chip.specs.Datasheet.{Datasheet}
use Rattle.chip.specs.Laws.{Lawful}
use Rattle.chip.specs.declared.entry.Entry.{Entry}
use Rattle.chip.specs.declared.state.State.{State}
use Rattle.meter.specs.Promises.{MadeAlone}
use Rattle.wire.specs.Wire.{Goes, IsWire, Passes}

-- steps that follow the call's dialogue, whatever the book, are a call of a run
pub made_alone : (m : Datasheet) {W : Type 0} {chip_of : W → State} {goes : Goes W} {passes : Passes W} → IsWire m chip_of goes passes → Lawful m
    → (q : Call) {t : Meter} {u : W} {t' : Meter} {w : W} {r : Answer} → ((places : ℕ) (es : List Entry) → Followed goes (dialogue m q t places es) u t' w r)
    → ((s : List ℕ) → OwnScratch q s) → ((ss : List Step) (s : List ℕ) → s ≡ scratch_after q ss s) → ((es : List Entry) → es ≡ entries_after r es)
    → MadeAlone m chip_of goes q t u t' w r
made_alone m is law q p own scratch book =
    record { made = λ places es s. whole_call m is law q places es s (p places es) (own s) (book es) (scratch (p places es).steps s) }
