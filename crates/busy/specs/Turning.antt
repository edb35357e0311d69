-- Why the laws of a make are not enough here: a make that keeps them, whose image can not be read while it converts.
use Rattle.std.specs.Prelude.{ℕ, Bool, cond, not, List, [], ◌∷◌, ◌==◌}
use Rattle.chip.specs.declared.state.State.{State}
use Rattle.chip.specs.declared.entry.Entry.{Entry}
use Rattle.chip.specs.Chip.{spoilt}
use Rattle.chip.specs.Datasheet.{Datasheet}
use Rattle.chip.specs.Laws.{Lawful}
use Rattle.chip.specs.Registers.{register_at}
use Rattle.makes.specs.Table.{bit}
use Rattle.account.specs.Single.{single, width_single, shows_single, entry_single}
use Rattle.busy.specs.Statements.{EveryBusyRunOf}

-- the make of a single channel, but that its spoilt mark is shown as it is while the running count is 0, and turned round afterwards;
-- another register, 12h, says which
abbrev pub upright : State → Bool
upright c = c.running.count == 0

abbrev pub shows_turning : State → ℕ → ℕ
shows_turning c a =
    cond (a == 0x11) (bit (cond (upright c) (spoilt c.image.running) (not (spoilt c.image.running))))
    (cond (a == 0x12) (bit (upright c))
    (shows_single c a))

-- right for a chip that stands still
abbrev pub entry_turning : (replies : List ℕ) → ℕ → Entry
entry_turning bs n = record (entry_single bs n) {
  spoilt = bit (cond (register_at 16 1 bs == 1) (register_at 11 2 bs == 1) (not (register_at 11 2 bs == 1)));
}

abbrev pub turning : Datasheet
turning = record single {
  width = λ a. cond (a == 0x12) 1 (width_single a);
  shows = shows_turning;
  booking_reads = (0x02, 4) ∷ (0x03, 7) ∷ (0x11, 2) ∷ (0x0F, 2) ∷ (0x10, 1) ∷ (0x12, 1) ∷ [];
  entry_in = entry_turning;
}

pub record LawsNotEnough : Type 0 where
  pub keeps_the_laws : Lawful turning
  pub but_not_the_account : EveryBusyRunOf turning → ⊥
