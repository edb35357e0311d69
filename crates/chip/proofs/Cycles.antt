-- A cycle: the channels that are done beside those to come.
use Rattle.std.proofs.Common.{ℕ, Bool, ◌||◌, List, ◌++◌, take, drop}
use Rattle.chip.specs.declared.state.Channel.{Channel}
use Rattle.chip.specs.declared.state.Codes.{Codes}
use Rattle.chip.specs.declared.state.Settings.{Settings}
use Rattle.chip.specs.Chip.{add_all, any_leaves}
use Rattle.chip.specs.Datasheet.{Datasheet}

module _ (m : Datasheet) (s : Settings) where
  -- the first i channels are done, and the others are to come
  abbrev pub so_far : (i : ℕ) → List Codes → List Channel → List Channel
  so_far i ks cs = take i cs ++ add_all m s i (drop i ks) (drop i cs)

  -- a flag for the first i channels, joined with the others'
  abbrev pub left_so_far : Bool → (i : ℕ) → List Codes → List Channel → Bool
  left_so_far b i ks cs = b || any_leaves m s i (drop i ks) (drop i cs)
