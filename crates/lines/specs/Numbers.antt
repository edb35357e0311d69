-- The numbers that a `Numbers` holds.
use Rattle.std.specs.Prelude.{ℕ, List, take}
use Rattle.lines.specs.declared.numbers.Numbers.{Numbers}

abbrev pub items : Numbers → List ℕ
items n = take n.count n.values
