-- What a line asks, told by what reading it answered.
use Rattle.std.proofs.Common.{◌≡◌, ℕ, Some, None, Ok, Err, Option, refl, arith}
use Rattle.chip.specs.declared.refusal.Refusal.{Refusal}
use Rattle.crew.specs.Asks.{or_unreadable}

pub read_some : {A : Type 0} (o : Option A) (x : A) → or_unreadable o ≡ Ok x → o ≡ Some x
read_some None x e = let z : ◌≡◌ {A = ℕ} 0 1 = cc in absurd (omega arith)
read_some (Some y) x e = cc

pub read_none : {A : Type 0} (o : Option A) (e : Refusal) → or_unreadable o ≡ Err e → o ≡ None
read_none None e is = refl
read_none (Some y) e is = let z : ◌≡◌ {A = ℕ} 0 1 = cc in absurd (omega arith)
