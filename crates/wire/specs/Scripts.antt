-- What a script holds: the outcomes that are still to come.
use Rattle.std.specs.Prelude.{◌≡◌, ℕ, zero, suc, ◌+◌, cond, List, [], ◌∷◌, ◌++◌, take, drop, Some, None, Ok, Err, Option, Result, nat_le}
use Rattle.chip.specs.declared.refusal.Refusal.{Refusal}
use Rattle.chip.specs.declared.refusal.Refusal.TheVariants.{Limits, Full}
use Rattle.wire.specs.declared.outcome.Outcome.{Outcome}
use Rattle.wire.specs.declared.outcome.Outcome.TheVariants.{Pass, Refuse, Break, DropReply}
use Rattle.wire.specs.declared.script.Script.{Script}

-- the outcomes not yet taken, the oldest first
abbrev pub left : Script → List Outcome
left s = drop s.taken (take s.added s.outcomes)

abbrev pub next : List Outcome → Outcome
next [] = Pass
next (o ∷ os) = o

abbrev pub rest : List Outcome → List Outcome
rest [] = []
rest (o ∷ os) = os

-- numbers 0 to 3
abbrev pub outcome_of : ℕ → Option Outcome
outcome_of zero = Some Pass
outcome_of (suc zero) = Some Refuse
outcome_of (suc (suc zero)) = Some Break
outcome_of (suc (suc (suc zero))) = Some DropReply
outcome_of (suc (suc (suc (suc n)))) = None

-- what an addition answers, the outcomes left after it and how many were ever added: a number above 3 refuses 1, then a full script 8
abbrev pub adding : (number : ℕ) → (outcomes : List Outcome) → (added : ℕ) → Result Unit Refusal × List Outcome × ℕ
adding k os n =
    elim (outcome_of k) [ None ↦ (Err Limits, os, n) | Some o ↦ cond (nat_le 256 n) (Err Full, os, n) (Ok tt, os ++ o ∷ [], n + 1) ]

abbrev pub added_to : Script → (number : ℕ) → Result Unit Refusal → Script → Type 0
added_to s k r t = (r ≡ (adding k (left s) s.added).0) × (left t ≡ (adding k (left s) s.added).1) × (t.added ≡ (adding k (left s) s.added).2)
