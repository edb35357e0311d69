-- What the weights are for.
use Rattle.std.proofs.Common.{◌≡◌, ℕ, zero, suc, ◌*◌, ◌≤◌, false, refl, arith}
use Rattle.book.specs.Bill.{WeightsMeant, cycles_a_second, weight}

-- a weight of any rate code and its cycles make 1024
second_of_cycles : (r : ℕ) → r ≤ 3 → weight r false * cycles_a_second r ≡ 1024
second_of_cycles zero l = refl
second_of_cycles (suc zero) l = refl
second_of_cycles (suc (suc zero)) l = refl
second_of_cycles (suc (suc (suc zero))) l = refl
second_of_cycles (suc (suc (suc (suc r)))) l = absurd (omega arith)

pub weights_have_a_meaning : WeightsMeant
weights_have_a_meaning = record { time = second_of_cycles; double = λ r. omega arith }
