-- What the code of wires and meters needs of reads.
use Rattle.std.proofs.Common.{◌≡◌, ℕ, zero, suc, ◌+◌, ◌-◌, ◌≤◌, true, false, ltb, leb, List, [], ◌∷◌, ◌++◌, length, take, replicate, refl, ap, ⊎_elim, arith}
use lib.ListN.{length-replicate}
use Rattle.std.proofs.lemmas.List.{length-append}
use Rattle.std.proofs.lemmas.Bool.{and_from, cases_Bool, le-leb, lt-ltb}
use Rattle.chip.specs.Chip.{does, reacts, read, reply, shown, sized}
use Rattle.chip.specs.Laws.{Lawful, Readable}
use Rattle.chip.specs.Datasheet.{Datasheet}
use Rattle.chip.specs.declared.state.State.{State}

take_long : {A : Type 0} (xs : List A) (n : ℕ) → n ≤ length xs → length (take n xs) ≡ n
take_long [] zero l = refl
take_long [] (suc n) l = absurd (omega arith)
take_long (x ∷ xs) zero l = refl
take_long (x ∷ xs) (suc n) l = ap suc (take_long xs n (omega arith))

-- a read brings as many bytes as it asks
pub reply_length : (m : Datasheet) (c : State) (a n : ℕ) → length (reply m c a n) ≡ n
reply_length m c a n = take_long (shown m c (m.last_address + 1 - a) a ++ replicate n 255) n (simp (length-append, length-replicate) (omega arith))

-- a read of a meter has a good length, and the chip always takes it
pub readable_sized : (m : Datasheet) (p : ℕ × ℕ) → Readable m p → sized (read p.0 p.1) ≡ true
readable_sized m p ok = let l = ok.0 in let u = ok.1 in and_from (leb 1 p.1) (leb p.1 64) (le-leb 1 p.1 l) (le-leb p.1 64 (omega arith))

pub readable_done : (m : Datasheet) → Lawful m → (p : ℕ × ℕ) → Readable m p → (c : State) → reacts m c (read p.0 p.1) ≡ does c (reply m c p.0 p.1)
readable_done m law p ok c =
    let good = readable_sized m p ok in
    let some_bytes : ltb 0 (m.width p.0) ≡ true = lt-ltb 0 (m.width p.0) ok.3 in
    let no_command : m.command p.0 ≡ false = ⊎_elim (λ (y : m.command p.0 ≡ true). absurd (let z = law.commands_unlisted p.0 y in let w = ok.3 in omega arith))
    (λ (y : m.command p.0 ≡ false). y) (cases_Bool (m.command p.0)) in
    rw (good, no_command, some_bytes) refl
