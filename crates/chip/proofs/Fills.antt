-- A read's bytes, one register after the other.
use Rattle.std.proofs.Common.{◌≡◌, ℕ, zero, suc, ◌+◌, ◌-◌, ◌<◌, ◌≤◌, min, ◌⊎◌, List, [], ◌∷◌, ◌++◌, length, take, drop, replicate, sym, refl, ap, ◌∙◌, inl, inr, append_assoc, append-nil, arith}
use borrow.Rule.Slice.PartMut.{put_mid}
use Rattle.std.proofs.Math.Seq.{take-nil}
use Rattle.std.proofs.lemmas.List.{drop_all, length-append, length-drop, length-take, length-take-le, take_at, take-replicate}
use Rattle.chip.specs.declared.state.State.{State}
use Rattle.chip.specs.Chip.{reply, shown}
use Rattle.chip.specs.Datasheet.{Datasheet}
use Rattle.chip.specs.Registers.{big_endian}
use Rattle.chip.proofs.Bytes.{big_endian_length}

-- the front of two lists, joined
take_join : (k : ℕ) (xs ys : List ℕ) → take k (xs ++ ys) ≡ take k xs ++ take (k - length xs) ys
take_join k [] ys = let e : k - 0 ≡ k = omega arith in rw (e, take-nil k) refl
take_join zero (x ∷ xs) ys = let e : 0 - suc (length xs) ≡ 0 = omega arith in rw e refl
take_join (suc k) (x ∷ xs) ys = let e : suc k - suc (length xs) ≡ k - length xs = omega arith in rw e (ap (λ zs. x ∷ zs) (take_join k xs ys))

module _ (bytes : List ℕ) (at : ℕ) (inside : at ≤ length bytes) where
  -- how much room is left, and what is there
  abbrev room : ℕ
  room = length bytes - at

  abbrev there : List ℕ
  there = take room (drop at bytes)

  there_long : length there ≡ room
  there_long = length-take room (drop at bytes) ∙ (let l = length-drop at bytes in omega arith)

  front_long : length (take at bytes) ≡ at
  front_long = length-take-le at bytes inside

  -- one register more
  one_more : (r : ℕ) (register part later : List ℕ) → r ≡ min (length register) room → part ≡ take room register ++ drop (length register) there
      → take (at + r) (put_mid at room bytes part) ++ take (length bytes - (at + r)) later ≡ take at bytes ++ take room (register ++ later)
  one_more r register part later e p =
      ap (λ xs. xs ++ take (length bytes - (at + r)) later) kept
      ∙ append_assoc (take at bytes) (take room register) (take (length bytes - (at + r)) later)
      ∙ ap (λ xs. take at bytes ++ xs) (ap (λ k. take room register ++ take k later) left ∙ sym (take_join room register later))
    where
      left : length bytes - (at + r) ≡ room - length register
      left = omega arith

      long : length (take at bytes ++ take room register) ≡ at + r
      long = length-append (take at bytes) (take room register) ∙ (let a = front_long in let b = length-take room register in omega arith)

      kept : take (at + r) (put_mid at room bytes part) ≡ take at bytes ++ take room register
      kept =
          ap (λ xs. take (at + r) (take at bytes ++ (xs ++ drop room (drop at bytes)))) p
          ∙ ap (λ xs. take (at + r) (take at bytes ++ xs)) (append_assoc (take room register) (drop (length register) there) (drop room (drop at bytes)))
          ∙ ap (take (at + r)) (sym (append_assoc (take at bytes) (take room register) (drop (length register) there ++ drop room (drop at bytes))))
          ∙ take_at (take at bytes ++ take room register) (drop (length register) there ++ drop room (drop at bytes)) (at + r) long

  -- the rest of the bytes
  the_rest : (rest to_come : List ℕ) → rest ≡ take room to_come → put_mid at room bytes rest ≡ take at bytes ++ take room to_come
  the_rest rest to_come e =
      let none : drop room (drop at bytes) ≡ [] = drop_all room (drop at bytes) (let l = length-drop at bytes in omega arith) in
      ap (λ xs. take at bytes ++ (rest ++ xs)) none
      ∙ ap (λ xs. take at bytes ++ xs) (append-nil rest ∙ e)

module _ (m : Datasheet) (c : State) (end : ℕ) where
  -- what is still to come from an address on, for a read of n bytes
  abbrev to_come : (n a : ℕ) → List ℕ
  to_come n a = shown m c (end - a) a ++ replicate n 255

  -- it begins with the register there
  next_register : (n a : ℕ) → a < end → to_come n a ≡ big_endian (m.width a) (m.shows c a) ++ to_come n (a + 1)
  next_register n a h =
      let e : end - a ≡ suc (end - (a + 1)) = omega arith in
      ap (λ k. shown m c k a ++ replicate n 255) e
      ∙ append_assoc (big_endian (m.width a) (m.shows c a)) (shown m c (end - (a + 1)) (a + 1)) (replicate n 255)

  -- past the last address, or with no room left, it is FFh
  only_ff : (n a k : ℕ) → k ≤ n → (end ≤ a) ⊎ (k ≡ 0) → replicate k 255 ≡ take k (to_come n a)
  only_ff n a k l (inl h) = let e : end - a ≡ 0 = omega arith in sym (ap (λ j. take k (shown m c j a ++ replicate n 255)) e ∙ take-replicate k n 255 l)
  only_ff n a k l (inr e) = rw e refl

  -- so many bytes are filled, and an address is next
  abbrev pub Filled : (start n : ℕ) → (bytes : List ℕ) → (at a : ℕ) → Type 0
  Filled start n bytes at a = (at ≤ n) × (take at bytes ++ take (n - at) (to_come n a) ≡ reply m c start n)

  module _ (start n : ℕ) (bytes : List ℕ) (at a : ℕ) (long : length bytes ≡ n) where
    pub turn : (r : ℕ) (part : List ℕ) → a < end → r ≡ min (m.width a) (length (take (length bytes - at) (drop at bytes)))
        → part ≡ take (length (take (length bytes - at) (drop at bytes))) (big_endian (m.width a) (m.shows c a)) ++ drop (m.width a) (take (length bytes - at) (drop at bytes))
        → Filled start n bytes at a → Filled start n (put_mid at (length bytes - at) bytes part) (at + r) (a + 1)
    turn r part h e p f =
        let inside : at ≤ length bytes = omega (arith, f.0) in
        let register = big_endian (m.width a) (m.shows c a) in
        let wide = big_endian_length (m.width a) (m.shows c a) in
        let free = there_long bytes at inside in
        let count : r ≡ min (length register) (length bytes - at) = omega arith in
        let put : part ≡ take (length bytes - at) register ++ drop (length register) (take (length bytes - at) (drop at bytes)) =
        p ∙ (λ j. take (free j) register ++ drop (sym wide j) (take (length bytes - at) (drop at bytes))) in (
          omega (arith, f.0),
          ap (λ k. take (at + r) (put_mid at (length bytes - at) bytes part) ++ take (k - (at + r)) (to_come n (a + 1))) (sym long)
              ∙ one_more bytes at inside r register part (to_come n (a + 1)) count put
              ∙ ap (λ k. take at bytes ++ take (k - at) (register ++ to_come n (a + 1))) long
              ∙ ap (λ xs. take at bytes ++ take (n - at) xs) (sym (next_register n a h))
              ∙ f.1,
        )

    pub ended : (rest : List ℕ) → (end ≤ a) ⊎ (length bytes ≤ at) → rest ≡ replicate (length (take (length bytes - at) (drop at bytes))) 255
        → Filled start n bytes at a → put_mid at (length bytes - at) bytes rest ≡ reply m c start n
    ended rest h e f =
        let inside : at ≤ length bytes = omega (arith, f.0) in
        let free = there_long bytes at inside in
        the_rest bytes at inside rest (to_come n a) (e ∙ ap (λ k. replicate k 255) free ∙ only_ff n a (length bytes - at) (omega arith) (full h))
        ∙ ap (λ k. take at bytes ++ take (k - at) (to_come n a)) long
        ∙ f.1
      where
        full : (end ≤ a) ⊎ (length bytes ≤ at) → (end ≤ a) ⊎ (length bytes - at ≡ 0)
        full (inl x) = inl x
        full (inr x) = inr (omega arith)
