-- A book keeps what it holds.
use Rattle.std.proofs.Common.{◌≡◌, ℕ, zero, suc, ◌<◌, ◌≤◌, List, [], ◌∷◌, ◌++◌, length, get_or, take, set, sym, refl, ap, ◌∙◌, add-one, arith}
use Rattle.std.proofs.lemmas.List.{append-nil}
use Rattle.account.specs.Book.{BookGrows, BooksKeep, KeptWell, book_after}
use Rattle.book.specs.Book.{Pages, entries}
use Rattle.account.specs.Dialogue.{Answer, billed, entered, given_up, handed, looked, refused, stored}
use Rattle.account.specs.History.{entries_after}
use Rattle.chip.specs.declared.entry.Entry.{Entry}

put_take : (xs : List Entry) (n : ℕ) (e : Entry) → n < length xs → take (suc n) (set xs n e) ≡ take n xs ++ e ∷ []
put_take [] n e l = absurd (omega arith)
put_take (x ∷ xs) zero e l = refl
put_take (x ∷ xs) (suc n) e l = ap (λ ys. x ∷ ys) (put_take xs n e (omega arith))

set_length : (xs : List Entry) (n : ℕ) (e : Entry) → length (set xs n e) ≡ length xs
set_length [] n e = refl
set_length (x ∷ xs) zero e = refl
set_length (x ∷ xs) (suc n) e = ap suc (set_length xs n e)

set_other : (xs : List Entry) (n : ℕ) (e : Entry) (i : ℕ) (d : Entry) → (i ≡ n → ⊥) → get_or (set xs n e) i d ≡ get_or xs i d
set_other [] n e i d ne = refl
set_other (x ∷ xs) zero e zero d ne = absurd (ne refl)
set_other (x ∷ xs) zero e (suc i) d ne = refl
set_other (x ∷ xs) (suc n) e zero d ne = refl
set_other (x ∷ xs) (suc n) e (suc i) d ne = set_other xs n e i d (λ h. ne (ap suc h))

taken_many : (xs : List Entry) (n : ℕ) → n ≤ length xs → length (take n xs) ≡ n
taken_many [] zero l = refl
taken_many [] (suc n) l = absurd (omega arith)
taken_many (x ∷ xs) zero l = refl
taken_many (x ∷ xs) (suc n) l = ap suc (taken_many xs n (omega arith))

put_kept : (e : Entry) (b : Pages) → b.filled < length b.places → KeptWell (entered e) b
put_kept e b l = record {
  the_entries = ap (λ n. take n (set b.places b.filled e)) (add-one b.filled) ∙ put_take b.places b.filled e l;
  as_many = set_length b.places b.filled e;
  others = λ i d ne. set_other b.places b.filled e i d ne;
}

left_kept : (b : Pages) (r : Answer) → book_after r b ≡ b → entries_after r (entries b) ≡ entries b → KeptWell r b
left_kept b r p q = record { the_entries = ap entries p ∙ sym q; as_many = ap (λ x. length x.places) p; others = λ i e ne. ap (λ x. get_or x.places i e) p }

kept : (r : Answer) (b : Pages) → b.filled < length b.places → KeptWell r b
kept (entered e) b l = put_kept e b l
kept stored b l = left_kept b stored refl refl
kept (handed p) b l = left_kept b (handed p) refl refl
kept given_up b l = left_kept b given_up refl refl
kept (looked g) b l = left_kept b (looked g) refl refl
kept (billed z n k) b l = left_kept b (billed z n k) refl refl
kept (refused r) b l = left_kept b (refused r) refl refl

pub book_grows : BookGrows
book_grows (entered e) es = (e ∷ [], refl, omega arith)
book_grows stored es = ([], sym (append-nil es), omega arith)
book_grows (handed p) es = ([], sym (append-nil es), omega arith)
book_grows given_up es = ([], sym (append-nil es), omega arith)
book_grows (looked g) es = ([], sym (append-nil es), omega arith)
book_grows (billed z n k) es = ([], sym (append-nil es), omega arith)
book_grows (refused r) es = ([], sym (append-nil es), omega arith)

pub books_keep : BooksKeep
books_keep = record { filled_many = λ b l. taken_many b.places b.filled l; kept = kept; a_new_one = λ xs. refl }
