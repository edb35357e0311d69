-- What a call leaves of a book.
use Rattle.std.specs.Prelude.{◌≡◌, ℕ, ◌<◌, ◌≤◌, List, [], ◌++◌, length, ◌≢◌, slice_index_or}
use Rattle.chip.specs.declared.entry.Entry.{Entry}
use Rattle.book.specs.Book.{Pages, entries, put}
use Rattle.account.specs.Dialogue.{Answer, stored, handed, entered, given_up, looked, billed, refused}
use Rattle.account.specs.History.{entries_after}

abbrev pub book_after : Answer → Pages → Pages
book_after (entered e) b = put e b
book_after stored b = b
book_after (handed p) b = b
book_after given_up b = b
book_after (looked g) b = b
book_after (billed z n k) b = b
book_after (refused r) b = b

-- with a place free: the entries are those that the answer leaves, there are as many places, and every other place is as it was
pub record KeptWell (r : Answer) (b : Pages) : Type 0 where
  pub the_entries : entries (book_after r b) ≡ entries_after r (entries b)
  pub as_many : length (book_after r b).places ≡ length b.places
  pub others : (i : ℕ) (e : Entry) → (i ≢ b.filled) → slice_index_or (book_after r b).places i e ≡ slice_index_or b.places i e

pub record BooksKeep : Type 0 where
  pub filled_many : (b : Pages) → b.filled ≤ length b.places → length (entries b) ≡ b.filled
  pub kept : (r : Answer) (b : Pages) → b.filled < length b.places → KeptWell r b
  pub a_new_one : (xs : List Entry) → entries (record { places = xs; filled = 0 }) ≡ []

-- earlier entries never change: whatever is answered, at most one entry comes, after those that there were
abbrev pub BookGrows : Type 0
BookGrows = (r : Answer) (es : List Entry) → (added : List Entry) × (entries_after r es ≡ es ++ added) × (length added ≤ 1)
