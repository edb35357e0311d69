-- What each line asks.
use Rattle.std.specs.Prelude.{ℕ, ◌+◌, ◌*◌, cond, ◌&&◌, List, [], ◌∷◌, length, Some, None, Ok, Err, Option, Result, ◌==◌, slice_index}
use Rattle.std.specs.List.{find}
use Rattle.std.specs.Option.{option_and_then}
use Rattle.std.specs.Str.{bytes_eq}
use Rattle.chip.specs.declared.refusal.Refusal.{Refusal}
use Rattle.chip.specs.declared.refusal.Refusal.TheVariants.{Unreadable}
use Rattle.chip.specs.declared.state.Codes.{Codes}
use Rattle.crew.specs.Prints.{text_of}
use Rattle.crew.specs.declared.kind.Kind.{Kind}
use Rattle.crew.specs.declared.kind.Kind.TheVariants.{Pac193x, Pac194x}
use Rattle.crew.specs.declared.request.Request.{Request}
use Rattle.crew.specs.declared.request.Request.TheVariants.{Cycle, SetUp, Draw, Book, WriteOff, Bill, Fault}
use Rattle.crew.specs.declared.word.Word.{Word}
use Rattle.crew.specs.declared.word.Word.TheVariants as word
use Rattle.lines.specs.Lines.{Said, said}

-- bus and sense code of channel i, counted from 0
abbrev pub codes_at : List ℕ → ℕ → Codes
codes_at ns i = record { bus = slice_index ns (2 * i); sense = slice_index ns (2 * i + 1) }

-- the words that a line may begin with
abbrev pub in_lines : List Word
in_lines = word.Kind ∷ word.Cycle ∷ word.SetUp ∷ word.Draw ∷ word.Book ∷ word.WriteOff ∷ word.Bill ∷ word.Fault ∷ []

-- the one that a line begins with, unless it is none of these
abbrev pub word_in : List ℕ → Option Word
word_in w = find (λ x. bytes_eq w (text_of x)) in_lines

-- the word of the lines that ask something
abbrev pub word_of : Request → Word
word_of (Cycle ks) = word.Cycle
word_of (SetUp rate off two_way) = word.SetUp
word_of Draw = word.Draw
word_of Book = word.Book
word_of WriteOff = word.WriteOff
word_of (Bill ch u) = word.Bill
word_of (Fault k) = word.Fault

-- with so many fields a line says this, and with another number nothing
abbrev pub with_fields : {A : Type 0} → List ℕ → ℕ → A → Option A
with_fields ns n x = cond (length ns == n) (Some x) None

-- what the fields after a word ask of the meter
abbrev pub asks : Word → List ℕ → Option Request
asks word.Cycle ns = with_fields ns 8 (Cycle (codes_at ns 0 ∷ codes_at ns 1 ∷ codes_at ns 2 ∷ codes_at ns 3 ∷ []))
asks word.SetUp ns = with_fields ns 3 (SetUp (slice_index ns 0) (slice_index ns 1) (slice_index ns 2))
asks word.Draw ns = with_fields ns 0 Draw
asks word.Book ns = with_fields ns 0 Book
asks word.WriteOff ns = with_fields ns 0 WriteOff
asks word.Bill ns = with_fields ns 2 (Bill (slice_index ns 0) (slice_index ns 1))
asks word.Fault ns = with_fields ns 1 (Fault (slice_index ns 0))
asks x ns = None

-- which chip there is, by the fields after a word
abbrev pub names : Word → List ℕ → Option Kind
names word.Kind ns =
    cond (length ns == 1 && slice_index ns 0 == 193) (Some Pac193x) (cond (length ns == 1 && slice_index ns 0 == 194) (Some Pac194x) None)
names x ns = None

-- the line that says which chip there is
abbrev pub kind_of : (word fields : List ℕ) → Option Kind
kind_of w ns = option_and_then (λ x. names x ns) (word_in w)

-- the lines that ask something of the meter
abbrev pub request_of : (word fields : List ℕ) → Option Request
request_of w ns = option_and_then (λ x. asks x ns) (word_in w)

-- what a line that can be read says to one of these; a line that cannot be read says nothing
abbrev pub in_words : {A : Type 0} → ((word fields : List ℕ) → Option A) → Option Said → Option A
in_words f None = None
in_words f (Some l) = f l.word l.fields

-- which chip the bytes of a line name
abbrev pub kind_asked : List ℕ → Option Kind
kind_asked bs = in_words kind_of (said bs)

-- what the bytes of a line ask
abbrev pub asked : List ℕ → Option Request
asked bs = in_words request_of (said bs)

-- every line that asks nothing is unreadable
abbrev pub or_unreadable : {A : Type 0} → Option A → Result A Refusal
or_unreadable None = Err Unreadable
or_unreadable (Some x) = Ok x
