-- What is printed for a reply.
use Rattle.std.specs.Prelude.{◌≡◌, ℕ, List, [], ◌∷◌, ◌++◌, ℤ, pos, Ok, Err, Result, String, codes, slice_index_or, string_bytes}
use Rattle.std.specs.declared.alloc.Global.{Global}
use Rattle.std.specs.Fmt.{decimal, signed_decimal}
use Rattle.book.specs.declared.bill.Bill.{Bill}
use Rattle.chip.specs.Refusals.{number_of}
use Rattle.chip.specs.declared.entry.Entry.{Entry}
use Rattle.chip.specs.declared.refusal.Refusal.{Refusal}
use Rattle.crew.specs.declared.reply.Reply.{Reply}
use Rattle.crew.specs.declared.reply.Shown.{Shown}
use Rattle.crew.specs.declared.reply.Shown.TheVariants as shown
use Rattle.crew.specs.declared.word.Word.{Word}
use Rattle.crew.specs.declared.word.Word.TheVariants as word

-- how each word is written, in a line and in its reply
abbrev pub text_of : Word → List ℕ
text_of word.Line = codes "line"
text_of word.Kind = codes "kind"
text_of word.Cycle = codes "cycle"
text_of word.SetUp = codes "setup"
text_of word.Draw = codes "draw"
text_of word.Book = codes "book"
text_of word.WriteOff = codes "writeoff"
text_of word.Bill = codes "bill"
text_of word.Fault = codes "fault"

-- a number after a comma
abbrev pub field : ℕ → List ℕ
field n = 44 ∷ decimal n

-- the same of a number that may be negative
abbrev pub signed_field : ℤ → List ℕ
signed_field z = 44 ∷ signed_decimal z

-- what an entry says beside its sums
abbrev pub stretch_fields : Entry → List ℕ
stretch_fields e = field e.draw ++ (field e.spoilt ++ (field e.count ++ (field e.rate ++ (field e.off ++ field e.two_way))))

-- the sum of channel i + 1
abbrev pub sum_field : List ℤ → ℕ → List ℕ
sum_field zs i = signed_field (slice_index_or zs i (pos 0))

-- all four
abbrev pub sum_fields : List ℤ → List ℕ
sum_fields zs = sum_field zs 0 ++ (sum_field zs 1 ++ (sum_field zs 2 ++ sum_field zs 3))

-- the fields of an entry: draw number, spoilt mark, count, rate code, off mask, two-way mask, the four sums
abbrev pub entry_fields : Entry → List ℕ
entry_fields e = stretch_fields e ++ sum_fields e.sums

-- the fields of a bill: the energy, how many entries are billed, how many are spoilt
abbrev pub bill_fields : Bill → List ℕ
bill_fields b = signed_field b.energy ++ (field b.billed ++ field b.spoilt)

-- the fields of what a line that was taken shows
abbrev pub fields_of : Shown → List ℕ
fields_of shown.Nothing = []
fields_of (shown.Draw n) = field n
fields_of (shown.Entry e) = entry_fields e
fields_of (shown.Bill b) = bill_fields b

-- 0 and the fields, or the refusal's number and no more
abbrev pub outcome_fields : Result Shown Refusal → List ℕ
outcome_fields (Ok s) = codes ",0" ++ fields_of s
outcome_fields (Err e) = field (number_of e)

abbrev pub printed : Reply → List ℕ
printed r = text_of r.word ++ outcome_fields r.outcome

-- a reply and its line's end
abbrev pub printed_line : Reply → List ℕ
printed_line r = printed r ++ 10 ∷ []

-- some replies, one after the other
abbrev pub printed_lines : List Reply → List ℕ
printed_lines [] = []
printed_lines (p ∷ ps) = printed_line p ++ printed_lines ps

-- a text has these bytes more
abbrev pub Adds : (bytes : List ℕ) → (before after : String Global) → Type 0
Adds bytes before after = string_bytes after ≡ string_bytes before ++ bytes
