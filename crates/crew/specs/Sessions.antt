-- A whole input: its lines answered one by one, the bytes that are printed, and the account that they give.
use Rattle.std.specs.Prelude.{◌≡◌, ℕ, List, [], ◌∷◌, ◌++◌, replicate, pos, Some, None, Option}
use Rattle.account.specs.Dialogue.{Meter, Slip, wrote_off}
use Rattle.account.specs.History.{History, Reached, booked, written_off}
use Rattle.account.specs.Statements.{Statements}
use Rattle.book.specs.Book.{Pages, entries}
use Rattle.chip.specs.Datasheet.{Datasheet}
use Rattle.chip.specs.declared.entry.Entry.{Entry}
use Rattle.chip.specs.declared.state.State.{State}
use Rattle.crew.specs.Asks.{asked, kind_asked}
use Rattle.crew.specs.Obeyed.{kind_taken, unreadable}
use Rattle.crew.specs.Prints.{printed_lines}
use Rattle.crew.specs.Runs.{LineAnswered, PostOpened, chip_at, line_shows, visible}
use Rattle.crew.specs.declared.kind.Kind.{Kind}
use Rattle.crew.specs.declared.kind.Kind.TheVariants.{Pac193x, Pac194x}
use Rattle.crew.specs.declared.reply.Reply.{Reply}
use Rattle.desk.specs.Standing.{Standing}
use Rattle.lines.specs.Cuts.{lines, read_part}
use Rattle.makes.specs.Pac193x.{pac193x}
use Rattle.makes.specs.Pac194x.{pac194x}
use Rattle.makes.specs.declared.pac193x.Pac193x as code193x
use Rattle.makes.specs.declared.pac194x.Pac194x as code194x
use Rattle.wire.specs.declared.direct.Direct.{Direct}
use Rattle.wire.specs.declared.scripted.Scripted.{Scripted}

-- THE LINES BEFORE THERE IS A CHIP

-- up to the first line that names a kind every line is unreadable; that one is taken. Some lines, their replies, the kind, and the lines that are left
pub data Opening : List (List ℕ) → List Reply → Option Kind → List (List ℕ) → Type 0 where
  no_line : Opening [] [] None []
  not_named : {b : List ℕ} {bs left : List (List ℕ)} {ps : List Reply} {k : Option Kind} → kind_asked b ≡ None → Opening bs ps k left
      → Opening (b ∷ bs) (unreadable ∷ ps) k left
  named : {b : List ℕ} {bs : List (List ℕ)} {k : Kind} → kind_asked b ≡ Some k → Opening (b ∷ bs) (kind_taken ∷ []) (Some k) bs

-- THE LINES AT A POST

-- these lines got these replies, one each, in their order, and nothing else happened to the post: each step is what one line comes to
pub data LinesAnswered (m : Datasheet) {M : Type 0} : List (List ℕ) → Standing (Direct M) → List Reply → Standing (Direct M) → Type 0 where
  no_line : {d : Standing (Direct M)} → LinesAnswered m [] d [] d
  one_line : {b : List ℕ} {bs : List (List ℕ)} {d d' d'' : Standing (Direct M)} {p : Reply} {ps : List Reply} → LineAnswered m (asked b) d p d'
      → LinesAnswered m bs d' ps d'' → LinesAnswered m (b ∷ bs) d (p ∷ ps) d''

-- the cycles that these lines ask, the entries that their replies show and the write-offs that were granted, the newest first
abbrev pub lines_show : List (List ℕ) → List Reply → History
lines_show [] ps = []
lines_show (b ∷ bs) [] = []
lines_show (b ∷ bs) (p ∷ ps) = lines_show bs ps ++ line_shows (asked b) p.outcome

-- the entries among them, the oldest first
abbrev pub booked_in : History → List Entry
booked_in [] = []
booked_in (booked e ∷ h) = booked_in h ++ e ∷ []
booked_in (x ∷ h) = booked_in h

-- a run from a fresh chip and an empty book of 64 places on, whose cycles, entries and write-offs are just these, in this order; it led to this
-- meter, chip and book, and account, conservation and bill hold of it
pub record RunShown (m : Datasheet) (shows : History) (t : Meter) (c : State) (es : List Entry) : Type 0 where
  pub history : History
  pub visible_part : visible history ≡ shows
  pub reached : Reached m 64 1 0 t c es history
  pub statements : Statements m 64 1 0 t c es history

-- the end writes a slip in hand off: so stands the meter then
abbrev pub meter_ended : Option Slip → Meter → Meter
meter_ended None t = t
meter_ended (Some p) t = wrote_off t

-- and that is one write-off more to be seen
abbrev pub shown_ended : Option Slip → History → History
shown_ended None h = h
shown_ended (Some p) h = written_off ∷ h

-- lines answered at a new post of a make, with these places for its book, from its beginning to its end, and the wire and the book after that
pub record PostServed (m : Datasheet) {M : Type 0} (places : List Entry) (bs : List (List ℕ)) (ps : List Reply) (wire : Scripted (Direct M)) (book : Pages)
    : Type 0 where
  pub begun : Standing (Direct M)
  pub opened : PostOpened m places begun
  pub left : Standing (Direct M)
  pub answered : LinesAnswered m bs begun ps left
  -- the end changes neither wire nor book
  pub wire_left : wire ≡ left.wire
  pub book_left : book ≡ left.book
  -- the account after the last line, and after the end
  pub account : RunShown m (lines_show bs ps) left.meter (chip_at wire.below) (entries book)
  pub at_end : RunShown m (shown_ended left.hand (lines_show bs ps)) (meter_ended left.hand left.meter) (chip_at wire.below) (entries book)
  -- the book has just the entries that were printed
  pub booked : entries book ≡ booked_in (lines_show bs ps)

-- THE WHOLE INPUT

-- what stands in a place of a book that nothing was written to
abbrev pub empty_entry : Entry
empty_entry = record { draw = 0; spoilt = 0; count = 0; rate = 0; off = 0; two_way = 0; sums = replicate 4 (pos 0) }

-- lines answered at a post of this make, with a book of 64 empty places
pub record Served (m : Datasheet) (M : Type 0) (bs : List (List ℕ)) (ps : List Reply) : Type 0 where
  pub wire : Scripted (Direct M)
  pub book : Pages
  pub served : PostServed m (replicate 64 empty_entry) bs ps wire book

-- the kind that was named opens that make; if none was, no line is left
abbrev pub ServedBy : Option Kind → List (List ℕ) → List Reply → Type 0
ServedBy None bs ps = ps ≡ []
ServedBy (Some Pac193x) bs ps = Served pac193x code193x.Pac193x bs ps
ServedBy (Some Pac194x) bs ps = Served pac194x code194x.Pac194x bs ps

-- the replies to all lines of an input, one each, in their order
pub record Session (bs : List (List ℕ)) (ps : List Reply) : Type 0 where
  pub kind : Option Kind
  pub first : List Reply
  pub left : List (List ℕ)
  pub later : List Reply
  pub opening : Opening bs first kind left
  pub served : ServedBy kind left later
  pub all : ps ≡ first ++ later

-- what is printed for an input: the replies to the lines in its first 64 KiB
pub record InputAnswered (input output : List ℕ) : Type 0 where
  pub replies : List Reply
  pub session : Session (lines (read_part input)) replies
  pub prints : output ≡ printed_lines replies
