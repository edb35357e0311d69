-- Replies, and the text that they are added to.
use Rattle.std.specs.Prelude.{List, Some, Option, String}
use Rattle.std.specs.declared.alloc.Global.{Global}
use Rattle.book.specs.Book.{Pages}
use Rattle.chip.specs.Datasheet.{Datasheet}
use Rattle.chip.specs.declared.entry.Entry.{Entry}
use Rattle.crew.specs.Prints.{Adds, printed_lines}
use Rattle.crew.specs.Sessions.{LinesAnswered, Opening, PostServed, ServedBy}
use Rattle.crew.specs.declared.kind.Kind.{Kind}
use Rattle.crew.specs.declared.reply.Reply.{Reply}
use Rattle.desk.specs.Standing.{Standing}
use Rattle.lines.specs.Inputs.{lines_left}
use Rattle.lines.specs.declared.input.Input.{Input}
use Rattle.wire.specs.declared.direct.Direct.{Direct}
use Rattle.wire.specs.declared.scripted.Scripted.{Scripted}

-- the replies to the lines before there is a chip, added to a text; the kind that was named, and the input that is left
pub record OpeningPrinted (input left : Input) (before after : String Global) (kind : Option Kind) : Type 0 where
  pub replies : List Reply
  pub opening : Opening (lines_left input) replies kind (lines_left left)
  pub prints : Adds (printed_lines replies) before after

-- the replies to all lines of an input at a post, added to a text; they lead its desk from d to d'
pub record LinesPrinted (m : Datasheet) {M : Type 0} (input : Input) (d d' : Standing (Direct M)) (before after : String Global) : Type 0 where
  pub replies : List Reply
  pub answered : LinesAnswered m (lines_left input) d replies d'
  pub prints : Adds (printed_lines replies) before after

-- the replies to all lines of an input at a new post, added to a text; and its wire and book after its end
pub record PostPrinted (m : Datasheet) {M : Type 0} (input : Input) (places : List Entry) (before after : String Global) (wire : Scripted (Direct M))
    (book : Pages) : Type 0 where
  pub replies : List Reply
  pub served : PostServed m places (lines_left input) replies wire book
  pub prints : Adds (printed_lines replies) before after

-- the replies to all lines of an input at a new post of this kind, added to a text
pub record KindPrinted (kind : Kind) (input : Input) (before after : String Global) : Type 0 where
  pub replies : List Reply
  pub served : ServedBy (Some kind) (lines_left input) replies
  pub prints : Adds (printed_lines replies) before after
