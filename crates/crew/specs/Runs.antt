-- The statements about runs, at a desk.
use Rattle.std.specs.Prelude.{◌≡◌, ◌≤◌, List, [], ◌∷◌, ◌++◌, length, Some, Ok, Option, Result}
use Rattle.account.specs.History.{History, Reached, booked, carried_out, cycle_came, written_off}
use Rattle.account.specs.Statements.{Statements}
use Rattle.book.specs.Book.{entries}
use Rattle.chip.specs.Chip.{fresh_chip}
use Rattle.chip.specs.Datasheet.{Datasheet}
use Rattle.chip.specs.declared.entry.Entry.{Entry}
use Rattle.chip.specs.declared.refusal.Refusal.{Refusal}
use Rattle.chip.specs.declared.state.State.{State}
use Rattle.crew.specs.Obeyed.{Answered}
use Rattle.crew.specs.declared.reply.Reply.{Reply}
use Rattle.crew.specs.declared.reply.Shown.{Shown}
use Rattle.crew.specs.declared.reply.Shown.TheVariants as shown
use Rattle.crew.specs.declared.request.Request.{Request}
use Rattle.crew.specs.declared.request.Request.TheVariants.{Book, Cycle, WriteOff}
use Rattle.desk.specs.Promises.{DeskOpened, Ended}
use Rattle.desk.specs.Standing.{Standing}
use Rattle.wire.specs.Direct.{DirectGoes, DirectPasses}
use Rattle.wire.specs.Scripted.{seen, unplayed}
use Rattle.wire.specs.Wire.{Goes, Passes}
use Rattle.wire.specs.declared.direct.Direct.{Direct}
use Rattle.wire.specs.declared.scripted.Scripted.{Scripted}

-- what the crew sees of a history: the cycles, the entries and the write-offs, and not the requests that the chip carried out. The newest stands first
abbrev pub visible : History → History
visible [] = []
visible (carried_out q ∷ h) = visible h
visible (x ∷ h) = x ∷ visible h

-- what a line adds to that, by what it asks and what comes of it
abbrev pub line_shows : Option Request → Result Shown Refusal → History
line_shows (Some (Cycle ks)) r = cycle_came ks ∷ []
line_shows (Some Book) (Ok (shown.Entry e)) = booked e ∷ []
line_shows (Some WriteOff) (Ok s) = written_off ∷ []
line_shows q r = []

-- a book of 64 places, no more filled than there are
pub record HasRoom {W : Type 0} (d : Standing W) : Type 0 where
  pub places : length d.book.places ≡ 64
  pub filled : d.book.filled ≤ 64

module _ (m : Datasheet) {W : Type 0} (chip_of : W → State) where
  -- this history of cycles and calls, from a fresh chip and an empty book of 64 places on, led meter 1, its chip and its book to where they
  -- stand, and all statements hold of them
  pub record LedBy (d : Standing W) (h : History) : Type 0 where
    pub reached : Reached m 64 1 0 d.meter (chip_of d.wire.below) (entries d.book) h
    pub statements : Statements m 64 1 0 d.meter (chip_of d.wire.below) (entries d.book) h

  -- some history did
  pub record OnRun (d : Standing W) : Type 0 where
    pub room : HasRoom d
    pub history : History
    pub led : LedBy d history

  -- whatever history led to d, one that goes on from it led to d', and the crew sees just this more
  pub record GoesOn (shows : History) (d d' : Standing W) : Type 0 where
    pub on : (h : History) → LedBy d h → (since : History) × (visible since ≡ shows) × LedBy d' (since ++ h)

-- the chip at a direct wire, and how that takes a request and a cycle
abbrev pub chip_at : {M : Type 0} → Direct M → State
chip_at w = w.chip.state

abbrev pub goes_to : Datasheet → {M : Type 0} → Goes (Direct M)
goes_to m u q b r w = DirectGoes m (chip_at u) q b r (chip_at w)

abbrev pub passes_to : Datasheet → {M : Type 0} → Passes (Direct M)
passes_to m u ks w = DirectPasses m (chip_at u) ks (chip_at w)

-- what a line comes to at a post, and what its end does to a slip in hand
abbrev pub LineAnswered : Datasheet → {M : Type 0} → Option Request → Standing (Direct M) → Reply → Standing (Direct M) → Type 0
LineAnswered m q d p d' = Answered m chip_at (goes_to m) (passes_to m) q d p d'

abbrev pub PostEnded : Datasheet → {M : Type 0} → Standing (Direct M) → Scripted (Direct M) → Type 0
PostEnded m d w = Ended m chip_at (goes_to m) d.hand d.meter d.wire w

-- a new post: an empty book of the lent places, nothing in hand, a fresh chip, and no outcome added
pub record PostOpened (m : Datasheet) {M : Type 0} (places : List Entry) (d : Standing (Direct M)) : Type 0 where
  pub desk : DeskOpened m chip_at d.wire places d
  pub chip : chip_at d.wire.below ≡ fresh_chip m
  pub script : seen d.wire ≡ unplayed d.wire.below
