-- What is answered to a line, and all that the desk is after it.
use Rattle.std.specs.Prelude.{◌≡◌, ℕ, Bool, true, false, ◌&&◌, List, [], ◌∷◌, Some, None, Ok, Err, Option, Result, nat_lt}
use Rattle.book.specs.declared.bill.Bill as figures
use Rattle.chip.specs.Datasheet.{Datasheet}
use Rattle.chip.specs.declared.refusal.Refusal.{Refusal}
use Rattle.chip.specs.declared.refusal.Refusal.TheVariants.{Limits, Unreadable}
use Rattle.chip.specs.declared.state.State.{State}
use Rattle.crew.specs.Asks.{word_of}
use Rattle.crew.specs.declared.kind.Kind.{Kind}
use Rattle.crew.specs.declared.reply.Reply.{Reply}
use Rattle.crew.specs.declared.reply.Shown.{Shown}
use Rattle.crew.specs.declared.reply.Shown.TheVariants as shown
use Rattle.crew.specs.declared.request.Request.{Request}
use Rattle.crew.specs.declared.request.Request.TheVariants.{Cycle, SetUp, Draw, Book, WriteOff, Bill, Fault}
use Rattle.crew.specs.declared.word.Word.TheVariants as word
use Rattle.desk.specs.Promises.{BookMade, CycleCame, DrawMade, OutcomeAdded, SetUpMade, WriteOffMade, chip_below, goes_scripted}
use Rattle.desk.specs.Standing.{Standing}
use Rattle.meter.specs.Promises.{MadeBill}
use Rattle.wire.specs.Wire.{Goes, Passes}

-- what is answered to a line that cannot be read
abbrev pub unreadable : Reply
unreadable = record { word = word.Line; outcome = Err Unreadable }

-- what is answered to the line that names a kind
abbrev pub kind_taken : Reply
kind_taken = record { word = word.Kind; outcome = Ok shown.Nothing }

-- before there is a post: the line that names a kind is taken and shows nothing, every other is unreadable
abbrev pub opened : Option Kind → Reply × Option Kind
opened None = (unreadable, None)
opened (Some k) = (kind_taken, Some k)

-- what the result of a call of the desk tells
abbrev pub told : {A : Type 0} → (A → Shown) → Result A Refusal → Result Shown Refusal
told shows (Ok x) = Ok (shows x)
told shows (Err e) = Err e

abbrev pub no_fields : Unit {0} → Shown
no_fields u = shown.Nothing

-- such a call was made, and the outcome tells its result
pub record Made {A : Type 0} (shows : A → Shown) (call : Result A Refusal → Type 0) (r : Result Shown Refusal) : Type 0 where
  pub result : Result A Refusal
  pub made : call result
  pub tells : r ≡ told shows result

-- every number is below 256
abbrev pub all_bytes : List ℕ → Bool
all_bytes [] = true
all_bytes (n ∷ ns) = nat_lt n 256 && all_bytes ns

module _ {W : Type 0} where
  -- refused, and all stays
  abbrev pub Refused : Refusal → Standing W → Result Shown Refusal → Standing W → Type 0
  Refused e d r d' = (r ≡ Err e) × (d' ≡ d)

  -- with numbers that are bytes; one above a byte is outside its limits
  pub record IfBytes (ns : List ℕ) (call : Type 0) (d : Standing W) (r : Result Shown Refusal) (d' : Standing W) : Type 0 where
    pub within : all_bytes ns ≡ true → call
    pub beyond : all_bytes ns ≡ false → Refused Limits d r d'

  module _ (m : Datasheet) (chip_of : W → State) (goes : Goes W) where
    -- the answer is the meter's bill of the book, and all stays as it is
    pub record BillMade (ch u : ℕ) (d : Standing W) (r : Result figures.Bill Refusal) (d' : Standing W) : Type 0 where
      pub bill : MadeBill m (chip_below chip_of) (goes_scripted goes) ch u d.meter d.wire d.book r
      pub same : d' ≡ d

    module _ (passes : Passes W) where
      -- what a request comes to
      abbrev pub Obeyed : Request → Standing W → Result Shown Refusal → Standing W → Type 0
      Obeyed (Cycle ks) d r d' = (r ≡ Ok shown.Nothing) × CycleCame m chip_of passes ks d d'
      Obeyed (SetUp rate off two_way) d r d' =
          IfBytes (rate ∷ off ∷ two_way ∷ [])
          (Made no_fields (λ x. SetUpMade m chip_of goes (record { rate = rate; off = off; two_way = two_way }) d x d') r) d r d'
      Obeyed Draw d r d' = Made shown.Draw (λ x. DrawMade m chip_of goes d x d') r
      Obeyed Book d r d' = Made shown.Entry (λ x. BookMade m chip_of goes d.hand d x d') r
      Obeyed WriteOff d r d' = Made no_fields (λ x. WriteOffMade m chip_of goes d.hand d x d') r
      Obeyed (Bill ch u) d r d' = IfBytes (ch ∷ []) (Made shown.Bill (λ x. BillMade ch u d x d') r) d r d'
      Obeyed (Fault k) d r d' = IfBytes (k ∷ []) (Made no_fields (λ x. OutcomeAdded m chip_of k d x d') r) d r d'

      -- what a line comes to: one that asks nothing is unreadable, and all stays
      abbrev pub Answered : Option Request → Standing W → Reply → Standing W → Type 0
      Answered None d p d' = (p ≡ unreadable) × (d' ≡ d)
      Answered (Some q) d p d' = (p.word ≡ word_of q) × Obeyed q d p.outcome d'
