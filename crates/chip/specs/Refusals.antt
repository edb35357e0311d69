-- The refusals, with their numbers and the values that they name.
use Rattle.std.specs.Prelude.{ℕ, Some, None, Option}
use Rattle.chip.specs.declared.refusal.Refusal.{Refusal}
use Rattle.chip.specs.declared.refusal.Refusal.TheVariants.{Limits, NotAcknowledged, Broken, SlipOut, NotReady, NumbersSpent, WrongSlip, Full}
use Rattle.chip.specs.declared.refusal.Refusal.TheVariants.{BadEntry, Unreadable, NoSlip}
use Rattle.chip.specs.declared.refusal.Who.{Who}
use Rattle.chip.specs.declared.refusal.Who.TheVariants.{Wire, Chip}

abbrev pub number_of : Refusal → ℕ
number_of Limits = 1
number_of (NotAcknowledged w a) = 2
number_of (Broken a) = 3
number_of SlipOut = 4
number_of NotReady = 5
number_of NumbersSpent = 6
number_of WrongSlip = 7
number_of Full = 8
number_of (BadEntry n) = 9
number_of Unreadable = 10
number_of NoSlip = 11

abbrev pub who_number : Who → ℕ
who_number Wire = 1
who_number Chip = 2

-- 2 and 3 name who refused; what breaks is always a wire
abbrev pub refused_by : Refusal → Option Who
refused_by Limits = None
refused_by (NotAcknowledged w a) = Some w
refused_by (Broken a) = Some Wire
refused_by SlipOut = None
refused_by NotReady = None
refused_by NumbersSpent = None
refused_by WrongSlip = None
refused_by Full = None
refused_by (BadEntry n) = None
refused_by Unreadable = None
refused_by NoSlip = None

-- 2 and 3 name the address
abbrev pub at_address : Refusal → Option ℕ
at_address Limits = None
at_address (NotAcknowledged w a) = Some a
at_address (Broken a) = Some a
at_address SlipOut = None
at_address NotReady = None
at_address NumbersSpent = None
at_address WrongSlip = None
at_address Full = None
at_address (BadEntry n) = None
at_address Unreadable = None
at_address NoSlip = None

-- 9 names the place
abbrev pub at_place : Refusal → Option ℕ
at_place Limits = None
at_place (NotAcknowledged w a) = None
at_place (Broken a) = None
at_place SlipOut = None
at_place NotReady = None
at_place NumbersSpent = None
at_place WrongSlip = None
at_place Full = None
at_place (BadEntry n) = Some n
at_place Unreadable = None
at_place NoSlip = None
