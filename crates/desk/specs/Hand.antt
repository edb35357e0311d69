-- The slip in hand.
use Rattle.std.specs.Prelude.{Bool, true, Some, None, Option}
use Rattle.account.specs.Dialogue.{fits_slip}
use Rattle.meter.specs.declared.meter.Meter.{Meter}
use Rattle.meter.specs.declared.slip.Slip.{Slip}
use Rattle.meter.specs.Views.{meter_of, slip_of}

-- a slip in hand is the one that the meter has out
abbrev pub fits_in_hand : {W : Type 0} → Meter W → Option Slip → Bool
fits_in_hand t None = true
fits_in_hand t (Some p) = fits_slip (meter_of t) (slip_of p)
