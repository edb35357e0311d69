-- What a look answers, in the arithmetic of 64-bit floats.
use Rattle.std.specs.Prelude.{ℕ, cond, ℤ, pos, Float}
use Rattle.std.specs.Float.{binary64}
use Rattle.std.specs.Float.Ieee.{mul, div, of_int}
use Rattle.chip.specs.Datasheet.{Datasheet}
use Rattle.chip.specs.Registers.{value_of}
use Rattle.account.specs.Dialogue as machine
use Rattle.meter.specs.declared.reading.Reading.{Reading}
use Rattle.meter.specs.declared.reading.Reading.TheVariants.{Volts, Millivolts}

-- a code times a full scale over so many steps, in that order of work
abbrev pub scaled : (code : ℤ) → (scale steps : ℕ) → Float
scaled code scale steps = div binary64 (mul binary64 (of_int binary64 code) (of_int binary64 (pos scale))) (of_int binary64 (pos steps))

abbrev pub reading_of : Datasheet → machine.Reading → Reading
reading_of m (machine.volts code) = Volts (scaled (pos code) m.volts 65536)
reading_of m (machine.millivolts two_way code) = Millivolts (scaled (value_of 16 two_way code) 100 (cond two_way 32768 65536))
