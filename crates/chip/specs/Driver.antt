-- What a driver of a make sends and asks, as code holds it.
use Rattle.std.specs.Prelude.{ℕ, cond, ◌&&◌, List, map, take, Ok, Err, Result, nat_le}
use Rattle.arrayvec.specs.ArrayVec.{ArrayVec}
use Rattle.chip.specs.declared.driver.RegisterWrite.{RegisterWrite}
use Rattle.chip.specs.declared.driver.Span.{Span}
use Rattle.chip.specs.declared.refusal.Refusal.{Refusal}
use Rattle.chip.specs.declared.refusal.Refusal.TheVariants.{Limits}
use Rattle.chip.specs.declared.state.Constants.{Constants}
use Rattle.chip.specs.declared.wanted.Wanted as code
use Rattle.chip.specs.Datasheet.{Datasheet, Wanted}

-- a read, as its address and its length
abbrev pub span_of : Span → ℕ × ℕ
span_of s = (s.address, s.length)

-- and back
abbrev pub as_span : ℕ × ℕ → Span
as_span p = record { address = p.0; length = p.1 }

abbrev pub spans_of : List Span → List (ℕ × ℕ)
spans_of = map span_of

-- a write, as its address and its bytes
abbrev pub write_of : RegisterWrite → ℕ × List ℕ
write_of w = (w.address, take w.length w.bytes)

abbrev pub writes_of : ArrayVec RegisterWrite → List (ℕ × List ℕ)
writes_of ws = map write_of ws.items

-- wanted settings, as the data sheets speak of them
abbrev pub wanted_of : code.Wanted → Wanted
wanted_of w = record { rate = w.rate; off = w.off; two_way = w.two_way }

-- or why they are none
abbrev pub seen_of : Result code.Wanted Refusal → Result Wanted Refusal
seen_of (Ok w) = Ok (wanted_of w)
seen_of (Err e) = Err e

-- rate codes 0 to 3, masks 0 to 15
abbrev pub wanted_from : (rate off two_way : ℕ) → Result Wanted Refusal
wanted_from rate off two_way =
    cond (nat_le rate 3 && nat_le off 15 && nat_le two_way 15) (Ok (record { rate = rate; off = off; two_way = two_way })) (Err Limits)

-- the numbers of a make
abbrev pub constants_of : Datasheet → Constants
constants_of m = record {
  channels = m.channels;
  sum_bits = m.sum_bits;
  count_bits = m.count_bits;
  fresh = m.fresh;
  last_address = m.last_address;
  refresh = m.refresh;
  refresh_v = m.refresh_v;
  mark = as_span m.mark_at;
  polarity = as_span m.polarity_at;
  volts = m.volts;
  tariff = m.tariff;
}
