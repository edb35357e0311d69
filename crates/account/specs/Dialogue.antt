-- The meter, and each of its calls as what it asks of the wire and what it answers.
use Rattle.std.specs.Prelude.{ℕ, ◌+◌, ◌-◌, Bool, false, cond, not, ◌&&◌, List, [], ◌∷◌, ◌++◌, length, ℤ, ◌==◌, nat_le}
use Rattle.chip.specs.Registers.{number, in_mask}
use Rattle.chip.specs.Datasheet.{Datasheet, Wanted}
use Rattle.chip.specs.declared.entry.Entry.{Entry}
use Rattle.chip.specs.Chip.{Request, read, write, send}
use Rattle.chip.specs.Laws.{all_zero}
use Rattle.chip.specs.declared.refusal.Refusal.{Refusal}
use Rattle.chip.specs.declared.refusal.Refusal.TheVariants.{Limits, NotAcknowledged, Broken, SlipOut, NotReady, NumbersSpent, WrongSlip, Full}
use Rattle.wire.specs.Wire.{Reply, answered, unacknowledged, broken}
use Rattle.account.specs.Steps.{Step}
use Rattle.book.specs.Bill.{Bill, bill_of, no_bill, bill, book_within}

-- where a meter stands between calls
pub data Condition : Type 0 where
  ready : Condition
  unfinished : Condition
  in_doubt : Condition
  slip_out : (draw : ℕ) → Condition

-- all that a meter keeps
pub record Meter : Type 0 where
  -- its number
  pub meter : ℕ
  -- the last draw number used
  pub last : ℕ
  -- the settings that the next REFRESH is to put in force
  pub wanted : Wanted
  -- the mark of the settings in force, as the meter knows it
  pub mark : Bool
  pub write_offs : ℕ
  pub condition : Condition

-- what a draw hands out: the meter's number and the draw number
pub record Slip : Type 0 where
  pub meter : ℕ
  pub draw : ℕ

-- nothing wanted, no mark, ready
abbrev pub new_meter : (number last : ℕ) → Meter
new_meter number last = record { meter = number; last = last; wanted = all_zero; mark = false; write_offs = 0; condition = ready }

-- what a look reads: a bus code, or a sense code and whether its channel is two-way in the image
pub data Reading : Type 0 where
  volts : (code : ℕ) → Reading
  millivolts : (two_way : Bool) → (code : ℕ) → Reading

-- what a call answers
pub data Answer : Type 0 where
  -- set-up taken
  stored : Answer
  handed : Slip → Answer
  entered : Entry → Answer
  -- write-off taken
  given_up : Answer
  looked : Reading → Answer
  billed : (energy : ℤ) (billed spoilt : ℕ) → Answer
  refused : Refusal → Answer

-- a talk with a wire: it ends, or it asks and goes on by what comes back
pub data Dialogue (A : Type 0) : Type 0 where
  ends : A → Dialogue A
  asks : Request → (Reply → Dialogue A) → Dialogue A

-- the steps of a call, in order, with its end
pub data Follows {A : Type 0} : Dialogue A → List Step → A → Type 0 where
  ended : {a : A} → Follows (ends a) [] a
  stepped : {q : Request} {f : Reply → Dialogue A} {b : Bool} {r : Reply} {ss : List Step} {a : A} → Follows (f r) ss a
      → Follows (asks q f) (record { asked = q; carried = b; got = r } ∷ ss) a

-- a call's way ends with the meter after it and its answer
abbrev pub Way : Type 0
Way = Dialogue (Meter × Answer)

-- the meter in another condition
abbrev pub at : Meter → Condition → Meter
at t k = record { meter = t.meter; last = t.last; wanted = t.wanted; mark = t.mark; write_offs = t.write_offs; condition = k }

-- the mark turns, the draw number rises, the slip is out
abbrev pub drew : Meter → Meter
drew t = record {
  meter = t.meter;
  last = t.last + 1;
  wanted = t.wanted;
  mark = not t.mark;
  write_offs = t.write_offs;
  condition =
      slip_out (t.last + 1);
}

-- the meter with other wanted settings
abbrev pub wanting : Meter → Wanted → Meter
wanting t w = record { meter = t.meter; last = t.last; wanted = w; mark = t.mark; write_offs = t.write_offs; condition = t.condition }

-- one more write-off, and ready
abbrev pub wrote_off : Meter → Meter
wrote_off t = record {
  meter = t.meter;
  last = t.last;
  wanted = t.wanted;
  mark = t.mark;
  write_offs = t.write_offs + 1;
  condition =
      ready;
}

-- refused at once, with nothing asked
abbrev pub refuses : Meter → Refusal → Way
refuses t r = ends (t, refused r)

-- answered, the call goes on; not acknowledged, it ends at condition k, and broken at condition l
abbrev pub or_fails : Meter → (k l : Condition) → (address : ℕ) → (List ℕ → Way) → Reply → Way
or_fails t k l a f (answered bs) = f bs
or_fails t k l a f (unacknowledged w) = refuses (at t k) (NotAcknowledged w a)
or_fails t k l a f broken = refuses (at t l) (Broken a)

-- SET-UP
abbrev pub sets_up : Datasheet → Meter → Wanted → Way
sets_up m t w = cond (m.offers w) (ends (wanting t w, stored)) (refuses t Limits)

-- DRAW
-- the slip is handed out
abbrev pub hands : Meter → Way
hands t = ends (drew t, handed (record { meter = t.meter; draw = t.last + 1 }))

-- REFRESH: not acknowledged, the draw is unfinished; broken, nobody knows whether it was carried out
abbrev pub closes : Datasheet → Meter → Way
closes m t = asks (send m.refresh) (or_fails t unfinished in_doubt m.refresh (λ bs. hands t))

-- the settings' writes, one after the other, and then REFRESH
abbrev pub sets : Datasheet → Meter → List (ℕ × List ℕ) → Way
sets m t [] = closes m t
sets m t (p ∷ ps) = asks (write p.0 p.1) (or_fails t unfinished unfinished p.0 (λ bs. sets m t ps))

-- the wanted settings with the opposite mark, then REFRESH
abbrev pub refreshes : Datasheet → Meter → Way
refreshes m t = sets m t (m.settings_writes t.wanted (not t.mark))

abbrev pub unlike : Bool → Bool → Bool
unlike a b = cond a (not b) b

-- in doubt, a mark in force unlike the meter's says that the REFRESH was carried out
abbrev pub asks_mark : Datasheet → Meter → Way
asks_mark m t =
    asks (read m.mark_at.0 m.mark_at.1)
    (or_fails t in_doubt in_doubt m.mark_at.0 (λ bs. cond (unlike t.mark (m.mark_in (number bs))) (hands t) (refreshes m t)))

abbrev pub if_numbers_left : Meter → Way → Way
if_numbers_left t s = cond (t.last == 4294967295) (refuses t NumbersSpent) s

abbrev pub draws_at : Datasheet → Meter → Condition → Way
draws_at m t ready = if_numbers_left t (refreshes m t)
draws_at m t unfinished = if_numbers_left t (refreshes m t)
draws_at m t in_doubt = if_numbers_left t (asks_mark m t)
draws_at m t (slip_out n) = refuses t SlipOut

abbrev pub draws : Datasheet → Meter → Way
draws m t = draws_at m t t.condition

-- BOOKING AND WRITE-OFF
-- a slip is the open one if its meter and its draw number are
abbrev pub is_open : Meter → Slip → Condition → Bool
is_open t p ready = false
is_open t p unfinished = false
is_open t p in_doubt = false
is_open t p (slip_out n) = p.meter == t.meter && p.draw == n

abbrev pub fits_slip : Meter → Slip → Bool
fits_slip t p = is_open t p t.condition

abbrev pub book_limits : (places filled scratch : ℕ) → Bool
book_limits places filled scratch = book_within places filled && nat_le 32 scratch

-- reads one after the other, and goes on with all replies in a row; a failed read leaves the condition
abbrev pub gathers : Meter → List (ℕ × ℕ) → (List ℕ → Way) → Way
gathers t [] f = f []
gathers t (p ∷ ps) f = asks (read p.0 p.1) (or_fails t t.condition t.condition p.0 (λ bs. gathers t ps (λ rs. f (bs ++ rs))))

-- the reads of a booking, and the entry in their replies
abbrev pub enters : Datasheet → Meter → Slip → Way
enters m t p = gathers t m.booking_reads (λ rs. ends (at t ready, entered (m.entry_in rs p.draw)))

abbrev pub books : Datasheet → Meter → Slip → (places filled scratch : ℕ) → Way
books m t p places filled scratch =
    cond (book_limits places filled scratch)
    (cond (fits_slip t p)
    (cond (filled == places) (refuses t Full)
    (enters m t p))
    (refuses t WrongSlip))
    (refuses t Limits)

abbrev pub writes_off : Meter → Slip → Way
writes_off t p = cond (fits_slip t p) (ends (wrote_off t, given_up)) (refuses t WrongSlip)

-- LOOK
-- a read of a look's; failed, the meter is ready
abbrev pub reads_at : Meter → ℕ × ℕ → (List ℕ → Way) → Way
reads_at t p f = asks (read p.0 p.1) (or_fails t ready ready p.0 f)

-- the code, and for a sense code the image's polarity
abbrev pub sees : Datasheet → Meter → (channel quantity : ℕ) → Way
sees m t ch q =
    reads_at t (m.code_at ch q, 2) (λ bs.
    cond (q == 0) (ends (t, looked (volts (number bs))))
    (reads_at t m.polarity_at (λ gs. ends (t, looked (millivolts (in_mask (m.two_way_in (number gs)) (ch - 1)) (number bs))))))

abbrev pub looks_at : Datasheet → Meter → (channel quantity : ℕ) → Condition → Way
looks_at m t ch q ready = asks (send m.refresh_v) (or_fails t ready ready m.refresh_v (λ bs. sees m t ch q))
looks_at m t ch q unfinished = refuses t NotReady
looks_at m t ch q in_doubt = refuses t NotReady
looks_at m t ch q (slip_out n) = refuses t SlipOut

abbrev pub look_limits : Datasheet → (channel quantity : ℕ) → Bool
look_limits m ch q = nat_le 1 ch && nat_le ch m.channels && nat_le q 1

abbrev pub looks : Datasheet → Meter → (channel quantity : ℕ) → Way
looks m t ch q = cond (look_limits m ch q) (looks_at m t ch q t.condition) (refuses t Limits)

-- BILL
abbrev pub bill_answer : Bill → Answer
bill_answer (bill_of z n k) = billed z n k
bill_answer (no_bill r) = refused r

abbrev pub bills : (kind : Datasheet) → Meter → (places : ℕ) → List Entry → (channel shunt : ℕ) → Way
bills kind t places es ch u = ends (t, bill_answer (bill kind places es ch u))

-- all calls
pub data Call : Type 0 where
  set_up : Wanted → Call
  draw : Call
  book : Slip → (scratch : ℕ) → Call
  write_off : Slip → Call
  look : (channel quantity : ℕ) → Call
  bill_for : (kind : Datasheet) → (channel shunt : ℕ) → Call

abbrev pub dialogue : Datasheet → Call → Meter → (places : ℕ) → List Entry → Way
dialogue m (set_up w) t places es = sets_up m t w
dialogue m draw t places es = draws m t
dialogue m (book p scratch) t places es = books m t p places (length es) scratch
dialogue m (write_off p) t places es = writes_off t p
dialogue m (look ch q) t places es = looks m t ch q
dialogue m (bill_for kind ch u) t places es = bills kind t places es ch u
