-- The make that turns: it keeps the laws, and a cycle between two reads of a booking makes it tell a falsehood.
use Rattle.std.proofs.Common.{◌≡◌, ℕ, zero, suc, ◌≤◌, Bool, true, false, cond, not, ◌||◌, eqb, refl, ap, ⊎_elim, arith}
use Rattle.std.proofs.lemmas.Bool.{cases_Bool, eqb-true}
use Rattle.makes.specs.Figures.{on_one}
use Rattle.makes.specs.Layouts.{same_entry}
use Rattle.makes.specs.Table.{bit}
use Rattle.chip.specs.Chip.{entry_of, spoilt}
use Rattle.chip.specs.Laws.{Lawful, Readable, Sound, replies}
use Rattle.chip.specs.Registers.{big_endian, number}
use Rattle.chip.specs.declared.state.State.{State}
use Rattle.wire.specs.Wire.{done}
use Rattle.account.proofs.LawfulSingle.{lawful_single}
use Rattle.account.specs.Dialogue.{book, draw, ended, stepped}
use Rattle.busy.specs.Events.{at_end, by_conversion, by_transaction}
use Rattle.busy.specs.Runs.{busy_call, busy_made}
use Rattle.busy.specs.Statements.{EveryBusyRunOf}
use Rattle.busy.specs.Turning.{LawsNotEnough, turning, upright}
use Rattle.busy.specs.Worked.{first_slip}

narrow : (a : ℕ) → turning.width a ≤ 8
narrow a = grind arith

three_commands : (a : ℕ) → (eqb a 0x00 || eqb a 0x14 || eqb a 0x15) ≡ true → turning.width a ≡ 0
three_commands a e = ⊎_elim (λ (y : eqb a 0x00 ≡ true). let z = eqb-true a 0x00 y in rw z refl) (λ (y : eqb a 0x00 ≡ false). ⊎_elim (λ (y₂ : eqb a 0x14 ≡ true). let z =
    eqb-true a 0x14 y₂ in rw z refl) (λ (y₂ : eqb a 0x14 ≡ false). let y₃ : eqb a 0x15 ≡ true = rw (y, y₂) at e in let z =
    eqb-true a 0x15 y₃ in rw z refl) (cases_Bool (eqb a 0x14))) (cases_Bool (eqb a 0x00))

code_listed : (ch q : ℕ) → q ≤ 1 → Readable turning (turning.code_at ch q, 2)
code_listed ch zero v = (omega arith, omega arith, omega arith, omega arith)
code_listed ch (suc zero) v = (omega arith, omega arith, omega arith, omega arith)
code_listed ch (suc (suc q)) v = absurd (omega arith)

-- the two registers together tell the mark, whichever way round it stands
mark_told : (k s : Bool) → bit (cond (eqb (number (big_endian 1 (bit k))) 1) (eqb (number (big_endian 2 (bit (cond k s (not s))))) 1)
    (not (eqb (number (big_endian 2 (bit (cond k s (not s))))) 1))) ≡ bit s
mark_told true true = refl
mark_told true false = refl
mark_told false true = refl
mark_told false false = refl

entry_ok : (c : State) (n : ℕ) → Sound turning c.image.running → turning.entry_in (replies turning c turning.booking_reads) n ≡ entry_of turning c.image n
entry_ok c n ok =
    let e = lawful_single.entry_read c n (record { four = ok.four; count = ok.count; sums = ok.sums; rest = ok.rest }) in
    same_entry (turning.entry_in (replies turning c turning.booking_reads) n) (entry_of turning c.image n) refl
    (mark_told (upright c) (spoilt c.image.running))
    (ap (λ x. x.count) e) (ap (λ x. x.rate) e) (ap (λ x. x.off) e) (ap (λ x. x.two_way) e) (ap (λ x. x.sums) e)

lawful_turning : Lawful turning
lawful_turning = record {
  one_to_four = lawful_single.one_to_four;
  some_bits = lawful_single.some_bits;
  sums_fit = lawful_single.sums_fit;
  counts_fit = lawful_single.counts_fit;
  widths_fit = narrow;
  addresses_fit = lawful_single.addresses_fit;
  no_product = lawful_single.no_product;
  fresh_mark = refl;
  zero_offered = refl;
  meaning_offered = lawful_single.meaning_offered;
  offer_limits = lawful_single.offer_limits;
  two_commands = lawful_single.two_commands;
  refresh_is = lawful_single.refresh_is;
  refresh_v_is = lawful_single.refresh_v_is;
  commands_unlisted = three_commands;
  few_writes = lawful_single.few_writes;
  byte_writes = lawful_single.byte_writes;
  written_means = lawful_single.written_means;
  mark_readable = lawful_single.mark_readable;
  mark_read = lawful_single.mark_read;
  booking_readable = (
    (omega arith, omega arith, omega arith, omega arith),
    (
      (omega arith, omega arith, omega arith, omega arith),
      (
        (omega arith, omega arith, omega arith, omega arith),
        (
          (omega arith, omega arith, omega arith, omega arith),
          ((omega arith, omega arith, omega arith, omega arith), ((omega arith, omega arith, omega arith, omega arith), tt)),
        ),
      ),
    ),
  );
  entry_read = entry_ok;
  code_readable = λ ch q l u v. code_listed ch q v;
  bus_read = lawful_single.bus_read;
  sense_read = lawful_single.sense_read;
  polarity_readable = lawful_single.polarity_readable;
  polarity_read = lawful_single.polarity_read;
  few_replies = omega arith;
  mark_short = lawful_single.mark_short;
  polarity_short = lawful_single.polarity_short;
  tariff_fits = lawful_single.tariff_fits;
}

-- a draw; a booking with a cycle behind its third read, and so an entry marked spoilt of a stretch that was not
not_accounted : EveryBusyRunOf turning → ⊥
not_accounted every =
    let run = busy_call (book first_slip 32)
    (busy_call draw busy_made
    (stepped (stepped (stepped ended)))
    (by_transaction (done refl) (by_transaction (done refl) (by_transaction (done refl) at_end))))
    (stepped (stepped (stepped (stepped (stepped (stepped ended))))))
    (by_transaction (done refl) (by_transaction (done refl) (by_transaction (done refl) (by_conversion (on_one 40000 20000) refl
    (by_transaction (done refl) (by_transaction (done refl) (by_transaction (done refl) at_end))))))) in
    (every 64 1 0 _ _ _ _ (omega arith) run).accounted.settled.0.marked.0 refl

pub laws_not_enough : LawsNotEnough
laws_not_enough = record { keeps_the_laws = lawful_turning; but_not_the_account = not_accounted }
