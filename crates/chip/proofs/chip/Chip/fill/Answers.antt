use Rattle.std.proofs.Common.{◌≡◌, ◌+◌, ◌-◌, ◌++◌, length, take, replicate, ap, ap₂, inl, inr, arith}
use Rattle.chip.specs.Chip.{shown}
use Rattle.chip.proofs.Fills.{ended, turn}
use Rattle.chip.proofs.chip.Chip.fill.Goals as goal
use Rattle.chip.proofs.chip.Chip.fill.Goals.{else-loop-address-test, then-loop-address-test+then-at-bytes, then-loop-address-test+else-at-bytes+else-address-address-end}

pub loop-address-init : goal.loop-address-init
loop-address-init g c =
    let n = length c.args.bytes.now in
    let all : n - 0 ≡ n = omega arith in (
      omega arith,
      ap₂ (λ k end. take k (shown g.M.Make.sheet c.args.self.now.state (end + 1 - c.args.start) c.args.start ++ replicate n 255)) all (ap (λ x. x.last_address) c.constants-address-end.ensures),
    )

pub loop-address-preserved : goal.loop-address-preserved
loop-address-preserved g c =
    turn g.M.Make.sheet c.args.self.now.state (c.constants-address-end.result.last_address + 1) c.args.start (length c.args.bytes.now) c.loop-address.bytes c.loop-address.at c.loop-address.address
    c.loop-address.auto.bytes c.show-at.result c.show-at.new.bytes (omega arith) c.show-at.ensures.count c.show-at.ensures.after c.loop-address.invariant

-- however the loop ends, the bytes so far are the reply's, and no register or no room is left
pub returns : goal.returns
returns g c =
    let m = g.M.Make.sheet in
    let s = c.args.self.now.state in
    let start = c.args.start in
    let n = length c.args.bytes.now in
    let end = c.constants-address-end.result.last_address + 1 in
    let t = c.loop-address-test in
    let l = c.loop-address in
    let long : length t.bytes ≡ n = omega (arith, t.auto.bytes, l.auto.bytes) in
    elim t.branch [
      | else-loop-address-test w ↦
          ended m s end start n t.bytes t.at l.address long c.blank.new.bytes (inl (omega (arith, w.loop-address-test.false))) c.blank.ensures (rw (w.bytes-is, w.at-is) l.invariant)
      | then-loop-address-test+then-at-bytes w ↦
          ended m s end start n t.bytes t.at l.address long c.blank.new.bytes (inr (omega (arith, w.if-at-bytes.true, w.at-is))) c.blank.ensures (rw (w.bytes-is, w.at-is) l.invariant)
      | then-loop-address-test+else-at-bytes+else-address-address-end w ↦
          ended m s end start n t.bytes t.at (l.address + 1) long c.blank.new.bytes (inl (omega (arith, w.loop-address-test.true))) c.blank.ensures
          (rw (w.bytes-is, w.at-is) (turn m s end start n l.bytes l.at l.address l.auto.bytes w.show-at.result w.show-at.new.bytes (omega arith) w.show-at.ensures.count w.show-at.ensures.after l.invariant))
    ]
