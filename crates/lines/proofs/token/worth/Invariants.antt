use Rattle.std.proofs.Common.{◌≡◌, ◌-◌, ◌^◌, ◌<◌, true, map, drop, take}
use Rattle.std.specs.Char.{is_ascii_digit}
use Rattle.std.specs.Int.Digits.{number_from_digits_after}
use Rattle.std.specs.List.{list_all}
use Rattle.lines.specs.Fields.{worth}
use Rattle.lines.proofs.token.worth.Given as goal

-- all digits so far; those with what is left; and room for one more
abbrev pub invariant-loop-byte : goal.invariant-loop-byte
invariant-loop-byte l =
    (list_all is_ascii_digit (take l.byte-index l.text) ≡ true) × (number_from_digits_after 10 l.number (map (λ b. b - 48) (drop l.byte-index l.text)) ≡ worth l.text) × (l.number < 10 ^ l.byte-index)
