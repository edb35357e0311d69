-- The numbers in a line's pieces.
use Rattle.std.specs.Prelude.{ℕ, ◌-◌, Bool, cond, ◌&&◌, List, map, length, Ok, Err, Result, nat_le, nat_lt}
use Rattle.std.specs.Char.{is_ascii_digit}
use Rattle.std.specs.Int.Digits.{number_from_digits}
use Rattle.std.specs.List.{list_all}
use Rattle.chip.specs.declared.refusal.Refusal.{Refusal}
use Rattle.chip.specs.declared.refusal.Refusal.TheVariants.{Unreadable}

-- what digits are worth
abbrev pub worth : List ℕ → ℕ
worth bs = number_from_digits 10 (map (λ b. b - 48) bs)

-- one to five digits, at most 65,535
abbrev pub proper : List ℕ → Bool
proper bs = nat_le 1 (length bs) && (nat_le (length bs) 5 && (list_all is_ascii_digit bs && nat_lt (worth bs) 65536))

abbrev pub field_of : List ℕ → Result ℕ Refusal
field_of bs = cond (proper bs) (Ok (worth bs)) (Err Unreadable)
