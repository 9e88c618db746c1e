-- What is accepted.
use Rattle.std.specs.Prelude.{ℕ, ◌-◌, ◌^◌, ◌+ℤ◌, ◌-ℤ◌, pos, List, ◌++◌, length, nat_le, if◌then◌else◌, Option, Some, None}
use Rattle.mp_tokens.specs.Literals.{Decimal, decimal_by, is_in_range, number_of, signed_number, without_end_zeros}

-- a number that is at most the greatest m
abbrev pub up_to_limit : ℕ → Option ℕ
up_to_limit n = if nat_le n (10 ^ 37) then Some n else None

-- a number that is in range
abbrev pub accepted : Decimal → Option Decimal
accepted d = if is_in_range d then Some d else None

-- how many zeros stand at the end of these digits
abbrev pub end_zeros : List ℕ → ℕ
end_zeros digits = length digits - length (without_end_zeros digits)

-- the number that digits before and after the point and an exponent write
abbrev pub decimal_of_parts : List ℕ → List ℕ → List ℕ → Decimal
decimal_of_parts whole fraction exponent =
    decimal_by (number_of (without_end_zeros (whole ++ fraction))) (signed_number exponent +ℤ (pos (end_zeros (whole ++ fraction)) -ℤ pos (length fraction)))
