-- Numbers that may be exponents.
use Rattle.std.specs.Prelude.{ℤ, pos, ◌&&◌, nat_le, if◌then◌else◌, Option, Some, None}
use Rattle.std.specs.Ordering.{int_eq}
use Rattle.std.specs.Int.RustNames.{unsigned_abs}

-- n / d, where it is a whole number that is near and in lowest terms
abbrev pub near_of : ℤ → ℤ → Option ℤ
near_of n d = if int_eq d (pos 1) && nat_le (unsigned_abs n) 16 then Some n else None
