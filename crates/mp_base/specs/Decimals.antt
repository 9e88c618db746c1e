-- Units of 10^-12 as decimals with 12 places.
use Rattle.std.specs.Prelude.{ℕ, ℤ, ◌-◌, ◌/◌, ◌%◌, ◌^◌, pos, negsuc, suc, List, ◌∷◌, ◌++◌, length, decimal, replicate}

-- n in so many digits, with zeros first
abbrev pub padded : ℕ → ℕ → List ℕ
padded width n = replicate (width - length (decimal n)) 48 ++ decimal n

-- a magnitude in units: its whole part, a point and 12 places
abbrev pub magnitude_text : ℕ → List ℕ
magnitude_text n = decimal (n / 10 ^ 12) ++ 46 ∷ padded 12 (n % 10 ^ 12)

-- a number of units
abbrev pub decimal_text : ℤ → List ℕ
decimal_text (pos n) = magnitude_text n
decimal_text (negsuc n) = 45 ∷ magnitude_text (suc n)
