-- How deep and how long values are, up to the limits.
use Rattle.std.specs.Prelude.{◌≡◌, ℕ, ◌+◌, min, List, [], ◌∷◌, length}
use Rattle.mp_mvalue.specs.declared.value.Value.{Value, Whole, Truth, Text, List', Row_of-Value, end_of-Value, more_of-Value}
use Rattle.mp_mvalue.specs.Values.{shown, deepest}

-- how long elements print, each with a comma and a blank
abbrev pub spread : List Value → ℕ
spread [] = 0
spread (x ∷ xs) = length (shown x) + 2 + spread xs

-- these elements have arrays so deep in them, and print so long; what is over a limit counts as one more
abbrev pub IsMeasured : List Value → (depth size : ℕ) → Type 0
IsMeasured xs depth size = (depth ≡ min 100 (deepest xs)) × (size ≡ min 8388609 (spread xs))

abbrev mutual
  -- how many values stand in a value, itself included
  pub weight : Value → ℕ
  weight (Whole n) = 1
  weight (Truth b) = 1
  weight (Text t) = 1
  weight (List' n r) = 1 + row_weight r

  pub row_weight : {n : _} → Row_of-Value n → ℕ
  row_weight end_of-Value = 0
  row_weight (more_of-Value x r) = weight x + row_weight r

abbrev pub all_weight : List Value → ℕ
all_weight [] = 0
all_weight (x ∷ xs) = weight x + all_weight xs
