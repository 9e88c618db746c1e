-- The records of derivatives, as comma-separated values.
use Rattle.std.specs.Prelude.{ℕ, suc, ℤ, pos, negsuc, List, [], ◌∷◌, map, codes}
use Rattle.std.specs.List.{flat_map}
use Rattle.csv.specs.Writing.{row_text, default_writer}
use Rattle.mp_canonical.specs.Numbers.{decimal_digits}

-- the number of an equation, from 1, the name of a variable, by how many periods it is shifted, and the text of the equation's derivative by it
pub record Derivation : Type 0 where
  pub equation : ℕ
  pub variable : List ℕ
  pub shift : ℤ
  pub text : List ℕ

-- the digits of a whole number, with "-" before it if it is negative
abbrev pub whole_digits : ℤ → List ℕ
whole_digits (pos n) = decimal_digits n
whole_digits (negsuc n) = 45 ∷ decimal_digits (suc n)

-- the fields of a record
abbrev pub fields : Derivation → List (List ℕ)
fields d = decimal_digits d.equation ∷ d.variable ∷ whole_digits d.shift ∷ d.text ∷ []

-- the names of the fields
abbrev pub header : List (List ℕ)
header = codes "equation" ∷ codes "variable" ∷ codes "shift" ∷ codes "derivative" ∷ []

-- the header and these records
abbrev pub rows : List Derivation → List (List (List ℕ))
rows ds = header ∷ map fields ds

-- their text: a line each, fields between commas, quoted where they need it (RFC 4180)
abbrev pub records_text : List Derivation → List ℕ
records_text ds = flat_map (row_text default_writer) (rows ds)
