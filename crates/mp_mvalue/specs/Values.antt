-- What is asked of values: whether two are the same, how deep arrays stand in one another, how one prints.
use Rattle.std.specs.Prelude.{ℕ, ◌+◌, max, ℤ, pos, negsuc, List, [], ◌∷◌, ◌++◌, codes, Bool, true, false, ◌&&◌, nat_eq, bytes_eq}
use Rattle.std.specs.Fmt.{signed_decimal}
use Rattle.mp_mvalue.specs.declared.value.Value.{Value, Whole, Truth, Text, List', Row_of-Value, end_of-Value, more_of-Value}

-- the elements of an array
abbrev pub row_items : {n : _} → Row_of-Value n → List Value
row_items end_of-Value = []
row_items (more_of-Value x r) = x ∷ row_items r

-- both are the same truth value
abbrev pub same_truth : Bool → Bool → Bool
same_truth true b = b
same_truth false true = false
same_truth false false = true

-- both are the same number
abbrev pub same_whole : ℤ → ℤ → Bool
same_whole (pos m) (pos n) = nat_eq m n
same_whole (negsuc m) (negsuc n) = nat_eq m n
same_whole _ _ = false

abbrev mutual
  -- of the same kind with the same content; arrays element by element
  pub same : Value → Value → Bool
  same (Whole m) (Whole n) = same_whole m n
  same (Truth a) (Truth b) = same_truth a b
  same (Text s) (Text t) = bytes_eq s t
  same (List' m r) (List' n s) = same_rows r s
  same _ _ = false

  -- the same elements at the same places
  pub same_rows : {m n : _} → Row_of-Value m → Row_of-Value n → Bool
  same_rows end_of-Value end_of-Value = true
  same_rows (more_of-Value x r) (more_of-Value y s) = same x y && same_rows r s
  same_rows _ _ = false

-- as long as one another, and the same at each place
abbrev pub same_all : List Value → List Value → Bool
same_all [] [] = true
same_all (x ∷ xs) (y ∷ ys) = same x y && same_all xs ys
same_all _ _ = false

abbrev mutual
  -- how many arrays stand inside one another, the outermost included
  pub depth : Value → ℕ
  depth (Whole n) = 0
  depth (Truth b) = 0
  depth (Text t) = 0
  depth (List' n r) = 1 + row_deepest r

  pub row_deepest : {n : _} → Row_of-Value n → ℕ
  row_deepest end_of-Value = 0
  row_deepest (more_of-Value x r) = max (depth x) (row_deepest r)

-- the depth of the deepest
abbrev pub deepest : List Value → ℕ
deepest [] = 0
deepest (x ∷ xs) = max (depth x) (deepest xs)

-- each after a comma and a blank
abbrev pub listed_after : List (List ℕ) → List ℕ
listed_after [] = []
listed_after (x ∷ xs) = codes ", " ++ x ++ listed_after xs

-- a comma and a blank between one and the next
abbrev pub listed : List (List ℕ) → List ℕ
listed [] = []
listed (x ∷ xs) = x ++ listed_after xs

-- a truth value as a word
abbrev pub truth_word : Bool → List ℕ
truth_word true = codes "true"
truth_word false = codes "false"

abbrev mutual
  -- as an element of an array: a text stands in quotes
  pub shown : Value → List ℕ
  shown (Whole n) = signed_decimal n
  shown (Truth b) = truth_word b
  shown (Text t) = codes "\"" ++ t ++ codes "\""
  shown (List' n r) = codes "[" ++ listed (row_shown r) ++ codes "]"

  -- each element as printed
  pub row_shown : {n : _} → Row_of-Value n → List (List ℕ)
  row_shown end_of-Value = []
  row_shown (more_of-Value x r) = shown x ∷ row_shown r

-- alone: a text is its bytes
abbrev pub printed : Value → List ℕ
printed (Text t) = t
printed (Whole n) = signed_decimal n
printed (Truth b) = truth_word b
printed (List' n r) = shown (List' n r)
