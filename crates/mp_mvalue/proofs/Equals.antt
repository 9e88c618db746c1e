-- Two values are the same exactly where they are equal.
use Rattle.std.proofs.Common.{◌≡◌, ℕ, ◌∷◌, [], List, Bool, true, false, ◌&&◌, nat_eq, ℤ, pos, negsuc, refl, sym, ap, ◌∙◌, arith}
use Rattle.std.specs.Cmp.Lexicographic.{bytes_decides}
use Rattle.std.proofs.lemmas.Bool.{and_parts}
use Rattle.std.proofs.lemmas.Bool.Decides.{nat_tests}
use Rattle.mp_mvalue.specs.declared.value.Value.{Value, Whole, Truth, Text, List', Row_of-Value, end_of-Value, more_of-Value}
use Rattle.mp_mvalue.specs.declared.value.Value.TheVariants as v
use Rattle.mp_mvalue.specs.declared.value.Value.TheViews.{the_lemmas, out-Value, roll-Value, roll-out-Value, rolls-List, rolls-Whole, rolls-Truth, rolls-Text}
use Rattle.mp_mvalue.specs.declared.value.Value.TheOpen as opened
use Rattle.mp_mvalue.specs.Values.{same, same_rows, same_whole, same_truth, row_items}
use Rattle.mp_mvalue.proofs.Rows.{rows-items}

number_equal : (m n : ℕ) → nat_eq m n ≡ true → m ≡ n
number_equal m n e = grind (arith, nat_tests)

whole_equal : (m n : ℤ) → same_whole m n ≡ true → m ≡ n
whole_equal (pos m) (pos n) e = ap pos (number_equal m n e)
whole_equal (negsuc m) (negsuc n) e = ap negsuc (number_equal m n e)
whole_equal (pos m) (negsuc n) e = cc
whole_equal (negsuc m) (pos n) e = cc

truth_equal : (a b : Bool) → same_truth a b ≡ true → a ≡ b
truth_equal true true e = refl
truth_equal true false e = cc
truth_equal false true e = cc
truth_equal false false e = refl

-- the elements of an array
abbrev elements : Value → List Value
elements (List' n r) = row_items r
elements _ = []

elements-list : (xs : List Value) → elements (v.List xs) ≡ xs
elements-list xs = search (the_lemmas, rows-items)

-- an array is that of its elements
array_is : (n : _) (r : _) → List' n r ≡ v.List (row_items r)
array_is n r = by_kind (out-Value (List' n r)) (roll-out-Value (List' n r))
  where
    by_kind : (kind : _) → roll-Value kind ≡ List' n r → List' n r ≡ v.List (row_items r)
    by_kind (opened.List xs) e =
        let array : v.List xs ≡ List' n r = sym (rolls-List xs) ∙ e in
        sym array ∙ ap v.List (sym (elements-list xs) ∙ ap elements array)
    by_kind (opened.Whole m) e = let other : v.Whole m ≡ List' n r = sym (rolls-Whole m) ∙ e in cc
    by_kind (opened.Truth t) e = let other : v.Truth t ≡ List' n r = sym (rolls-Truth t) ∙ e in cc
    by_kind (opened.Text t) e = let other : v.Text t ≡ List' n r = sym (rolls-Text t) ∙ e in cc

mutual
  pub same_equal : (a b : Value) → same a b ≡ true → a ≡ b
  same_equal (Whole m) (Whole n) e = ap Whole (whole_equal m n e)
  same_equal (Truth a) (Truth b) e = ap Truth (truth_equal a b e)
  same_equal (Text s) (Text t) e = ap Text ((bytes_decides s t).0 e)
  same_equal (List' m r) (List' n s) e = array_is m r ∙ ap v.List (rows_equal r s e) ∙ sym (array_is n s)
  same_equal _ _ e = cc

  rows_equal : {m n : _} (r : Row_of-Value m) (s : Row_of-Value n) → same_rows r s ≡ true → row_items r ≡ row_items s
  rows_equal end_of-Value end_of-Value e = refl
  rows_equal (more_of-Value x r) (more_of-Value y s) e =
      let parts = and_parts (same x y) (same_rows r s) e in
      ap (λ v. v ∷ row_items r) (same_equal x y parts.0) ∙ ap (λ l. y ∷ l) (rows_equal r s parts.1)
  rows_equal _ _ e = cc

number_same : (n : ℕ) → nat_eq n n ≡ true
number_same n = grind (arith, nat_tests)

mutual
  pub same_itself : (a : Value) → same a a ≡ true
  same_itself (Whole (pos n)) = number_same n
  same_itself (Whole (negsuc n)) = number_same n
  same_itself (Truth true) = refl
  same_itself (Truth false) = refl
  same_itself (Text t) = (bytes_decides t t).1 refl
  same_itself (List' n r) = rows_itself r

  rows_itself : {n : _} (r : Row_of-Value n) → same_rows r r ≡ true
  rows_itself end_of-Value = refl
  rows_itself (more_of-Value x r) = ap (λ b. b && same_rows r r) (same_itself x) ∙ rows_itself r
