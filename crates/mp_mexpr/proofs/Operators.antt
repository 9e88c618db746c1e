-- Answers of the operators.
use Rattle.std.proofs.Common.{◌≡◌, ℕ, zero, suc, ℤ, pos, negsuc, List, [], ◌∷◌, ◌++◌, slice_get, option_map, Ok, refl, rules}
use Rattle.mp_mexpr.specs.declared.operator.Operator.{Operator}
use Rattle.mp_mexpr.specs.declared.operator.Operator.TheVariants.{Or, And, Equal, Different, Less, Greater, AtMost, AtLeast, In, Range, Add, Subtract, Multiply}
use Rattle.mp_mvalue.specs.declared.value.Value.{Value}
use Rattle.mp_mexpr.specs.Meaning.{numbers_value, strict_value, elements_of, sum_value, at_place}
use Rattle.mp_mvalue.specs.declared.value.Value.TheVariants as v
use Rattle.mp_mvalue.specs.declared.value.Value.TheViews.{the_lemmas}
use Rattle.mp_mvalue.specs.declared.sharing.SharedValue.{SharedValue}
use Rattle.mp_mvalue.specs.Made.{made}
use Rattle.mp_mvalue.specs.Shared.{unshared, all_unshared}
use Rattle.mp_mvalue.proofs.Rows.{rows-items, any-unshared}

pub strict_value-numbers : (o : Operator) (x y : Value) → (o ≡ Equal → ⊥) → (o ≡ Different → ⊥) → (o ≡ In → ⊥) → (o ≡ Add → ⊥) → strict_value o x y ≡ numbers_value o x y
strict_value-numbers Equal x y a b c d = absurd (a refl)
strict_value-numbers Different x y a b c d = absurd (b refl)
strict_value-numbers In x y a b c d = absurd (c refl)
strict_value-numbers Add x y a b c d = absurd (d refl)
strict_value-numbers Or x y a b c d = refl
strict_value-numbers And x y a b c d = refl
strict_value-numbers Less x y a b c d = refl
strict_value-numbers Greater x y a b c d = refl
strict_value-numbers AtMost x y a b c d = refl
strict_value-numbers AtLeast x y a b c d = refl
strict_value-numbers Range x y a b c d = refl
strict_value-numbers Subtract x y a b c d = refl
strict_value-numbers Multiply x y a b c d = refl

-- the elements of an array
pub elements-list : (xs : List Value) → elements_of (v.List xs) ≡ Ok xs
elements-list xs = search (rules, the_lemmas, rows-items)

pub sum-lists : (xs ys : List Value) → sum_value (v.List xs) (v.List ys) ≡ made (xs ++ ys)
sum-lists xs ys = search (rules, the_lemmas, rows-items)

pub get-unshared : (xs : List SharedValue) (k : ℕ) → slice_get (all_unshared xs) k ≡ option_map unshared (slice_get xs k)
get-unshared [] k = refl
get-unshared (x ∷ xs) zero = refl
get-unshared (x ∷ xs) (suc k) = get-unshared xs k

pub ruleset arrays = (elements-list, sum-lists, any-unshared)

pub place-unshared : (xs : List SharedValue) (place : ℤ) → at_place (all_unshared xs) place ≡ option_map unshared (at_place xs place)
place-unshared xs (pos zero) = refl
place-unshared xs (pos (suc k)) = get-unshared xs k
place-unshared xs (negsuc k) = refl

pub ruleset elements = (place-unshared)
