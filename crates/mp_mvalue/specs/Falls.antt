-- An array weighs more than each of its elements.
use Rattle.std.specs.Prelude.{◌≡◌, ℕ, ◌+◌, ◌*◌, ◌≤◌, List, [], ◌∷◌, map}
use Rattle.std.proofs.Common.{max, refl, sym, ap, subst, rules, arith}
use denote.Param.Weighed.{most}
use Rattle.mp_mvalue.specs.declared.value.Value.{Value, Row_of-Value, items-the_row-Value, end_of-Value, more_of-Value}
use Rattle.mp_mvalue.specs.declared.value.Value.TheVariants as v
use Rattle.mp_mvalue.specs.declared.value.Value.TheViews.{the_lemmas}
use Rattle.std.specs.declared.rc.Rc.{Rc}
use Rattle.std.proofs.Common.{Global}
use Rattle.mp_mvalue.specs.declared.sharing.Array.{Array}
use Rattle.mp_mvalue.specs.declared.sharing.SharedValue.{SharedValue}
use Rattle.mp_mvalue.specs.declared.sharing.SharedValue.TheVariants as h
use Rattle.mp_mvalue.specs.declared.sharing.Array.TheInside.{Inside}
use Rattle.mp_mvalue.specs.declared.sharing.Array.TheDeep.{deep-SharedValue, deep-Array, size-SharedValue}
use Rattle.mp_mvalue.specs.Shared.{unshared}
use Rattle.mp_mvalue.specs.Measures.{all_weight, weight, row_weight}

row-weight : (n : _) (row : Row_of-Value n) → row_weight row ≡ all_weight (items-the_row-Value n row)
row-weight _ end_of-Value = refl
row-weight _ (more_of-Value x rest) = ap (λ n. weight x + n) (row-weight _ rest)

pub list-weight : (xs : List Value) → weight (v.List xs) ≡ 1 + all_weight xs
list-weight xs = search (rules, the_lemmas, row-weight)

one : (x : SharedValue) → deep-SharedValue x ≤ weight (unshared x)
one (h.Whole n) = omega arith
one (h.Truth b) = omega arith
one (h.Text t) = omega arith
one (h.List a) = omega (arith, list-weight a.value)

all : (xs : List SharedValue) → most deep-SharedValue xs ≤ all_weight (map unshared xs)
all [] = omega arith
all (x ∷ xs) = grind (arith, one x, all xs)

pub falls : (a : Inside) → deep-Array a ≤ all_weight (map unshared a.elements)
falls a = grind (arith, all a.elements)

max-zero : (n : ℕ) → max n 0 ≡ n
max-zero n = grind arith

pub size-list : (a : Rc Array Global) → size-SharedValue (h.List a) ≡ 2 * (all_weight a.value + 1) + 1
size-list a = ap (λ n. 2 * n + 1) (max-zero (all_weight a.value + 1))

size_one : (x : SharedValue) → size-SharedValue x ≤ 2 * weight (unshared x) + 1
size_one (h.Whole n) = omega arith
size_one (h.Truth b) = omega arith
size_one (h.Text t) = omega arith
size_one (h.List a) =
    let w : 2 * (all_weight a.value + 1) + 1 ≤ 2 * weight (v.List a.value) + 1 = omega (arith, list-weight a.value) in
    subst (λ n. n ≤ 2 * weight (v.List a.value) + 1) (sym (size-list a)) w

pub size_all : (xs : List SharedValue) → most size-SharedValue xs ≤ 2 * all_weight (map unshared xs) + 1
size_all [] = omega arith
size_all (x ∷ xs) = grind (arith, size_one x, size_all xs)
