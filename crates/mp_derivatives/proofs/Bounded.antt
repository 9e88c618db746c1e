-- The derivatives of an expression by different places have together at most as many operations as its bound.
use Rattle.std.proofs.Common.{◌≡◌, ℕ, ◌+◌, ◌*◌, ◌≤◌, ℤ, pos, ◌-ℤ◌, Bool, true, false, cond, ◌&&◌, List, [], ◌∷◌, map, refl, sym, ap, ◌∙◌, subst, arith}
use Rattle.std.proofs.Math.Nat.{mul-le-mul_right}
use Rattle.std.proofs.lemmas.Bool.{eqb-true}
use Rattle.std.proofs.lemmas.Bool.Decides.{Decides-int_eq}
use Rattle.std.specs.List.{AllByRecursion}
use Rattle.std.specs.List.Sorted.{IsStrictlySortedBy}
use Rattle.std.specs.Ordering.{int_eq}
use Rattle.std.specs.declared.cmp.Ordering.TheVariants.{Less}
use Rattle.mp_expr.specs.Size.{count_of}
use Rattle.mp_semantics.specs.Term.{Variable, endogenous, exogenous, Leaf, number, parameter, variable, steady_state, Binary, plus, minus, times, quotient, least, greatest, Term, leaf, negative, binary, power_of, pick}
use Rattle.mp_slopes.specs.Derivative.{whole_term, simple_negative, simple_plus, simple_minus, simple_times, simple_quotient, simple_power, signed_term, leaf_derivative, binary_derivative, power_derivative, derivative_of}
use Rattle.mp_slopes.specs.Dual.{is_variable, is_at}
use Rattle.mp_slopes.specs.Places.{Place, place_cmp}
use Rattle.mp_slopes.proofs.Places.{place_total}
use Rattle.mp_derivatives.specs.Bound.{leaf_variables, variables_of, binary_bound, bound_of}
use Rattle.mp_derivatives.specs.Derivatives.{operations}
use Rattle.mp_derivatives.proofs.BoundSteps.{times_zero, binary_most, negation_most, power_derivative_most, bound_more, bound_rises}

-- ---- how often a place stands in an expression

abbrev leaf_at : Leaf → Place → ℕ
leaf_at (number m s) p = 0
leaf_at (parameter q) p = 0
leaf_at (variable y j) p = cond (is_at p.x p.shift y j) 1 0
leaf_at (steady_state y) p = 0

abbrev often : Term → Place → ℕ
often (leaf l) p = leaf_at l p
often (negative a) p = often a p
often (binary op a b) p = often a p + often b p
often (power_of a n) p = often a p
often (pick a b c d) p = often a p + often b p + (often c p + often d p)

abbrev by_place : Term → Place → Term
by_place t p = derivative_of t p.x p.shift

-- where it does not, the derivative is 0
leaf_still : (l : Leaf) (p : Place) → leaf_at l p ≡ 0 → leaf_derivative l p.x p.shift ≡ whole_term 0
leaf_still (number m s) p h = refl
leaf_still (parameter q) p h = refl
leaf_still (variable y j) p h = by (is_at p.x p.shift y j) h
  where
    by : (b : Bool) → (let n : ℕ = cond b 1 0 in n ≡ 0) → cond b (whole_term 1) (whole_term 0) ≡ whole_term 0
    by true h = absurd (omega (arith, h))
    by false h = refl
leaf_still (steady_state y) p h = refl

binary_still : (op : Binary) (a b da db : Term) → da ≡ whole_term 0 → db ≡ whole_term 0 → binary_derivative op a b da db ≡ whole_term 0
binary_still op a b da db y z = ap (λ (x : Term). binary_derivative op a b x db) y ∙ ap (binary_derivative op a b (whole_term 0)) z ∙ by op
  where
    by : (o : Binary) → binary_derivative o a b (whole_term 0) (whole_term 0) ≡ whole_term 0
    by plus = refl
    by minus = refl
    by times = ap (simple_plus (whole_term 0)) (times_zero a)
    by quotient = ap (λ (x : Term). simple_minus (whole_term 0) (simple_quotient x (simple_power b (pos 2)))) (times_zero a)
    by least = refl
    by greatest = refl

power_still : (a : Term) (n : ℤ) (da : Term) → da ≡ whole_term 0 → power_derivative a n da ≡ whole_term 0
power_still a n da y = ap (power_derivative a n) y ∙ by (int_eq n (pos 0))
  where
    factor : Term
    factor = simple_times (signed_term n) (simple_power a (n -ℤ pos 1))

    by : (b : Bool) → cond b (whole_term 0) (simple_times factor (whole_term 0)) ≡ whole_term 0
    by true = refl
    by false = times_zero factor

still : (t : Term) (p : Place) → often t p ≡ 0 → by_place t p ≡ whole_term 0
still (leaf l) p h = leaf_still l p h
still (negative a) p h = ap simple_negative (still a p h)
still (binary op a b) p h = binary_still op a b (by_place a p) (by_place b p) (still a p (omega (arith, h))) (still b p (omega (arith, h)))
still (power_of a n) p h = power_still a n (by_place a p) (still a p h)
still (pick a b c d) p h = refl

-- ---- sums over places

abbrev total : (Place → ℕ) → List Place → ℕ
total f [] = 0
total f (p ∷ ps) = f p + total f ps

abbrev count_at : Term → Place → ℕ
count_at t p = count_of (by_place t p)

operations_total : (i : ℕ) (t : Term) (ps : List Place) → operations (map (λ (p : Place). record { equation = i; place = p; term = derivative_of t p.x p.shift }) ps) ≡ total (count_at t) ps
operations_total i t [] = refl
operations_total i t (p ∷ ps) = ap (λ n. count_at t p + n) (operations_total i t ps)

module _ (op : Binary) (a b : Term) where
  both_often : (ps : List Place) → total (often (binary op a b)) ps ≡ total (often a) ps + total (often b) ps
  both_often [] = refl
  both_often (p ∷ ps) = omega (arith, both_often ps)

  both_count : (ps : List Place) → total (count_at (binary op a b)) ps ≤ total (count_at a) ps + total (count_at b) ps + binary_bound op (total (often a) ps) (total (often b) ps) (count_of a) (count_of b)
  both_count [] = omega arith
  both_count (p ∷ ps) =
      omega (
        arith,
        binary_most op a b (by_place a p) (by_place b p) (often a p) (often b p) (still a p) (still b p),
        both_count ps,
        bound_more op (often a p) (often b p) (total (often a) ps) (total (often b) ps) (count_of a) (count_of b),
      )

negation_count : (a : Term) (ps : List Place) → total (count_at (negative a)) ps ≤ total (count_at a) ps + total (often a) ps
negation_count a [] = omega arith
negation_count a (p ∷ ps) = omega (arith, negation_most (by_place a p) (often a p) (still a p), negation_count a ps)

power_count : (a : Term) (n : ℤ) (ps : List Place) → total (count_at (power_of a n)) ps ≤ total (count_at a) ps + total (often a) ps * (count_of a + 4)
power_count a n [] = omega arith
power_count a n (p ∷ ps) = omega (arith, power_derivative_most a n (by_place a p) (often a p) (still a p), power_count a n ps)

four_often : (a b c d : Term) (ps : List Place) → total (often (pick a b c d)) ps ≡ total (often a) ps + total (often b) ps + (total (often c) ps + total (often d) ps)
four_often a b c d [] = refl
four_often a b c d (p ∷ ps) = omega (arith, four_often a b c d ps)

pick_count : (a b c d : Term) (ps : List Place) → total (count_at (pick a b c d)) ps ≤ 0
pick_count a b c d [] = omega arith
pick_count a b c d (p ∷ ps) = omega (arith, pick_count a b c d ps)

leaf_none : (l : Leaf) (p : Place) → count_of (leaf_derivative l p.x p.shift) ≤ 0
leaf_none (number m s) p = omega arith
leaf_none (parameter q) p = omega arith
leaf_none (variable y j) p = by (is_at p.x p.shift y j)
  where
    by : (b : Bool) → count_of (cond b (whole_term 1) (whole_term 0)) ≤ 0
    by true = omega arith
    by false = omega arith
leaf_none (steady_state y) p = omega arith

leaf_count : (l : Leaf) (ps : List Place) → total (count_at (leaf l)) ps ≤ 0
leaf_count l [] = omega arith
leaf_count l (p ∷ ps) = omega (arith, leaf_none l p, leaf_count l ps)

-- ---- a place stands in a list of different places once

same_variable : (x y : Variable) → is_variable x y ≡ true → x ≡ y
same_variable (endogenous m) (endogenous n) h = ap endogenous (eqb-true m n h)
same_variable (endogenous m) (exogenous n) h = cc
same_variable (exogenous m) (endogenous n) h = cc
same_variable (exogenous m) (exogenous n) h = ap exogenous (eqb-true m n h)

same_place : (p : Place) (y : Variable) (j : ℤ) → is_at p.x p.shift y j ≡ true → p ≡ record { x = y; shift = j }
same_place p y j h = by (is_variable p.x y) refl h
  where
    by : (b : Bool) → is_variable p.x y ≡ b → (b && int_eq p.shift j) ≡ true → p ≡ record { x = y; shift = j }
    by true e h =
        let u = same_variable p.x y e in
        let w = (Decides-int_eq p.shift j).0 h in
        λ i. record { x = u i; shift = w i }
    by false e h = cc

not_below : (p : Place) → place_cmp p p ≡ Less → ⊥
not_below p h = absurd cc (place_total.antisymm p p)

later_none : (y : Variable) (j : ℤ) (p : Place) → p ≡ record { x = y; shift = j } → (ps : List Place) → AllByRecursion (λ q. place_cmp p q ≡ Less) ps → total (leaf_at (variable y j)) ps ≡ 0
later_none y j p is [] h = refl
later_none y j p is (q ∷ qs) h = by (later_none y j p is qs h.1) (is_at q.x q.shift y j) refl
  where
    by : total (leaf_at (variable y j)) qs ≡ 0 → (b : Bool) → is_at q.x q.shift y j ≡ b → cond b 1 0 + total (leaf_at (variable y j)) qs ≡ 0
    by more true e = absurd (not_below p (subst (λ (r : Place). place_cmp p r ≡ Less) (same_place q y j e ∙ sym is) h.0))
    by more false e = omega (arith, more)

variable_once : (y : Variable) (j : ℤ) (ps : List Place) → IsStrictlySortedBy place_cmp ps → total (leaf_at (variable y j)) ps ≤ 1
unfolding IsStrictlySortedBy
variable_once y j [] h = omega arith
variable_once y j (p ∷ ps) h = by (variable_once y j ps h.1) (is_at p.x p.shift y j) refl
  where
    by : total (leaf_at (variable y j)) ps ≤ 1 → (b : Bool) → is_at p.x p.shift y j ≡ b → cond b 1 0 + total (leaf_at (variable y j)) ps ≤ 1
    by more true e = omega (arith, later_none y j p (same_place p y j e) ps h.0)
    by more false e = omega (arith, more)

none_total : (ps : List Place) → total (λ p. 0) ps ≤ 0
none_total [] = omega arith
none_total (p ∷ ps) = omega (arith, none_total ps)

leaf_often : (l : Leaf) (ps : List Place) → IsStrictlySortedBy place_cmp ps → total (leaf_at l) ps ≤ leaf_variables l
leaf_often (number m s) ps h = none_total ps
leaf_often (parameter q) ps h = none_total ps
leaf_often (variable y j) ps h = variable_once y j ps h
leaf_often (steady_state y) ps h = none_total ps

-- ---- so the bound holds

module _ (ps : List Place) (rising : IsStrictlySortedBy place_cmp ps) where
  few_often : (t : Term) → total (often t) ps ≤ variables_of t
  few_often (leaf l) = leaf_often l ps rising
  few_often (negative a) = few_often a
  few_often (binary op a b) = omega (arith, both_often op a b ps, few_often a, few_often b)
  few_often (power_of a n) = few_often a
  few_often (pick a b c d) = omega (arith, four_often a b c d ps, few_often a, few_often b, few_often c, few_often d)

  few_counts : (t : Term) → total (count_at t) ps ≤ bound_of t
  few_counts (leaf l) = leaf_count l ps
  few_counts (negative a) = omega (arith, negation_count a ps, few_counts a, few_often a)
  few_counts (binary op a b) =
      omega (
        arith,
        both_count op a b ps,
        few_counts a,
        few_counts b,
        bound_rises op (total (often a) ps) (total (often b) ps) (variables_of a) (variables_of b) (count_of a) (count_of b) (few_often a) (few_often b),
      )
  few_counts (power_of a n) = omega (arith, power_count a n ps, few_counts a, mul-le-mul_right (count_of a + 4) (few_often a))
  few_counts (pick a b c d) = pick_count a b c d ps

pub bounded : (i : ℕ) (t : Term) (ps : List Place) → IsStrictlySortedBy place_cmp ps
    → operations (map (λ (p : Place). record { equation = i; place = p; term = derivative_of t p.x p.shift }) ps) ≤ bound_of t
bounded i t ps rising = omega (arith, operations_total i t ps, few_counts ps rising t)
