-- No expression of a graph begins with more negations than there are nodes up to it, nor does its derivative.
use Rattle.std.proofs.Common.{ℕ, suc, zero, ◌+◌, ◌<◌, ◌≤◌, ℤ, pos, negsuc, ◌-ℤ◌, max, Bool, true, false, cond, List, length, refl, subst, inl, inr, arith, ◌&&◌}
use Rattle.std.specs.Ordering.{int_eq}
use Rattle.mp_expr.specs.Size.{height_of}
use Rattle.mp_semantics.specs.Term.{Variable, Leaf, number, parameter, variable, steady_state, Binary, plus, minus, times, quotient, least, greatest, Term, leaf, negative, binary, power_of, pick}
use Rattle.mp_graph.specs.Part.{IsPart, HasParts}
use Rattle.mp_graph.specs.Shared.{term_at}
use Rattle.mp_slopes.specs.Derivative.{whole_term, is_number, is_whole, simple_negative, simple_plus, simple_minus, simple_times, simple_quotient, simple_power, simple_pick, signed_term, leaf_derivative, binary_derivative, power_derivative, derivative_of}
use Rattle.mp_slopes.specs.Dual.{is_at}
use Rattle.mp_diff.specs.Size.{size_of}

abbrev negations : Term → ℕ
negations t = (size_of t).negations

-- ---- heights

pub negations_height : (t : Term) → negations t < height_of t
negations_height (leaf l) = omega arith
negations_height (negative a) = let e = negations_height a in omega (arith, e)
negations_height (binary op a b) = omega arith
negations_height (power_of a k) = omega arith
negations_height (pick a b c d) = omega arith

taller : (i : ℕ) (u : Term) → ((t : Term) → IsPart t u → height_of t ≤ i) → height_of u ≤ i + 1
taller i (leaf l) h = omega arith
taller i (negative a) h = let e = h a refl in omega (arith, e)
taller i (binary op a b) h = let e = h a (inl refl) in let f = h b (inr refl) in omega (arith, e, f)
taller i (power_of a k) h = let e = h a refl in omega (arith, e)
taller i (pick a b c d) h =
    let e = h a (inl (inl refl)) in
    let f = h b (inl (inr refl)) in
    let g = h c (inr (inl refl)) in
    let j = h d (inr (inr refl)) in
    omega (arith, e, f, g, j)

module _ (ts : List Term) (parts : HasParts ts) where
  height_up_to : (n i : ℕ) → i < n → i < length ts → height_of (term_at ts i) ≤ i + 1
  height_up_to zero i l m = absurd (omega arith)
  height_up_to (suc n) i l m =
      taller i (term_at ts i) (λ t p.
      let q = parts i t m p in
      let e = height_up_to n q.0 (omega (arith, q.1)) (omega (arith, q.1)) in
      subst (λ (u : Term). height_of u ≤ i) q.2 (omega (arith, e, q.1)))

  pub height_at : (i : ℕ) → i < length ts → height_of (term_at ts i) ≤ i + 1
  height_at i l = height_up_to (suc i) i (omega arith) l

-- ---- the operators

if_most : (p : Bool) (t u : Term) (n : ℕ) → negations t ≤ n → negations u ≤ n → negations (cond p t u) ≤ n
if_most true t u n h k = h
if_most false t u n h k = k

negative_most : (t : Term) (n : ℕ) → negations t ≤ n → negations (simple_negative t) ≤ n + 1
negative_most (leaf l) n h = if_most (is_number 0 l) (whole_term 0) (negative (leaf l)) (n + 1) (omega arith) (omega arith)
negative_most (negative a) n h = omega (arith, h)
negative_most (binary op a b) n h = omega arith
negative_most (power_of a k) n h = omega arith
negative_most (pick a b c d) n h = omega arith

plus_most : (t u : Term) (n : ℕ) → negations t ≤ n → negations u ≤ n → negations (simple_plus t u) ≤ n
plus_most t u n h k = if_most (is_whole 0 t) u _ n k (if_most (is_whole 0 u) t (binary plus t u) n h (omega arith))

minus_most : (t u : Term) (n : ℕ) → negations t ≤ n + 1 → negations u ≤ n → negations (simple_minus t u) ≤ n + 1
minus_most t u n h k =
    if_most (is_whole 0 u) t _ (n + 1) h (if_most (is_whole 0 t) (simple_negative u) (binary minus t u) (n + 1) (negative_most u n k) (omega arith))

times_most : (t u : Term) (n : ℕ) → negations t ≤ n → negations u ≤ n → negations (simple_times t u) ≤ n
times_most t u n h k =
    if_most (is_whole 0 t) (whole_term 0) _ n (omega arith)
    (if_most (is_whole 0 u) (whole_term 0) _ n (omega arith) (if_most (is_whole 1 t) u _ n k (if_most (is_whole 1 u) t (binary times t u) n h (omega arith))))

quotient_most : (t u : Term) → negations (simple_quotient t u) ≤ 0
quotient_most t u = if_most (is_whole 0 t) (whole_term 0) (binary quotient t u) 0 (omega arith) (omega arith)

power_most : (t : Term) (k : ℤ) (n : ℕ) → negations t ≤ n → negations (simple_power t k) ≤ n
power_most t (pos zero) n h = omega arith
power_most t (pos (suc zero)) n h = h
power_most t (pos (suc (suc m))) n h = omega arith
power_most t (negsuc m) n h = omega arith

pick_most : (t u v w : Term) (n : ℕ) → negations (simple_pick t u v w) ≤ n
pick_most t u v w n = if_most (is_whole 0 v && is_whole 0 w) (whole_term 0) (pick t u v w) n (omega arith) (omega arith)

signed_most : (k : ℤ) → negations (signed_term k) ≤ 1
signed_most (pos n) = omega arith
signed_most (negsuc n) = omega arith

-- ---- the table

binary_most : (op : Binary) (t u dt du : Term) (n : ℕ) → negations t ≤ n → negations u ≤ n → negations dt ≤ n → negations du ≤ n → negations (binary_derivative op t u dt du) ≤ n + 1
binary_most plus t u dt du n h k dh dk = let e = plus_most dt du n dh dk in omega (arith, e)
binary_most minus t u dt du n h k dh dk = minus_most dt du n (omega (arith, dh)) dk
binary_most times t u dt du n h k dh dk =
    let e = plus_most (simple_times dt u) (simple_times t du) n (times_most dt u n dh k) (times_most t du n h dk) in omega (arith, e)
binary_most quotient t u dt du n h k dh dk =
    let e = quotient_most dt u in
    let f = quotient_most (simple_times t du) (simple_power u (pos 2)) in
    minus_most (simple_quotient dt u) (simple_quotient (simple_times t du) (simple_power u (pos 2))) n (omega (arith, e)) (omega (arith, f))
binary_most least t u dt du n h k dh dk = pick_most t u dt du (n + 1)
binary_most greatest t u dt du n h k dh dk = pick_most u t dt du (n + 1)

raised_most : (t : Term) (k : ℤ) (dt : Term) (n : ℕ) → negations t ≤ n → negations dt ≤ n → negations (power_derivative t k dt) ≤ n + 1
raised_most t k dt n h d =
    let s = signed_most k in
    let p = power_most t (k -ℤ pos 1) n h in
    if_most (int_eq k (pos 0)) (whole_term 0) _ (n + 1) (omega arith)
    (times_most (simple_times (signed_term k) (simple_power t (k -ℤ pos 1))) dt (n + 1) (times_most (signed_term k) (simple_power t (k -ℤ pos 1)) (n + 1) (omega (arith, s)) (omega (arith, p))) (omega (arith, d)))

leaf_most : (l : Leaf) (v : Variable) (k : ℤ) → negations (leaf_derivative l v k) ≤ 1
leaf_most (number m s) v k = omega arith
leaf_most (parameter p) v k = omega arith
leaf_most (variable y j) v k = if_most (is_at v k y j) (whole_term 1) (whole_term 0) 1 (omega arith) (omega arith)
leaf_most (steady_state y) v k = omega arith

pub derivative_height : (t : Term) (v : Variable) (k : ℤ) → negations (derivative_of t v k) ≤ height_of t
derivative_height (leaf l) v k = leaf_most l v k
derivative_height (negative a) v k = negative_most (derivative_of a v k) (height_of a) (derivative_height a v k)
derivative_height (binary op a b) v k =
    let n = max (height_of a) (height_of b) in
    let p = negations_height a in
    let q = negations_height b in
    let d = derivative_height a v k in
    let e = derivative_height b v k in
    binary_most op a b (derivative_of a v k) (derivative_of b v k) n (omega (arith, p)) (omega (arith, q)) (omega (arith, d)) (omega (arith, e))
derivative_height (power_of a n) v k =
    let p = negations_height a in
    raised_most a n (derivative_of a v k) (height_of a) (omega (arith, p)) (derivative_height a v k)
derivative_height (pick a b c d) v k = omega arith
