-- The derivative of a term that a text can write is one.
use Rattle.std.proofs.Common.{zero, suc, ℤ, pos, negsuc, ◌-ℤ◌, Bool, true, false, cond, ◌&&◌}
use Rattle.std.specs.Ordering.{int_eq}
use Rattle.mp_semantics.specs.Term.{Variable, Leaf, number, parameter, variable, steady_state, Binary, plus, minus, times, quotient, least, greatest, Term, leaf, negative, binary, power_of, pick}
use Rattle.mp_slopes.specs.Derivative.{whole_term, is_whole, negated, negative_or, simple_negative, simple_plus, simple_minus, simple_times, simple_quotient, simple_power, simple_pick, signed_term, leaf_derivative, binary_derivative, power_derivative, derivative_of}
use Rattle.mp_slopes.specs.Dual.{is_at}
use Rattle.mp_values.specs.Names.{Names}
use Rattle.mp_canonical.proofs.Writable.{IsWritable}

module _ (ns : Names) where
  -- a text can write it, with choices
  abbrev Can : Term → Type 0
  Can t = IsWritable (Unit {0}) ns t

  either : (b : Bool) (x y : Term) → Can x → Can y → Can (cond b x y)
  either true x y h k = h
  either false x y h k = k

  -- either 0 or this
  or_zero : (b : Bool) (y : Term) → Can y → Can (cond b (whole_term 0) y)
  or_zero b y k = either b (whole_term 0) y tt k

  negated-can : (a : Term) → Can a → Can (negative_or a (negated a))
  negated-can (leaf l) h = h
  negated-can (negative a) h = h
  negated-can (binary op a b) h = h
  negated-can (power_of a k) h = h
  negated-can (pick a b c d) h = h

  negative-can : (a : Term) → Can a → Can (simple_negative a)
  negative-can a h = or_zero (is_whole 0 a) (negative_or a (negated a)) (negated-can a h)

  plus-can : (a b : Term) → Can a → Can b → Can (simple_plus a b)
  plus-can a b h k =
      either (is_whole 0 a) b _ k (either (is_whole 0 b) a (binary plus a b) h (h, k))

  minus-can : (a b : Term) → Can a → Can b → Can (simple_minus a b)
  minus-can a b h k =
      either (is_whole 0 b) a _ h (either (is_whole 0 a) (simple_negative b) (binary minus a b) (negative-can b k) (h, k))

  times-can : (a b : Term) → Can a → Can b → Can (simple_times a b)
  times-can a b h k =
      or_zero (is_whole 0 a) _ (or_zero (is_whole 0 b) _ (either (is_whole 1 a) b _ k (either (is_whole 1 b) a (binary times a b) h (h, k))))

  quotient-can : (a b : Term) → Can a → Can b → Can (simple_quotient a b)
  quotient-can a b h k = or_zero (is_whole 0 a) (binary quotient a b) (h, k)

  power-can : (a : Term) (n : ℤ) → Can a → Can (simple_power a n)
  power-can a (pos zero) h = tt
  power-can a (pos (suc zero)) h = h
  power-can a (pos (suc (suc n))) h = h
  power-can a (negsuc n) h = h

  pick-can : (a b c d : Term) → Can a → Can b → Can c → Can d → Can (simple_pick a b c d)
  pick-can a b c d h k l m = or_zero (is_whole 0 c && is_whole 0 d) (pick a b c d) (tt, h, k, l, m)

  whole-can : (n : ℤ) → Can (signed_term n)
  whole-can (pos n) = tt
  whole-can (negsuc n) = tt

  leaf-can : (l : Leaf) (v : Variable) (k : ℤ) → Can (leaf_derivative l v k)
  leaf-can (number m s) v k = tt
  leaf-can (parameter p) v k = tt
  leaf-can (variable y j) v k = either (is_at v k y j) (whole_term 1) (whole_term 0) tt tt
  leaf-can (steady_state y) v k = tt

  binary-can : (op : Binary) (a b da db : Term) → Can a → Can b → Can da → Can db → Can (binary_derivative op a b da db)
  binary-can plus a b da db h k l m = plus-can da db l m
  binary-can minus a b da db h k l m = minus-can da db l m
  binary-can times a b da db h k l m =
      plus-can (simple_times da b) (simple_times a db) (times-can da b l k) (times-can a db h m)
  binary-can quotient a b da db h k l m =
      let part = simple_times a db in
      let square = simple_power b (pos 2) in
      minus-can (simple_quotient da b) (simple_quotient part square) (quotient-can da b l k) (quotient-can part square (times-can a db h m) (power-can b (pos 2) k))
  binary-can least a b da db h k l m = pick-can a b da db h k l m
  binary-can greatest a b da db h k l m = pick-can b a da db k h l m

  raised-can : (a : Term) (n : ℤ) (da : Term) → Can a → Can da → Can (power_derivative a n da)
  raised-can a n da h l =
      let power = simple_power a (n -ℤ pos 1) in
      let outer = simple_times (signed_term n) power in
      or_zero (int_eq n (pos 0)) (simple_times outer da) (times-can outer da (times-can (signed_term n) power (whole-can n) (power-can a (n -ℤ pos 1) h)) l)

  pub derivative-can : (t : Term) (v : Variable) (k : ℤ) → Can t → Can (derivative_of t v k)
  derivative-can (leaf l) v k h = leaf-can l v k
  derivative-can (negative a) v k h = negative-can (derivative_of a v k) (derivative-can a v k h)
  derivative-can (binary op a b) v k h =
      binary-can op a b (derivative_of a v k) (derivative_of b v k) h.0 h.1 (derivative-can a v k h.0) (derivative-can b v k h.1)
  derivative-can (power_of a n) v k h = raised-can a n (derivative_of a v k) h (derivative-can a v k h)
  derivative-can (pick a b c d) v k h = tt
