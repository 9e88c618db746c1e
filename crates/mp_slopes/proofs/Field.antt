-- The laws of fractions that derivatives need.
use Rattle.std.proofs.Common.{◌≡◌, ◌↔◌, ℕ, suc, zero, ◌*◌, ◌<◌, ℤ, pos, ◌+ℤ◌, ◌*ℤ◌, Bool, true, false, Some, IsTrue, IsFalse, refl, sym, ap, ◌∙◌, arith}
use Rattle.std.proofs.lemmas.Int.{ints}
use Rattle.mp_rational.specs.Fraction.{Fraction, add, mul, neg, inv, div, is_zero, less, whole, nought, one, ratio_of, power_nat}

pub record Field : Type 0 where
  pub add_comm : (x y : Fraction) → add x y ≡ add y x
  pub add_assoc : (x y z : Fraction) → add (add x y) z ≡ add x (add y z)
  pub add-nought : (x : Fraction) → add x nought ≡ x
  pub add-neg : (x : Fraction) → add x (neg x) ≡ nought
  pub mul_comm : (x y : Fraction) → mul x y ≡ mul y x
  pub mul_assoc : (x y z : Fraction) → mul (mul x y) z ≡ mul x (mul y z)
  pub mul-one : (x : Fraction) → mul x one ≡ x
  pub mul-nought : (x : Fraction) → mul x nought ≡ nought
  pub mul-add : (x y z : Fraction) → mul x (add y z) ≡ add (mul x y) (mul x z)
  pub zero_is : (x : Fraction) → IsTrue (is_zero x) ↔ (x ≡ nought)
  pub one_is_not : IsFalse (is_zero one)
  pub inverse : (x : Fraction) → IsFalse (is_zero x) → mul x (inv x) ≡ one
  pub inv_unique : (x w : Fraction) → mul x w ≡ one → inv x ≡ w
  pub div_is : (x y : Fraction) → IsFalse (is_zero y) → div x y ≡ Some (mul x (inv y))
  pub mul-ne-nought : (x y : Fraction) → IsFalse (is_zero x) → IsFalse (is_zero y) → IsFalse (is_zero (mul x y))
  pub sum : (n m : ℤ) (d e : ℕ) → 0 < d → 0 < e → add (ratio_of n d) (ratio_of m e) ≡ ratio_of ((n *ℤ pos e) +ℤ (m *ℤ pos d)) (d * e)
  pub less_self : (x : Fraction) → IsFalse (less x x)
  pub less_trans : (x y z : Fraction) → IsTrue (less x y) → IsTrue (less y z) → IsTrue (less x z)

module _ (f : Field) where
  pub nought-add : (x : Fraction) → add nought x ≡ x
  nought-add x = f.add_comm nought x ∙ f.add-nought x

  pub one-mul : (x : Fraction) → mul one x ≡ x
  one-mul x = f.mul_comm one x ∙ f.mul-one x

  pub nought-mul : (x : Fraction) → mul nought x ≡ nought
  nought-mul x = f.mul_comm nought x ∙ f.mul-nought x

  pub add-mul : (x y z : Fraction) → mul (add x y) z ≡ add (mul x z) (mul y z)
  add-mul x y z =
      f.mul_comm (add x y) z ∙ f.mul-add z x y ∙ ap (λ (u : Fraction). add u (mul z y)) (f.mul_comm z x) ∙ ap (add (mul x z)) (f.mul_comm z y)

  -- a negation is the only one
  neg_unique : (x y : Fraction) → add x y ≡ nought → y ≡ neg x
  neg_unique x y e =
      sym (f.add-nought y) ∙ ap (add y) (sym (f.add-neg x)) ∙ sym (f.add_assoc y x (neg x)) ∙ ap (λ (u : Fraction). add u (neg x)) (f.add_comm y x ∙ e) ∙ nought-add (neg x)

  pub neg-neg : (x : Fraction) → neg (neg x) ≡ x
  neg-neg x = sym (neg_unique (neg x) x (f.add_comm (neg x) x ∙ f.add-neg x))

  pub neg-nought : neg nought ≡ nought
  neg-nought = sym (neg_unique nought nought (f.add-nought nought))

  pub neg-mul : (x y : Fraction) → neg (mul x y) ≡ mul (neg x) y
  neg-mul x y =
      sym (neg_unique (mul x y) (mul (neg x) y) (sym (add-mul x (neg x) y) ∙ ap (λ (u : Fraction). mul u y) (f.add-neg x) ∙ nought-mul y))

  mul_swap : (a b c d : Fraction) → mul (mul a b) (mul c d) ≡ mul (mul a c) (mul b d)
  mul_swap a b c d =
      f.mul_assoc a b (mul c d) ∙ ap (mul a) (sym (f.mul_assoc b c d) ∙ ap (λ (u : Fraction). mul u d) (f.mul_comm b c) ∙ f.mul_assoc c b d)
      ∙ sym (f.mul_assoc a c (mul b d))

  pub inv-mul : (x y : Fraction) → is_zero x ≡ false → is_zero y ≡ false → inv (mul x y) ≡ mul (inv x) (inv y)
  inv-mul x y h k =
      f.inv_unique (mul x y) (mul (inv x) (inv y))
      (mul_swap x y (inv x) (inv y) ∙ ap (λ (u : Fraction). mul u (mul y (inv y))) (f.inverse x h) ∙ ap (mul one) (f.inverse y k) ∙ f.mul-one one)

  pub whole_suc : (n : ℕ) → add (whole (pos n)) one ≡ whole (pos (suc n))
  whole_suc n =
      let e : (pos n *ℤ pos 1) +ℤ (pos 1 *ℤ pos 1) ≡ pos (suc n) = omega (arith, ints) in
      f.sum (pos n) (pos 1) 1 1 (omega arith) (omega arith) ∙ ap (λ (z : ℤ). ratio_of z 1) e

  -- the lesser is not the greater
  pub less_back : (x y : Fraction) → less x y ≡ true → less y x ≡ false
  less_back x y h = by (less y x) refl
    where
      by : (b : Bool) → less y x ≡ b → less y x ≡ false
      by false e = e
      by true e = cc (f.less_trans x y x h e, f.less_self x)

  pub power-ne-nought : (x : Fraction) (n : ℕ) → is_zero x ≡ false → is_zero (power_nat x n) ≡ false
  power-ne-nought x zero h = f.one_is_not
  power-ne-nought x (suc n) h = f.mul-ne-nought (power_nat x n) x (power-ne-nought x n h) h

  -- a factor of what is not 0 is not 0
  pub factor-ne-nought : (p x : Fraction) → is_zero (mul p x) ≡ false → is_zero x ≡ false
  factor-ne-nought p x h = by (is_zero x) refl
    where
      by : (b : Bool) → is_zero x ≡ b → is_zero x ≡ false
      by false e = e
      by true e = cc (h, ap (λ (u : Fraction). is_zero (mul p u)) ((f.zero_is x).0 e), ap is_zero (f.mul-nought p), (f.zero_is nought).1 refl)
