-- The value of an operator that leaves out what is plain to see.
use Rattle.std.proofs.Common.{◌≡◌, ℕ, suc, zero, ℤ, pos, Bool, true, false, cond, ◌&&◌, ◌==◌, Option, Some, None, refl, sym, ap, ◌∙◌, eqb-true}
use Rattle.mp_rational.specs.Fraction.{Fraction, add, sub, mul, neg, inv, is_zero, less, nought, one, power_nat}
use Rattle.mp_semantics.specs.Term.{Leaf, number, parameter, variable, steady_state, plus, minus, times, quotient, Term, leaf, negative, binary, power_of, pick}
use Rattle.mp_semantics.specs.Value.{Environment, of_one, val}
use Rattle.mp_slopes.specs.Derivative.{whole_term, is_number, is_whole, negated, negative_or, simple_negative, simple_plus, simple_minus, simple_times, simple_quotient, simple_power, simple_pick}
use Rattle.mp_slopes.proofs.Field.{Field, nought-add, one-mul, nought-mul, neg-neg, neg-nought}

some_of : {x y : Fraction} → Some x ≡ Some y → x ≡ y
some_of e = cc

number_only : (n : ℕ) (l : Leaf) → is_number n l ≡ true → leaf l ≡ whole_term n
number_only n (number m s) e = by (m == n) (s == 0) refl refl e
  where
    by : (p q : Bool) → (m == n) ≡ p → (s == 0) ≡ q → (p && q) ≡ true → leaf (number m s) ≡ whole_term n
    by true true e f h = let g = eqb-true m n e in let k = eqb-true s 0 f in cc
    by true false e f h = cc
    by false q e f h = cc
number_only n (parameter p) e = cc
number_only n (variable y j) e = cc
number_only n (steady_state y) e = cc

whole_only : (n : ℕ) (a : Term) → is_whole n a ≡ true → a ≡ whole_term n
whole_only n (leaf l) e = number_only n l e
whole_only n (negative a) e = cc
whole_only n (binary op a b) e = cc
whole_only n (power_of a k) e = cc
whole_only n (pick a b c d) e = cc

negated_only : (a b : Term) → negated a ≡ Some b → a ≡ negative b
negated_only (leaf l) b e = cc
negated_only (negative a) b e = cc
negated_only (binary op a c) b e = cc
negated_only (power_of a k) b e = cc
negated_only (pick a c d e') b e = cc

module _ (f : Field) (env : Environment) (t : ℤ) where
  abbrev pub Has : Term → Fraction → Type 0
  Has a x = val a env t ≡ Some x

  zero_has : (a : Term) (x : Fraction) → Has a x → is_whole 0 a ≡ true → x ≡ nought
  zero_has a x h e = some_of (sym h ∙ ap (λ (u : Term). val u env t) (whole_only 0 a e))

  one_has : (a : Term) (x : Fraction) → Has a x → is_whole 1 a ≡ true → x ≡ one
  one_has a x h e = some_of (sym h ∙ ap (λ (u : Term). val u env t) (whole_only 1 a e))

  pub plus_has : (a b : Term) (x y : Fraction) → Has a x → Has b y → Has (simple_plus a b) (add x y)
  plus_has a b x y h k = by (is_whole 0 a) (is_whole 0 b) refl refl
    where
      by : (p q : Bool) → is_whole 0 a ≡ p → is_whole 0 b ≡ q → Has (cond p b (cond q a (binary plus a b))) (add x y)
      by true q e g = k ∙ ap Some (sym (nought-add f y) ∙ ap (λ (u : Fraction). add u y) (sym (zero_has a x h e)))
      by false true e g = h ∙ ap Some (sym (f.add-nought x) ∙ ap (add x) (sym (zero_has b y k g)))
      by false false e g = rw (h, k) refl

  of_neg : (o : Option Fraction) (x : Fraction) → of_one (λ x. Some (neg x)) o ≡ Some x → o ≡ Some (neg x)
  of_neg None x e = cc
  of_neg (Some y) x e = ap Some (sym (neg-neg f y) ∙ ap neg (some_of e))

  pub negative_has : (a : Term) (x : Fraction) → Has a x → Has (simple_negative a) (neg x)
  negative_has a x h = by (is_whole 0 a) (negated a) refl refl
    where
      by : (p : Bool) (o : Option Term) → is_whole 0 a ≡ p → negated a ≡ o → Has (cond p (whole_term 0) (negative_or a o)) (neg x)
      by true o e g = ap Some (sym (neg-nought f) ∙ ap neg (sym (zero_has a x h e)))
      by false None e g = rw h refl
      by false (Some b) e g = of_neg (val b env t) x (sym (ap (λ (u : Term). val u env t) (negated_only a b g)) ∙ h)

  pub minus_has : (a b : Term) (x y : Fraction) → Has a x → Has b y → Has (simple_minus a b) (sub x y)
  minus_has a b x y h k = by (is_whole 0 a) (is_whole 0 b) refl refl
    where
      by : (p q : Bool) → is_whole 0 a ≡ p → is_whole 0 b ≡ q → Has (cond q a (cond p (simple_negative b) (binary minus a b))) (sub x y)
      by p true e g = h ∙ ap Some (sym (f.add-nought x) ∙ ap (add x) (sym (neg-nought f) ∙ ap neg (sym (zero_has b y k g))))
      by true false e g =
          negative_has b y k ∙ ap Some (sym (nought-add f (neg y)) ∙ ap (λ (u : Fraction). add u (neg y)) (sym (zero_has a x h e)))
      by false false e g = rw (h, k) refl

  pub times_has : (a b : Term) (x y : Fraction) → Has a x → Has b y → Has (simple_times a b) (mul x y)
  times_has a b x y h k = by (is_whole 0 a) (is_whole 0 b) (is_whole 1 a) (is_whole 1 b) refl refl refl refl
    where
      by : (p q r s : Bool) → is_whole 0 a ≡ p → is_whole 0 b ≡ q → is_whole 1 a ≡ r → is_whole 1 b ≡ s
          → Has (cond p (whole_term 0) (cond q (whole_term 0) (cond r b (cond s a (binary times a b))))) (mul x y)
      by true q r s e g i j = ap Some (sym (nought-mul f y) ∙ ap (λ (u : Fraction). mul u y) (sym (zero_has a x h e)))
      by false true r s e g i j = ap Some (sym (f.mul-nought x) ∙ ap (mul x) (sym (zero_has b y k g)))
      by false false true s e g i j = k ∙ ap Some (sym (one-mul f y) ∙ ap (λ (u : Fraction). mul u y) (sym (one_has a x h i)))
      by false false false true e g i j = h ∙ ap Some (sym (f.mul-one x) ∙ ap (mul x) (sym (one_has b y k j)))
      by false false false false e g i j = rw (h, k) refl

  pub quotient_has : (a b : Term) (x y : Fraction) → Has a x → Has b y → is_zero y ≡ false → Has (simple_quotient a b) (mul x (inv y))
  quotient_has a b x y h k n = by (is_whole 0 a) refl
    where
      by : (p : Bool) → is_whole 0 a ≡ p → Has (cond p (whole_term 0) (binary quotient a b)) (mul x (inv y))
      by true e = ap Some (sym (nought-mul f (inv y)) ∙ ap (λ (u : Fraction). mul u (inv y)) (sym (zero_has a x h e)))
      by false e = rw (h, k) (f.div_is x y n)

  pub power_has : (a : Term) (x : Fraction) (n : ℕ) → Has a x → Has (simple_power a (pos n)) (power_nat x n)
  power_has a x zero h = refl
  power_has a x (suc zero) h = h ∙ ap Some (sym (one-mul f x))
  power_has a x (suc (suc n)) h = rw h refl

  -- the third where the first is less, and the fourth where it is greater
  pub pick_has : (a b c d : Term) (x y u v : Fraction) → Has a x → Has b y → Has c u → Has d v
      → (less x y ≡ true → Has (simple_pick a b c d) u) × (less x y ≡ false → less y x ≡ true → Has (simple_pick a b c d) v)
  pick_has a b c d x y u v h k m n = by (is_whole 0 c) (is_whole 0 d) refl refl
    where
      by : (p q : Bool) → is_whole 0 c ≡ p → is_whole 0 d ≡ q
          → (less x y ≡ true → Has (cond (p && q) (whole_term 0) (pick a b c d)) u)
          × (less x y ≡ false → less y x ≡ true → Has (cond (p && q) (whole_term 0) (pick a b c d)) v)
      by true true e g = (λ l. ap Some (sym (zero_has c u m e)), λ l i. ap Some (sym (zero_has d v n g)))
      by true false e g = (λ l. rw (h, k, l) m, λ l i. rw (h, k, l, i) n)
      by false q e g = (λ l. rw (h, k, l) m, λ l i. rw (h, k, l, i) n)
