-- The slopes of powers of a dual number.
use Rattle.std.proofs.Common.{◌≡◌, ℕ, suc, zero, pos, false, refl, sym, ap, ◌∙◌}
use Rattle.mp_rational.specs.Fraction.{Fraction, add, sub, mul, neg, inv, is_zero, whole, nought, one, power_nat}
use Rattle.mp_slopes.specs.Dual.{Dual, dual_power_nat}
use Rattle.mp_slopes.proofs.Field.{Field, nought-add, one-mul, nought-mul, add-mul, neg-mul, inv-mul, whole_suc}

pub power_real : (x : Dual) (n : ℕ) → (dual_power_nat x n).real ≡ power_nat x.real n
power_real x zero = refl
power_real x (suc n) = ap (λ (u : Fraction). mul u x.real) (power_real x n)

module _ (f : Field) where
  -- (w p b) a + (p a) b is (w + 1) (p a) b
  step : (w p a b : Fraction) → add (mul (mul (mul w p) b) a) (mul (mul p a) b) ≡ mul (mul (add w one) (mul p a)) b
  step w p a b =
      ap (λ (u : Fraction). add u (mul (mul p a) b)) (f.mul_assoc (mul w p) b a ∙ ap (mul (mul w p)) (f.mul_comm b a) ∙ sym (f.mul_assoc (mul w p) a b)
      ∙ ap (λ (u : Fraction). mul u b) (f.mul_assoc w p a) ∙ f.mul_assoc w (mul p a) b)
      ∙ ap (add (mul w (mul (mul p a) b))) (sym (one-mul f (mul (mul p a) b)))
      ∙ sym (add-mul f w one (mul (mul p a) b)) ∙ sym (f.mul_assoc (add w one) (mul p a) b)

  pub power_slope : (x : Dual) (n : ℕ) → (dual_power_nat x (suc n)).slope ≡ mul (mul (whole (pos (suc n))) (power_nat x.real n)) x.slope
  power_slope x zero =
      ap (λ (u : Fraction). add u (mul one x.slope)) (nought-mul f x.real) ∙ nought-add f (mul one x.slope) ∙ ap (λ (u : Fraction). mul u x.slope) (sym (f.mul-one one))
  power_slope x (suc n) =
      ap (λ (u : Fraction). add (mul u x.real) (mul (dual_power_nat x (suc n)).real x.slope)) (power_slope x n)
      ∙ ap (λ (u : Fraction). add (mul (mul (mul (whole (pos (suc n))) (power_nat x.real n)) x.slope) x.real) (mul u x.slope)) (power_real x (suc n))
      ∙ step (whole (pos (suc n))) (power_nat x.real n) x.real x.slope
      ∙ ap (λ (u : Fraction). mul (mul u (power_nat x.real (suc n))) x.slope) (whole_suc f (suc n))

  -- b / y - x d / y^2, as the expression has it, and as the dual quotient has it
  pub quotient_slope : (x y b d : Fraction) → is_zero y ≡ false
      → sub (mul b (inv y)) (mul (mul x d) (inv (mul (mul one y) y)))
      ≡ add (mul b (inv y)) (mul x (neg (mul d (mul (inv y) (inv y)))))
  quotient_slope x y b d n = ap (add (mul b (inv y))) inner
    where
      square : inv (mul (mul one y) y) ≡ mul (inv y) (inv y)
      square = ap (λ (u : Fraction). inv (mul u y)) (one-mul f y) ∙ inv-mul f y y n n

      inner : neg (mul (mul x d) (inv (mul (mul one y) y))) ≡ mul x (neg (mul d (mul (inv y) (inv y))))
      inner =
          ap (λ (u : Fraction). neg (mul (mul x d) u)) square ∙ ap neg (f.mul_assoc x d _ ∙ f.mul_comm x _) ∙ neg-mul f _ x ∙ f.mul_comm _ x

  -- p / (p a)^2 is 1 / (p a a)
  pub cancelled : (p a : Fraction) → is_zero p ≡ false → is_zero a ≡ false → mul p (mul (inv (mul p a)) (inv (mul p a))) ≡ inv (mul (mul p a) a)
  cancelled p a h k =
      sym (f.mul_assoc p (inv (mul p a)) (inv (mul p a)))
      ∙ ap (λ (u : Fraction). mul u (inv (mul p a))) (ap (mul p) (inv-mul f p a h k) ∙ sym (f.mul_assoc p (inv p) (inv a))
      ∙ ap (λ (u : Fraction). mul u (inv a)) (f.inverse p h) ∙ one-mul f (inv a))
      ∙ f.mul_comm (inv a) (inv (mul p a)) ∙ sym (inv-mul f (mul p a) a (f.mul-ne-nought p a h k) k)

  -- 0 / d - e / d^2, where e is w p b
  pub negative_slope : (w p b a i : Fraction) → mul p (mul i i) ≡ a
      → add (mul nought i) (mul one (neg (mul (mul (mul w p) b) (mul i i)))) ≡ mul (mul (neg w) (mul one a)) b
  negative_slope w p b a i e =
      ap (λ (u : Fraction). add u (mul one (neg (mul (mul (mul w p) b) (mul i i))))) (nought-mul f i)
      ∙ nought-add f (mul one (neg (mul (mul (mul w p) b) (mul i i))))
      ∙ one-mul f (neg (mul (mul (mul w p) b) (mul i i)))
      ∙ ap neg (f.mul_assoc (mul w p) b (mul i i) ∙ ap (mul (mul w p)) (f.mul_comm b (mul i i)) ∙ sym (f.mul_assoc (mul w p) (mul i i) b)
      ∙ ap (λ (u : Fraction). mul u b) (f.mul_assoc w p (mul i i) ∙ ap (mul w) (e ∙ sym (one-mul f a))))
      ∙ neg-mul f (mul w (mul one a)) b ∙ ap (λ (u : Fraction). mul u b) (neg-mul f w (mul one a))
