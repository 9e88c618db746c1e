-- The order of fractions by the order of their cross products.
use Rattle.std.proofs.Common.{◌≡◌, ℕ, suc, zero, ℤ, pos, ◌*◌, ◌<◌, ◌*ℤ◌, neg_ℤ, ap, arith, sym, ◌∙◌, refl, Bool, true, false, ltb, ◌↔◌, Less, Equal, Greater}
use Rattle.std.specs.declared.cmp.Ordering.{Ordering}
use Rattle.std.specs.Int.RustNames.{unsigned_abs}
use Rattle.std.specs.Int.Signed.{lt_z, ◌<ℤ◌}
use Rattle.std.proofs.lemmas.Int.{ints}
use Rattle.std.proofs.lemmas.Bool.{ltb-true, lt-ltb}
use Rattle.mp_integer.specs.Sign.{signed}
use Rattle.mp_integer.proofs.Signs.{signed-*ℤ_pos}
use Rattle.mp_rational.specs.Fraction.{Fraction, less}
use Rattle.mp_rational.proofs.Ratios.{less-ratio_of, ratio_equal, cross_products}
use Rattle.mp_frac.specs.Value.{value_of}
use Rattle.mp_frac.specs.declared.frac.Frac.{Frac}

-- r is the order of P and Q
pub record IsOrder (r : Ordering) (P Q : ℤ) : Type 0 where
  pub is_less : (r ≡ Less) ↔ (lt_z P Q ≡ true)
  pub is_equal : (r ≡ Equal) ↔ (P ≡ Q)
  pub is_greater : (r ≡ Greater) ↔ (lt_z Q P ≡ true)

-- r is the order of x and y
pub record IsOrderOf (r : Ordering) (x y : Fraction) : Type 0 where
  pub is_less : (r ≡ Less) ↔ (less x y ≡ true)
  pub is_equal : (r ≡ Equal) ↔ (x ≡ y)
  pub is_greater : (r ≡ Greater) ↔ (less y x ≡ true)

pub order_by_products : (x y : Frac) (r : Ordering) (P Q : ℤ) → x.num *ℤ pos y.den ≡ P → y.num *ℤ pos x.den ≡ Q → IsOrder r P Q
    → IsOrderOf r (value_of x) (value_of y)
order_by_products x y r P Q p q h =
    let below : less (value_of x) (value_of y) ≡ lt_z P Q =
    less-ratio_of x.num y.num x.den y.den x.positive y.positive ∙ ap (λ (z : ℤ). lt_z z (y.num *ℤ pos x.den)) p ∙ ap (lt_z P) q in
    let above : less (value_of y) (value_of x) ≡ lt_z Q P =
    less-ratio_of y.num x.num y.den x.den y.positive x.positive ∙ ap (λ (z : ℤ). lt_z z (x.num *ℤ pos y.den)) q ∙ ap (lt_z Q) p in
    record {
      is_less = (λ e. below ∙ h.is_less.0 e, λ e. h.is_less.1 (sym below ∙ e));
      is_equal = (
        λ e. ratio_equal x.num y.num x.den y.den x.positive y.positive (p ∙ h.is_equal.0 e ∙ sym q),
        λ e. h.is_equal.1 (sym p ∙ cross_products x.num y.num x.den y.den x.positive y.positive e ∙ q),
      );
      is_greater = (λ e. above ∙ h.is_greater.0 e, λ e. h.is_greater.1 (sym above ∙ e));
    }

-- the third answer follows from the two others
greater_is : (r : Ordering) (A B : ℕ) → (r ≡ Less) ↔ (A < B) → (r ≡ Equal) ↔ (A ≡ B) → (r ≡ Greater) ↔ (B < A)
greater_is Less A B l e = let h = l.0 refl in (λ f. cc, λ g. absurd (omega (arith, h, g)))
greater_is Equal A B l e = let h = e.0 refl in (λ f. cc, λ g. absurd (omega (arith, h, g)))
greater_is Greater A B l e = (
  λ f. let n : A < B → ⊥ = λ h. let w = l.1 h in cc in let m : A ≡ B → ⊥ = λ h. let w = e.1 h in cc in omega (arith, n, m),
  λ g. refl,
)

ltb_iff : (A B : ℕ) → (A < B) ↔ (ltb A B ≡ true)
ltb_iff A B = (lt-ltb A B, ltb-true A B)

pub order_pos : (r : Ordering) (A B : ℕ) → (r ≡ Less) ↔ (A < B) → (r ≡ Equal) ↔ (A ≡ B) → IsOrder r (signed false A) (signed false B)
order_pos r A B l e =
    let g = greater_is r A B l e in
    record {
      is_less = (λ h. lt-ltb A B (l.0 h), λ h. l.1 (ltb-true A B h));
      is_equal = (λ h. ap pos (e.0 h), λ h. e.1 (ap unsigned_abs h));
      is_greater = (λ h. lt-ltb B A (g.0 h), λ h. g.1 (ltb-true B A h));
    }

lt_z-negatives : (A B : ℕ) → lt_z (neg_ℤ (pos A)) (neg_ℤ (pos B)) ≡ ltb B A
lt_z-negatives zero zero = grind arith
lt_z-negatives zero (suc b) = grind arith
lt_z-negatives (suc a) zero = grind arith
lt_z-negatives (suc a) (suc b) = grind arith

magnitude_neg : (n : ℕ) → unsigned_abs (neg_ℤ (pos n)) ≡ n
magnitude_neg zero = refl
magnitude_neg (suc n) = refl

-- below 0 the order turns
pub order_neg : (r : Ordering) (A B : ℕ) → (r ≡ Less) ↔ (B < A) → (r ≡ Equal) ↔ (B ≡ A) → IsOrder r (signed true A) (signed true B)
order_neg r A B l e =
    let g = greater_is r B A l e in
    record {
      is_less = (λ h. lt_z-negatives A B ∙ lt-ltb B A (l.0 h), λ h. l.1 (ltb-true B A (sym (lt_z-negatives A B) ∙ h)));
      is_equal = (
        λ h. ap (λ (n : ℕ). neg_ℤ (pos n)) (sym (e.0 h)),
        λ h. e.1 (sym (magnitude_neg B) ∙ ap unsigned_abs (sym h) ∙ magnitude_neg A),
      );
      is_greater = (λ h. lt_z-negatives B A ∙ lt-ltb A B (g.0 h), λ h. g.1 (ltb-true A B (sym (lt_z-negatives B A) ∙ h)));
    }

-- a number below 0 against one that is not
pub order_apart : (A B : ℕ) → 0 < A → IsOrder Less (signed true A) (signed false B)
order_apart zero B p = absurd (omega arith)
order_apart (suc a) B p = record { is_less = (λ h. refl, λ h. refl); is_equal = (λ h. cc, λ h. cc); is_greater = (λ h. cc, λ h. cc) }

pub order_apart_back : (A B : ℕ) → 0 < B → IsOrder Greater (signed false A) (signed true B)
order_apart_back A zero p = absurd (omega arith)
order_apart_back A (suc b) p = record { is_less = (λ h. cc, λ h. cc); is_equal = (λ h. cc, λ h. cc); is_greater = (λ h. refl, λ h. refl) }

-- the cross product of a numerator that is known by its sign and magnitude
pub cross_is : (n : ℤ) (s : Bool) (m d : ℕ) → n ≡ signed s m → n *ℤ pos d ≡ signed s (m * d)
cross_is n s m d e = ap (λ (z : ℤ). z *ℤ pos d) e ∙ signed-*ℤ_pos s m d

pub magnitude_positive : (n : ℤ) (m : ℕ) → n <ℤ pos 0 → m ≡ unsigned_abs n → 0 < m
magnitude_positive n m l e = grind (arith, ints)
