-- Products of numbers that stop somewhere.
use Rattle.std.proofs.Common.{◌≡◌, ◌⊎◌, ℕ, zero, suc, ◌*◌, ◌<◌, ◌≤◌, min, sym, ap, ◌∙◌, subst, inl, inr, arith}
use Rattle.std.proofs.lemmas.Nat.{mul-le}

split : (a b : ℕ) → (a ≤ b) ⊎ (b < a)
split zero b = inl (omega arith)
split (suc a) zero = inr (omega arith)
split (suc a) (suc b) = elim (split a b) [
  | inl h ↦ inl (omega (arith, h))
  | inr h ↦ inr (omega (arith, h))
]

-- where a factor is past it and the other is not 0, both products are
past : (L m n p q : ℕ) → L < m → 1 ≤ n → 1 ≤ q → p ≡ min m L → min (p * q) L ≡ min (m * n) L
past L m n p q over more some x = omega (arith, mul-le L 1 p q (omega (arith, x, over)) some, mul-le L 1 m n (omega (arith, over)) more)

pub product_capped : (L m n p q : ℕ) → 1 ≤ L → p ≡ min m L → q ≡ min n L → min (p * q) L ≡ min (m * n) L
product_capped L zero n p q some x y =
    let e : p ≡ 0 = omega (arith, x) in
    subst (λ (z : ℕ). min (z * q) L ≡ min (0 * n) L) (sym e) (omega arith)
product_capped L (suc i) zero p q some x y =
    let e : q ≡ 0 = omega (arith, y) in
    subst (λ (z : ℕ). min (p * z) L ≡ min (suc i * 0) L) (sym e) (omega arith)
product_capped L (suc i) (suc k) p q some x y = elim (split (suc i) L) [
  | inr over ↦ past L (suc i) (suc k) p q over (omega arith) (omega (arith, y, some)) x
  | inl low ↦ elim (split (suc k) L) [
    | inr over ↦ let e = past L (suc k) (suc i) q p over (omega arith) (omega (arith, x, some)) y in omega (arith, e)
    | inl small ↦
        let e : p ≡ suc i = omega (arith, x, low) in
        let f : q ≡ suc k = omega (arith, y, small) in
        ap (λ (z : ℕ). min (z * q) L) e ∙ ap (λ (z : ℕ). min (suc i * z) L) f
  ]
]
