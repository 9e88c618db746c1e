-- A number times a power of ten, within the limits and beyond them.
use Rattle.std.proofs.Common.{◌≡◌, ℕ, zero, suc, ◌+◌, ◌-◌, ◌*◌, ◌^◌, ◌<◌, ◌≤◌, ℤ, pos, negsuc, ◌+ℤ◌, ◌-ℤ◌, neg_ℤ, Bool, true, false, cond, ◌&&◌, nat_le, Some, None, option_map, refl, sym, ap, ◌∙◌, arith}
use Rattle.std.proofs.lemmas.Int.{ints}
use Rattle.std.proofs.lemmas.Bool.Decides.{nat_tests}
use Rattle.std.proofs.Math.Nat.{pow-le-pow_right, mul-le-mul_left}
use Rattle.mp_tokens.specs.Literals.{Decimal, decimal_by}
use Rattle.mp_literal.specs.Accepted.{accepted, up_to_limit}
use Rattle.mp_literal.proofs.Limits.{beyond_limit, limit-None, times_power-ge}

pub difference-up : (a b : ℕ) → b ≤ a → pos a -ℤ pos b ≡ pos (a - b)
difference-up a b le = omega (arith, ints)

pub difference-down : (a b : ℕ) → a < b → pos a -ℤ pos b ≡ negsuc (b - a - 1)
difference-down a b lt = omega (arith, ints)

pub power-up : (p z f : ℕ) → pos p +ℤ (pos z -ℤ pos f) ≡ pos (z + p) -ℤ pos f
power-up p z f = omega (arith, ints)

pub power-down : (p z f : ℕ) → neg_ℤ (pos p) +ℤ (pos z -ℤ pos f) ≡ pos z -ℤ pos (f + p)
power-down p z f = omega (arith, ints)

abbrev whole : ℕ → Decimal
whole m = record { m = m; s = 0 }

pub accepted-up : (n k : ℕ) → 0 < n → accepted (decimal_by n (pos k)) ≡ option_map whole (up_to_limit (n * 10 ^ k))
accepted-up zero k some = absurd (omega arith)
accepted-up (suc n) k some = by (nat_le (suc n * 10 ^ k) (10 ^ 37))
  where
    by : (t : Bool) → cond (t && true) (Some (whole (suc n * 10 ^ k))) None ≡ option_map whole (cond t (Some (suc n * 10 ^ k)) None)
    by true = refl
    by false = refl

passes : (a b : ℕ) → a ≤ b → nat_le a b ≡ true
passes a b le = grind (arith, nat_tests)

fails : (a b : ℕ) → b < a → nat_le a b ≡ false
fails a b lt = grind (arith, nat_tests)

pub accepted-down : (n j : ℕ) → 0 < n → n ≤ 10 ^ 37 → j < 37 → accepted (decimal_by n (negsuc j)) ≡ Some (record { m = n; s = suc j })
accepted-down zero j some small few = absurd (omega arith)
accepted-down (suc n) j some small few =
    let d : Decimal = record { m = suc n; s = suc j } in
    ap (λ t. cond (t && nat_le (suc j) 37) (Some d) None) (passes (suc n) (10 ^ 37) small)
    ∙ ap (λ t. cond t (Some d) None) (passes (suc j) 37 (omega arith))

pub refused-down : (n j : ℕ) → 0 < n → 37 ≤ j → accepted (decimal_by n (negsuc j)) ≡ None
refused-down zero j some far = absurd (omega arith)
refused-down (suc n) j some far = by (record { m = suc n; s = suc j }) (nat_le (suc n) (10 ^ 37)) (nat_le (suc j) 37) (fails (suc j) 37 (omega arith))
  where
    by : (d : Decimal) (t u : Bool) → u ≡ false → cond (t && u) (Some d) None ≡ None
    by d true u h = ap (λ v. cond v (Some d) None) h
    by d false u h = refl

pub refused-up : (n k : ℕ) → 0 < n → 37 < k → accepted (decimal_by n (pos k)) ≡ None
refused-up n k some far =
    let ten : 0 < 10 = omega arith in
    let big : 10 ^ 38 ≤ 10 ^ k = pow-le-pow_right ten far in
    let more : 10 ^ k * 1 ≤ 10 ^ k * n = mul-le-mul_left (10 ^ k) some in
    let beyond : 10 ^ 37 < n * 10 ^ k = omega arith in
    accepted-up n k some ∙ ap (option_map whole) (sym (beyond_limit (n * 10 ^ k) beyond))

-- a power beyond the limit takes any number out of range
pub refused-great : (n p z f : ℕ) → 0 < n → f < 2 ^ 66 → 10 ^ 37 < p → accepted (decimal_by n (pos p +ℤ (pos z -ℤ pos f))) ≡ None
refused-great n p z f some small great =
    let le : f ≤ z + p = omega arith in
    ap (λ k. accepted (decimal_by n k)) (power-up p z f ∙ difference-up (z + p) f le) ∙ refused-up n (z + p - f) some (omega arith)

pub refused-small : (n p z f : ℕ) → 0 < n → z < 2 ^ 66 → 10 ^ 37 < p → accepted (decimal_by n (neg_ℤ (pos p) +ℤ (pos z -ℤ pos f))) ≡ None
refused-small n p z f some small great =
    let lt : z < f + p = omega arith in
    ap (λ k. accepted (decimal_by n k)) (power-down p z f ∙ difference-down z (f + p) lt) ∙ refused-down n (f + p - z - 1) some (omega arith)

-- a number beyond the limit is out of range, whatever power it is multiplied by
pub refused-number : (n : ℕ) (k : ℤ) → 10 ^ 37 < n → accepted (decimal_by n k) ≡ None
refused-number n (pos k) great =
    let some : 0 < n = omega arith in
    accepted-up n k some ∙ ap (option_map whole) (sym (beyond_limit (n * 10 ^ k) (omega (arith, times_power-ge n k))))
refused-number zero (negsuc j) great = absurd (omega arith)
refused-number (suc n) (negsuc j) great = let d : Decimal = record { m = suc n; s = suc j } in ap (λ t. cond (t && nat_le (suc j) 37) (Some d) None) (fails (suc n) (10 ^ 37) great)

pub refused-signed : (n p z f : ℕ) (negative : Bool) (e : ℤ) → 0 < n → z < 2 ^ 66 → f < 2 ^ 66 → e ≡ cond negative (neg_ℤ (pos p)) (pos p) → None ≡ up_to_limit p → accepted (decimal_by n (e +ℤ (pos z -ℤ pos f))) ≡ None
refused-signed n p z f true e some zeros places is far = ap (λ k. accepted (decimal_by n (k +ℤ (pos z -ℤ pos f)))) is ∙ refused-small n p z f some zeros (limit-None p far)
refused-signed n p z f false e some zeros places is far = ap (λ k. accepted (decimal_by n (k +ℤ (pos z -ℤ pos f)))) is ∙ refused-great n p z f some places (limit-None p far)

pub scaled-signed : (n p q z f : ℕ) (negative : Bool) (e : ℤ) → negative ≡ true → q ≡ p → e ≡ cond negative (neg_ℤ (pos p)) (pos p) → accepted (decimal_by n (pos z -ℤ pos (f + q))) ≡ accepted (decimal_by n (e +ℤ (pos z -ℤ pos f)))
scaled-signed n p q z f false e is same told = cc
scaled-signed n p q z f true e is same told =
    ap (λ i. accepted (decimal_by n (pos z -ℤ pos (f + i)))) same
    ∙ ap (λ k. accepted (decimal_by n k)) (sym (ap (λ k. k +ℤ (pos z -ℤ pos f)) told ∙ power-down p z f))
