-- How a rounded quotient goes with its dividend and its divisor, and which quotients of the ends of two intervals are
-- the least and the greatest.
use Rattle.std.proofs.Common.{◌≡◌, ℕ, suc, ℤ, pos, negsuc, neg_ℤ, ◌*◌, ◌/◌, ◌<◌, ◌≤◌, ◌*ℤ◌, ap, arith, sym, ◌∙◌, Bool, false, cond, Result, Err}
use Rattle.std.specs.Int.{int_min, int_max}
use Rattle.std.specs.Int.Signed.{◌<ℤ◌, ◌≤ℤ◌}
use Rattle.std.specs.Int.RustNames.{unsigned_abs}
use Rattle.std.proofs.lemmas.Int.{ints}
use Rattle.std.proofs.lemmas.Nat.{le-div}
use Rattle.std.proofs.Math.Nat.{div-mul-le_self, mul-le-mul_left}
use Rattle.mp_base.specs.declared.kinds.FixFault.{FixFault}
use Rattle.mp_base.specs.declared.kinds.FixFault.TheVariants.{ZeroDivisor}
use Rattle.mp_integer.proofs.Differences.{diff, is_diff, diffs, diff_eq}
use Rattle.mp_fix.specs.Units.{unit, floor, ceiling}
use Rattle.mp_fix.specs.Points.{by_signed}
use Rattle.mp_fix.specs.Interval.{Interval}
use Rattle.mp_fix.specs.Intervals.{with_ends, least, greatest, of_ends, holds_zero, interval_quotient, interval_negation}
use Rattle.mp_fix.proofs.Rounding.{le_along, floor_le_ceiling}

-- quotients of naturals
more_divided : (a b k : ℕ) → 0 < k → a ≤ b → a / k ≤ b / k
more_divided a b k p h = le-div (a / k) b k p (omega (arith, div-mul-le_self a k))

less_dividing : (a j k : ℕ) → 0 < j → j ≤ k → a / k ≤ a / j
less_dividing a j k p h =
    let m : a / k * j ≤ a / k * k = mul-le-mul_left (a / k) h in
    le-div (a / k) a j p (omega (arith, m, div-mul-le_self a k))

-- a greater dividend has no lesser quotient
floor_along : (m n : ℤ) (k : ℕ) → 0 < k → m ≤ℤ n → floor m k ≤ℤ floor n k
floor_along (pos a) (pos b) k p h = let l = more_divided a b k p (omega (arith, ints)) in omega (arith, ints)
floor_along (pos a) (negsuc b) k p h = absurd (omega (arith, ints))
floor_along (negsuc a) (pos b) k p h = omega (arith, ints)
floor_along (negsuc a) (negsuc b) k p h = let l = more_divided b a k p (omega (arith, ints)) in omega (arith, ints)

opposite : (m n : ℤ) → m ≤ℤ n → neg_ℤ n ≤ℤ neg_ℤ m
opposite m n h = omega (arith, ints, h)

ceiling_along : (m n : ℤ) (k : ℕ) → 0 < k → m ≤ℤ n → ceiling m k ≤ℤ ceiling n k
ceiling_along m n k p h = opposite _ _ (floor_along (neg_ℤ n) (neg_ℤ m) k p (opposite m n h))

-- by the farther of two divisors a number's quotient lies nearer to 0
floor_farther : (n : ℤ) (j k : ℕ) → 0 < j → j ≤ k → (n <ℤ pos 0 → ⊥) → floor n k ≤ℤ floor n j
floor_farther (pos a) j k p h s = let l = less_dividing a j k p h in omega (arith, ints)
floor_farther (negsuc a) j k p h s = absurd (s (omega (arith, ints)))

floor_nearer : (n : ℤ) (j k : ℕ) → 0 < j → j ≤ k → n <ℤ pos 0 → floor n j ≤ℤ floor n k
floor_nearer (pos a) j k p h s = absurd (omega (arith, ints))
floor_nearer (negsuc a) j k p h s = let l = less_dividing a j k p h in omega (arith, ints)

-- the lesser of a number's quotients by two divisors, and the greater
min_first : (x y : ℤ) → x ≤ℤ y → x ≡ int_min x y
min_first x y h = grind (arith, ints)

min_second : (x y : ℤ) → y ≤ℤ x → y ≡ int_min x y
min_second x y h = grind (arith, ints)

max_negated : (x y : ℤ) → neg_ℤ (int_min x y) ≡ int_max (neg_ℤ x) (neg_ℤ y)
max_negated x y = grind (arith, ints)

pub least_nonnegative : (r n : ℤ) (j k : ℕ) → 0 < j → j ≤ k → (n <ℤ pos 0 → ⊥) → r ≡ floor n k → r ≡ int_min (floor n j) (floor n k)
least_nonnegative r n j k p h s e = e ∙ min_second _ _ (floor_farther n j k p h s)

pub least_negative : (r n : ℤ) (j k : ℕ) → 0 < j → j ≤ k → n <ℤ pos 0 → r ≡ floor n j → r ≡ int_min (floor n j) (floor n k)
least_negative r n j k p h s e = e ∙ min_first _ _ (floor_nearer n j k p h s)

pub greatest_by_least : (r m n : ℤ) (j k : ℕ) → n ≡ neg_ℤ m → r ≡ int_min (floor n j) (floor n k) → neg_ℤ r ≡ int_max (ceiling m j) (ceiling m k)
greatest_by_least r m n j k f e =
    ap neg_ℤ e ∙ ap (λ (z : ℤ). neg_ℤ (int_min (floor z j) (floor z k))) f ∙ max_negated (floor (neg_ℤ m) j) (floor (neg_ℤ m) k)

-- the least and the greatest quotients of two ends by two positive divisors: of the least end and of the greatest
scaled_along : (l h : ℤ) → l ≤ℤ h → (l *ℤ pos unit) ≤ℤ (h *ℤ pos unit)
scaled_along l h e = grind (arith, ints)

min_of_four : (x y u v : ℤ) → x ≤ℤ u → y ≤ℤ v → int_min x y ≡ least x y u v
min_of_four x y u v h k = grind (arith, ints)

max_of_four : (x y u v : ℤ) → x ≤ℤ u → y ≤ℤ v → int_max u v ≡ greatest x y u v
max_of_four x y u v h k = grind (arith, ints)

pub least_of_ends : (r l h p q : ℤ) → l ≤ℤ h → pos 0 <ℤ p → p ≤ℤ q
    → r ≡ int_min (floor (l *ℤ pos unit) (unsigned_abs p)) (floor (l *ℤ pos unit) (unsigned_abs q))
    → r ≡ least (by_signed floor (l *ℤ pos unit) p) (by_signed floor (l *ℤ pos unit) q) (by_signed floor (h *ℤ pos unit) p) (by_signed floor (h *ℤ pos unit) q)
least_of_ends r l h (negsuc j) q o s t e = absurd (omega (arith, ints))
least_of_ends r l h (pos j) (negsuc k) o s t e = absurd (omega (arith, ints))
least_of_ends r l h (pos j) (pos k) o s t e =
    let m = scaled_along l h o in
    e ∙ min_of_four _ _ _ _ (floor_along _ _ j (omega (arith, ints)) m) (floor_along _ _ k (omega (arith, ints)) m)

pub greatest_of_ends : (r l h p q : ℤ) → l ≤ℤ h → pos 0 <ℤ p → p ≤ℤ q
    → r ≡ int_max (ceiling (h *ℤ pos unit) (unsigned_abs p)) (ceiling (h *ℤ pos unit) (unsigned_abs q))
    → r ≡ greatest (by_signed ceiling (l *ℤ pos unit) p) (by_signed ceiling (l *ℤ pos unit) q) (by_signed ceiling (h *ℤ pos unit) p) (by_signed ceiling (h *ℤ pos unit) q)
greatest_of_ends r l h (negsuc j) q o s t e = absurd (omega (arith, ints))
greatest_of_ends r l h (pos j) (negsuc k) o s t e = absurd (omega (arith, ints))
greatest_of_ends r l h (pos j) (pos k) o s t e =
    let m = scaled_along l h o in
    e ∙ max_of_four _ _ _ _ (ceiling_along _ _ j (omega (arith, ints)) m) (ceiling_along _ _ k (omega (arith, ints)) m)

-- the least of them is at most the greatest
least_to_greatest : (x y u v : ℤ) → x ≤ℤ u → int_min x y ≤ℤ int_max u v
least_to_greatest x y u v h = grind (arith, ints)

pub ordered_ends : (r s l h p q : ℤ) → l ≤ℤ h → pos 0 <ℤ p
    → r ≡ int_min (floor (l *ℤ pos unit) (unsigned_abs p)) (floor (l *ℤ pos unit) (unsigned_abs q))
    → s ≡ int_max (ceiling (h *ℤ pos unit) (unsigned_abs p)) (ceiling (h *ℤ pos unit) (unsigned_abs q))
    → r ≤ℤ s
ordered_ends r s l h (negsuc j) q o t e f = absurd (omega (arith, ints))
ordered_ends r s l h (pos j) q o t e f =
    le_along _ _ _ _ e f (least_to_greatest _ _ _ _ (floor_le_ceiling _ _ j (omega (arith, ints)) (scaled_along l h o)))

-- the quotients of the ends of two intervals, rounded outward
abbrev pub quotient_ends : Interval → Interval → Result Interval FixFault
quotient_ends a b =
    with_ends (of_ends least (λ x y. by_signed floor (x *ℤ pos unit) y) a b) (of_ends greatest (λ x y. by_signed ceiling (x *ℤ pos unit) y) a b)

pub quotient_by : (a b : Interval) → holds_zero b ≡ false → quotient_ends a b ≡ interval_quotient a b
quotient_by a b h = sym (ap (λ (t : Bool). cond t (Err ZeroDivisor) (quotient_ends a b)) h)

-- they stay the same where both intervals change their signs
negated_scaled : (x : ℤ) (u : ℕ) → neg_ℤ x *ℤ pos u ≡ neg_ℤ (x *ℤ pos u)
negated_scaled x u = rw (is_diff x) (at _ _ u)
  where
    at : (p m u : ℕ) → neg_ℤ (diff p m) *ℤ pos u ≡ neg_ℤ (diff p m *ℤ pos u)
    at p m u = simp diffs (diff_eq _ _ _ _ (omega arith))

mirrored : (rounded : ℤ → ℕ → ℤ) (x y : ℤ) → y <ℤ pos 0 → by_signed rounded (neg_ℤ x *ℤ pos unit) (neg_ℤ y) ≡ by_signed rounded (x *ℤ pos unit) y
mirrored rounded x (pos k) h = absurd (omega (arith, ints))
mirrored rounded x (negsuc k) h = ap (λ (z : ℤ). rounded z (suc k)) (negated_scaled x unit)

least_reversed : (a b c d w x y z : ℤ) → w ≡ d → x ≡ c → y ≡ b → z ≡ a → least w x y z ≡ least a b c d
least_reversed a b c d w x y z e f g h = rw (e, f, g, h) (grind (arith, ints))

greatest_reversed : (a b c d w x y z : ℤ) → w ≡ d → x ≡ c → y ≡ b → z ≡ a → greatest w x y z ≡ greatest a b c d
greatest_reversed a b c d w x y z e f g h = rw (e, f, g, h) (grind (arith, ints))

pub quotient_mirrored : (a b : Interval) → b.lo ≤ℤ b.hi → b.hi <ℤ pos 0 → quotient_ends (interval_negation a) (interval_negation b) ≡ quotient_ends a b
quotient_mirrored a b o h =
    let f : ℤ → ℤ → ℤ = λ x y. by_signed floor (x *ℤ pos unit) y in
    let c : ℤ → ℤ → ℤ = λ x y. by_signed ceiling (x *ℤ pos unit) y in
    let l : b.lo <ℤ pos 0 = omega (arith, ints, o, h) in
    let down = least_reversed _ _ _ _ _ _ _ _ (mirrored floor a.hi b.hi h) (mirrored floor a.hi b.lo l) (mirrored floor a.lo b.hi h) (mirrored floor a.lo b.lo l) in
    let up = greatest_reversed _ _ _ _ _ _ _ _ (mirrored ceiling a.hi b.hi h) (mirrored ceiling a.hi b.lo l) (mirrored ceiling a.lo b.hi h) (mirrored ceiling a.lo b.lo l) in
    ap (λ (z : ℤ). with_ends z (of_ends greatest c (interval_negation a) (interval_negation b))) down ∙ ap (with_ends (of_ends least f a b)) up
