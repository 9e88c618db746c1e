-- The periods of a horizon, and one period past it either way.
use Rattle.std.proofs.Common.{◌≡◌, ℕ, suc, zero, ℤ, pos, negsuc, ◌+◌, ◌<◌, ◌≤◌, ◌+ℤ◌, true, false, refl, ap, arith, inl, inr, ◌⊎◌}
use Rattle.std.proofs.lemmas.Int.{ints}
use Rattle.std.proofs.lemmas.Bool.{cases_lt, lt-ltb, le-ltb}
use Rattle.std.specs.Ordering.{int_eq}
use Rattle.std.proofs.lemmas.Bool.Decides.{Decides-int_eq}
use Rattle.mp_semantics.specs.Solves.{is_inside}
use Rattle.mp_solutions.specs.Auxiliaries.{Direction, lead, lag, shift_by}
use Rattle.mp_solutions.specs.Extension.{rim}

pub within : (T t : ℕ) → 1 ≤ t → t ≤ T → is_inside T (pos t) ≡ true
within T zero l h = absurd (omega arith)
within T (suc t) l h = lt-ltb t T (omega arith)

past : (T t : ℕ) → T < t → is_inside T (pos t) ≡ false
past T zero h = absurd (omega arith)
past T (suc t) h = le-ltb t T (omega arith)

pub at_rim : (T : ℕ) (d : Direction) → is_inside T (rim T d) ≡ false
at_rim T lead = past T (T + 1) (omega arith)
at_rim T lag = refl

pub past_rim : (T : ℕ) (d : Direction) (k : ℕ) → is_inside T (rim T d +ℤ shift_by d (suc k)) ≡ false
past_rim T lead k = past T (T + 1 + suc k) (omega arith)
past_rim T lag k = let e : pos 0 +ℤ negsuc k ≡ negsuc k = omega (arith, ints) in ap (is_inside T) e

pub same_period : (s : ℤ) → int_eq s s ≡ true
same_period s = (Decides-int_eq s s).1 refl

pub stay : (s : ℤ) (d : Direction) → s +ℤ shift_by d zero ≡ s
stay s lead = omega (arith, ints)
stay s lag = omega (arith, ints)

pub turn : (s : ℤ) (d : Direction) (k : ℕ) → (s +ℤ shift_by d 1) +ℤ shift_by d k ≡ s +ℤ shift_by d (suc k)
turn s lead k = omega (arith, ints)
turn s lag zero = omega (arith, ints)
turn s lag (suc k) = omega (arith, ints)

-- in the horizon, or one past it
abbrev pub Reached : ℕ → Direction → ℤ → Type 0
Reached T d s = ((t : ℕ) × (s ≡ pos t) × (1 ≤ t) × (t ≤ T)) ⊎ (s ≡ rim T d)

pub reached : (T : ℕ) (d : Direction) (t : ℕ) → 1 ≤ t → t ≤ T → Reached T d (pos t +ℤ shift_by d 1)
reached T lead t l h = elim (cases_lt t T) [
  | inl m ↦ inl (t + 1, refl, omega arith, omega arith)
  | inr m ↦ let e : t + 1 ≡ T + 1 = omega arith in inr (ap pos e)
]
reached T lag zero l h = absurd (omega arith)
reached T lag (suc zero) l h = inr (omega (arith, ints))
reached T lag (suc (suc t)) l h = inl (suc t, omega (arith, ints), omega arith, omega arith)
