-- A number with places, by its digits; and the place of a name, by its number from 1.
use Rattle.std.proofs.Common.{◌≡◌, ℕ, zero, suc, ◌+◌, ◌-◌, ◌≤◌, ◌^◌, ◌<◌, List, cond, refl, ap, ◌∙◌, arith}
use Rattle.std.specs.Fmt.{decimal}
use Rattle.mp_canonical.specs.Numbers.{padded, pointed, number_text}
use borrow.Author.Tests.{ne_eqb}
use Rattle.mp_expr.specs.Shown.{place_of}
use Rattle.mp_solutions.proofs.Digits.{decimal_of_any_size}

pub number_with_places : (m s : ℕ) (digits : List ℕ) → m < 2 ^ 128 → (s ≡ 0 → ⊥) → digits ≡ decimal m → pointed s (padded (s + 1) digits) ≡ number_text m s
number_with_places m zero digits small some is = absurd (some refl)
number_with_places m (suc s) digits small some is =
    let next : suc s + 1 ≡ suc (suc s) = omega arith in
    ap (λ n. pointed (suc s) (padded n digits)) next ∙ ap (λ l. pointed (suc s) (padded (suc (suc s)) l)) (is ∙ decimal_of_any_size m small)

pub numbered_place : (n : ℕ) → 1 ≤ n → place_of n ≡ n - 1
numbered_place n h = ap (λ t. cond t 4294967295 (n - 1)) (ne_eqb n 0 (λ e. omega (arith, h)))
