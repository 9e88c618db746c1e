-- How long numbers are.
use Rattle.std.proofs.Common.{ℕ, ◌*◌, ◌/◌, ◌%◌, ◌<◌, ◌≤◌, ◌^◌, length, decimal, arith, lit<}
use Rattle.std.proofs.lemmas.Fmt.{length-decimal-le_wide}
use Rattle.std.proofs.Math.Nat.{mod-lt, div-le_of_le-mul}

-- the places after the point have at most 12 digits
pub twelve_digits : (n : ℕ) → length (decimal (n % 10 ^ 12)) ≤ 12
twelve_digits n =
    let low : n % 10 ^ 12 < 10 ^ 12 = mod-lt n (lit< tt) in
    length-decimal-le_wide 12 (n % 10 ^ 12) (lit< tt) low (omega (arith, low))

-- the whole part of a magnitude up to 2 * 10^19 has at most 8
pub eight_digits : (n : ℕ) → n ≤ 2 * 10 ^ 19 → length (decimal (n / 10 ^ 12)) ≤ 8
eight_digits n h =
    let whole : n / 10 ^ 12 < 10 ^ 8 = omega (arith, div-le_of_le-mul (10 ^ 12) {m = n} {n = 2 * 10 ^ 7} (omega arith)) in
    length-decimal-le_wide 8 (n / 10 ^ 12) (lit< tt) whole (omega arith)
