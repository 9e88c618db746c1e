-- Laws of the numbers that digits write.
use Rattle.std.proofs.Common.{◌≡◌, ℕ, ◌+◌, ◌-◌, ◌*◌, ◌≤◌, ◌<◌, List, [], ◌∷◌, fold, arith, Some, None, nat_le, if◌then◌else◌}
use Rattle.mp_tokens.specs.Literals.{with_digit, number_of}

-- more digits make no number less
pub digits_grow : (n : ℕ) (ds : List ℕ) → n ≤ fold with_digit n ds
digits_grow n [] = omega arith
digits_grow n (d ∷ ds) = omega (arith, digits_grow (10 * n + (d - 48)) ds)

-- a number that has passed the most stays past it
pub none_past : (n most : ℕ) (ds rest : List ℕ) → most < n → fold with_digit n rest ≡ number_of ds → None ≡ (if nat_le (number_of ds) most then Some (number_of ds) else None)
none_past n most ds rest lt e =
    let over : most < number_of ds = omega (arith, digits_grow n rest) in grind arith
