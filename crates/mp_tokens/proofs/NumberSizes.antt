-- The longest number at the front of a text is no longer than the text.
use Rattle.std.proofs.Common.{ℕ, zero, suc, ◌+◌, ◌≤◌, List, [], ◌∷◌, length, drop, cond, Bool, true, false, ◌&&◌, ◌||◌, ◌==◌, nat_lt, arith, length-drop}
use Rattle.std.proofs.lemmas.List.Sums.{prefix_len-le-length}
use Rattle.std.specs.Char.{is_ascii_digit}
use Rattle.mp_tokens.specs.Tokens.{digits_length, fraction_length, is_exponent, sign_length, scale_length, exponent_length, mantissa_length, number_length}

-- the sign and the digits after a letter
abbrev pub scale_after : List ℕ → ℕ
scale_after bs = scale_length (sign_length bs) (digits_length (drop (sign_length bs) bs))

-- the number with a mantissa of this length
abbrev pub number_by : Bool → ℕ → List ℕ → ℕ
number_by none m bs = cond none 0 (m + exponent_length (drop m bs))

fraction_le : (t : Bool) (n k : ℕ) → n ≤ k → cond t (1 + n) 0 ≤ suc k
fraction_le true n k le = omega arith
fraction_le false n k le = omega arith

fraction-le : (before : ℕ) (bs : List ℕ) → fraction_length before bs ≤ length bs
fraction-le before [] = omega arith
fraction-le before (b ∷ bs) =
    fraction_le (b == 46 && nat_lt 0 (before + digits_length bs)) (digits_length bs) (length bs) (prefix_len-le-length is_ascii_digit bs)

scale_le : (sign n k : ℕ) → sign + n ≤ k → scale_length sign n ≤ suc k
scale_le sign zero k le = omega arith
scale_le sign (suc n) k le = omega arith

scale-le : (bs : List ℕ) → scale_after bs ≤ suc (length bs)
scale-le [] = omega arith
scale-le (c ∷ bs) = by (c == 43 || c == 45)
  where
    by : (t : Bool) → scale_length (cond t 1 0) (digits_length (drop (cond t 1 0) (c ∷ bs))) ≤ suc (suc (length bs))
    by true =
        scale_le 1 (digits_length bs) (suc (length bs)) (omega (arith, prefix_len-le-length is_ascii_digit bs))
    by false =
        scale_le 0 (digits_length (c ∷ bs)) (suc (length bs)) (omega (arith, prefix_len-le-length is_ascii_digit (c ∷ bs)))

exponent-le : (bs : List ℕ) → exponent_length bs ≤ length bs
exponent-le [] = omega arith
exponent-le (b ∷ bs) = by (is_exponent b)
  where
    by : (t : Bool) → cond t (scale_after bs) 0 ≤ suc (length bs)
    by true = scale-le bs
    by false = omega arith

pub mantissa-le : (bs : List ℕ) → mantissa_length bs ≤ length bs
mantissa-le bs =
    let d = digits_length bs in
    let fraction : fraction_length d (drop d bs) ≤ length (drop d bs) = fraction-le d (drop d bs) in
    omega (arith, fraction, length-drop d bs, prefix_len-le-length is_ascii_digit bs)

pub number-le : (bs : List ℕ) → number_length bs ≤ length bs
number-le bs = by (m == 0)
  where
    m : ℕ
    m = mantissa_length bs

    by : (t : Bool) → number_by t m bs ≤ length bs
    by true = omega arith
    by false = omega (arith, mantissa-le bs, exponent-le (drop m bs), length-drop m bs)
