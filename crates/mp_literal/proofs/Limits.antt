-- Numbers within the limit, and beyond it.
use Rattle.std.proofs.Common.{◌≡◌, ℕ, ◌+◌, ◌-◌, ◌*◌, ◌^◌, ◌<◌, ◌≤◌, List, [], ◌∷◌, length, get_or, drop, fold, Bool, true, false, cond, nat_le, Some, None, sym, ap, ◌∙◌, arith}
use Rattle.std.proofs.lemmas.Bool.Decides.{nat_tests}
use Rattle.std.proofs.lemmas.Grind.{pow_more}
use Rattle.std.proofs.lemmas.List.{drop_more}
use Rattle.std.proofs.Math.Nat.{one-le-pow, mul-le-mul_left}
use Rattle.mp_tokens.specs.Literals.{with_digit}
use Rattle.mp_literal.specs.Accepted.{up_to_limit}

pub within_limit : (n : ℕ) → n ≤ 10 ^ 37 → Some n ≡ up_to_limit n
within_limit n le = grind (arith, nat_tests)

pub beyond_limit : (n : ℕ) → 10 ^ 37 < n → None ≡ up_to_limit n
beyond_limit n lt = grind (arith, nat_tests)

-- more digits make no number less
pub fold-ge : (n : ℕ) (digits : List ℕ) → n ≤ fold with_digit n digits
fold-ge n [] = omega arith
fold-ge n (d ∷ ds) = omega (arith, fold-ge (with_digit n d) ds)

-- nor does a power of ten
pub times_power-ge : (n k : ℕ) → n ≤ n * 10 ^ k
times_power-ge n k = omega (arith, mul-le-mul_left n (one-le-pow k 10 (omega arith)))

pub times_power-more : (n p c : ℕ) → c < p → n * 10 * 10 ^ (p - (c + 1)) ≡ n * 10 ^ (p - c)
times_power-more n p c lt =
    let k : p - (c + 1) + 1 ≡ p - c = omega arith in
    let e : n * 10 * 10 ^ (p - (c + 1)) ≡ n * (10 ^ (p - (c + 1)) * 10) = omega arith in
    e ∙ ap (λ x. n * x) (sym (pow_more 10 (p - (c + 1)))) ∙ ap (λ i. n * 10 ^ i) k

pub limit-None : (n : ℕ) → None ≡ up_to_limit n → 10 ^ 37 < n
limit-None n e = grind (arith, nat_tests)

pub limit-Some : (n m : ℕ) → Some m ≡ up_to_limit n → m ≡ n
limit-Some n m e = by (nat_le n (10 ^ 37)) e
  where
    by : (t : Bool) → Some m ≡ cond t (Some n) None → m ≡ n
    by true h = cc
    by false h = cc

-- a digit that takes the number beyond the limit
pub beyond-digit : (n i total : ℕ) (digits : List ℕ) → i < length digits → fold with_digit n (drop i digits) ≡ total → 10 ^ 37 < with_digit n (get_or digits i 0) → None ≡ up_to_limit total
beyond-digit n i total digits lt told far =
    let more : fold with_digit (with_digit n (get_or digits i 0)) (drop (i + 1) digits) ≡ total = ap (fold with_digit n) (sym (drop_more digits i 0 lt)) ∙ told in
    beyond_limit total (omega (arith, fold-ge (with_digit n (get_or digits i 0)) (drop (i + 1) digits)))

-- a turn that takes the number beyond the limit
pub beyond-turn : (n p c total : ℕ) → c < p → n * 10 ^ (p - c) ≡ total → 10 ^ 37 < n * 10 → None ≡ up_to_limit total
beyond-turn n p c total lt told far =
    beyond_limit total (omega (arith, times_power-ge (n * 10) (p - (c + 1)), times_power-more n p c lt))
