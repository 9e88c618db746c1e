-- The number of the digits that are kept.
use Rattle.std.proofs.Common.{◌≡◌, ℕ, ◌+◌, ◌-◌, ◌≤◌, pos, ◌+ℤ◌, ◌-ℤ◌, List, ◌++◌, fold, length, None, sym, ap, ◌∙◌, arith}
use Rattle.std.proofs.lemmas.List.Sums.{fold-append}
use Rattle.mp_tokens.specs.Literals.{decimal_by, number_of, signed_number, with_digit, without_end_zeros}
use Rattle.mp_literal.specs.Accepted.{accepted, decimal_of_parts, up_to_limit}
use Rattle.mp_literal.proofs.EndZeros.{zeros-gone}
use Rattle.mp_literal.proofs.Limits.{fold-ge, limit-None}
use Rattle.mp_literal.proofs.Scales.{refused-number}

-- the digits that are kept, in two pieces
pub record Kept (ws fs w f : List ℕ) : Type 0 where
  pub kept : w ++ f ≡ without_end_zeros (ws ++ fs)
  pub whole : length w ≤ length ws
  pub fraction : length f ≤ length fs

number-kept : (ws fs w f : List ℕ) → Kept ws fs w f → fold with_digit (fold with_digit 0 w) f ≡ number_of (without_end_zeros (ws ++ fs))
number-kept ws fs w f k = sym (fold-append with_digit 0 w f) ∙ ap number_of k.kept

pub refused-whole : (ws fs w f e : List ℕ) → Kept ws fs w f → None ≡ up_to_limit (fold with_digit 0 w) → accepted (decimal_of_parts ws fs e) ≡ None
refused-whole ws fs w f e k far =
    refused-number (number_of (without_end_zeros (ws ++ fs))) _ (omega (arith, number-kept ws fs w f k, fold-ge (fold with_digit 0 w) f, limit-None _ far))

pub refused-kept : (ws fs w f e : List ℕ) (n : ℕ) → Kept ws fs w f → n ≡ fold with_digit 0 w → None ≡ up_to_limit (fold with_digit n f) → accepted (decimal_of_parts ws fs e) ≡ None
refused-kept ws fs w f e n k is far =
    refused-number (number_of (without_end_zeros (ws ++ fs))) _ (omega (arith, number-kept ws fs w f k, ap (λ i. fold with_digit i f) is, limit-None _ far))

pub decimal-kept : (ws fs w f e : List ℕ) (n m z : ℕ) → Kept ws fs w f → n ≡ fold with_digit 0 w → m ≡ fold with_digit n f → z ≡ length ws - length w + (length fs - length f) → decimal_by m (signed_number e +ℤ (pos z -ℤ pos (length fs))) ≡ decimal_of_parts ws fs e
decimal-kept ws fs w f e n m z k whole number zeros =
    ap (λ i. decimal_by i (signed_number e +ℤ (pos z -ℤ pos (length fs)))) (number ∙ ap (λ i. fold with_digit i f) whole ∙ number-kept ws fs w f k)
    ∙ ap (λ i. decimal_by (number_of (without_end_zeros (ws ++ fs))) (signed_number e +ℤ (pos i -ℤ pos (length fs)))) (zeros ∙ zeros-gone ws fs w f k.kept k.whole k.fraction)
