-- The parts of a literal are cut from it.
use Rattle.std.proofs.Common.{◌≡◌, ℕ, suc, ◌+◌, List, take, drop, sym, ap, ◌∙◌, arith}
use Rattle.std.proofs.lemmas.List.{drop-drop, drop-take}
use Rattle.mp_tokens.specs.Tokens.{digits_length, fraction_length, mantissa_length}
use Rattle.mp_tokens.specs.Literals.{decimal_of, fraction_digits, whole_digits}
use Rattle.mp_literal.specs.Accepted.{decimal_of_parts}

-- where the digits before the point end, what follows, and how much of it is the point and its digits
pub record Cut (literal rest : List ℕ) (w p : ℕ) : Type 0 where
  pub whole : w ≡ digits_length literal
  pub after : rest ≡ drop w literal
  pub point : p ≡ fraction_length w rest

mantissa : (literal rest : List ℕ) (w p : ℕ) → Cut literal rest w p → w + p ≡ mantissa_length literal
mantissa literal rest w p cut =
    ap (λ n. w + n) (cut.point ∙ ap (fraction_length w) cut.after) ∙ ap (λ n. n + fraction_length n (drop n literal)) cut.whole

pub fraction-cut : (literal rest : List ℕ) (w p : ℕ) → Cut literal rest w p → drop 1 (take p rest) ≡ fraction_digits literal
fraction-cut literal rest w p cut =
    let e : w + 1 ≡ suc w = omega arith in
    ap (λ l. drop 1 (take p l)) cut.after
    ∙ ap (drop 1) (sym (drop-take w p literal))
    ∙ drop-drop 1 w (take (w + p) literal)
    ∙ ap (λ n. drop n (take (w + p) literal)) e
    ∙ ap (λ n. drop (suc w) (take n literal)) (mantissa literal rest w p cut)
    ∙ ap (λ n. drop (suc n) (take (mantissa_length literal) literal)) cut.whole

pub exponent-cut : (literal rest : List ℕ) (w p : ℕ) → Cut literal rest w p → drop 1 (drop p rest) ≡ drop (suc (mantissa_length literal)) literal
exponent-cut literal rest w p cut =
    let e : w + p + 1 ≡ suc (w + p) = omega arith in
    ap (λ l. drop 1 (drop p l)) cut.after
    ∙ ap (drop 1) (drop-drop p w literal)
    ∙ drop-drop 1 (w + p) literal
    ∙ ap (λ n. drop n literal) (e ∙ ap suc (mantissa literal rest w p cut))

pub decimal_of-parts : (literal w f e : List ℕ) → w ≡ whole_digits literal → f ≡ fraction_digits literal → e ≡ drop (suc (mantissa_length literal)) literal → decimal_of_parts w f e ≡ decimal_of literal
unfolding decimal_of
decimal_of-parts literal w f e whole fraction exponent =
    ap (λ l. decimal_of_parts l f e) whole
    ∙ ap (λ l. decimal_of_parts (whole_digits literal) l e) fraction
    ∙ ap (decimal_of_parts (whole_digits literal) (fraction_digits literal)) exponent
