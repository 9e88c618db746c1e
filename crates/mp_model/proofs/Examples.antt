-- The example of values, step by step.
use Rattle.std.proofs.Common.{◌≡◌, ◌↔◌, ℕ, ◌*◌, ◌<◌, ℤ, pos, ◌%◌, ◌+ℤ◌, ◌*ℤ◌, List, [], ◌∷◌, cond, ◌==◌, Option, Some, None, Ok, IsTrue, IsFalse, codes, refl, ap, ◌∙◌, arith}
use Rattle.std.specs.Int.{IsGcd}
use Rattle.std.specs.Int.RustNames.{unsigned_abs}
use Rattle.std.proofs.lemmas.Bool.{false_from_ne_true}
use Rattle.std.proofs.lemmas.Nat.Gcd.{IsGcd-from_mod, IsGcd-from_zero}
use Rattle.mp_rational.specs.Fraction.{Fraction, add, mul, div, is_zero, ratio_of}
use Rattle.mp_rational.specs.Lowest.{numerator, denominator}
use Rattle.mp_tokens.specs.Literals.{decimal_of}
use Rattle.mp_syntax.specs.declared.operator.Operator.TheVariants as o
use Rattle.mp_syntax.specs.Syntax.{Number, Binary}
use Rattle.mp_semantics.specs.Term as term
use Rattle.mp_semantics.specs.Term.{Term, endogenous, exogenous, variable, plus, leaf, power_of}
use Rattle.mp_semantics.specs.Model as m
use Rattle.mp_values.specs.Table.{Table}
use Rattle.mp_values.specs.Names as v
use Rattle.mp_values.specs.Limits.{Folded, ◌>>=◌, answer, exact, exponent_or, whole_of, defined}
use Rattle.mp_values.specs.Values.{value_by, values_by}
use Rattle.mp_values.specs.ModelOf.{equation, equations_by, parameters_given, model_with, model_of}
use Rattle.mp_canonical.specs.Terms.{canonical_whole, canonical_value}
use Rattle.mp_canonical.specs.Numbers.{decimal_digits}
use Rattle.mp_canonical.proofs.Results.{then}
use Rattle.mp_model.specs.Example.{half, one_more, values_file, doubled, values_model}

-- the laws of fractions that this needs
pub record Ratios : Type 0 where
  pub only_numerator : (n : ℤ) (d : ℕ) → 0 < d → IsGcd (unsigned_abs n) d 1 → numerator (ratio_of n d) ≡ n
  pub only_denominator : (n : ℤ) (d : ℕ) → 0 < d → IsGcd (unsigned_abs n) d 1 → denominator (ratio_of n d) ≡ d
  pub sum : (n m : ℤ) (d e : ℕ) → 0 < d → 0 < e → add (ratio_of n d) (ratio_of m e) ≡ ratio_of ((n *ℤ pos e) +ℤ (m *ℤ pos d)) (d * e)
  pub product : (n m : ℤ) (d e : ℕ) → 0 < d → 0 < e → mul (ratio_of n d) (ratio_of m e) ≡ ratio_of (n *ℤ m) (d * e)
  pub equal : (n m : ℤ) (d e : ℕ) → 0 < d → 0 < e → (ratio_of n d ≡ ratio_of m e) ↔ (n *ℤ pos e ≡ m *ℤ pos d)
  pub zero_is : (n : ℤ) (d : ℕ) → 0 < d → IsTrue (is_zero (ratio_of n d)) ↔ (n ≡ pos 0)
  pub quotient : (x y q : Fraction) → IsFalse (is_zero y) → mul q y ≡ x → div x y ≡ Some q

-- the parameter with a value
abbrev with_a : Option Fraction → Table
with_a v = (codes "a", v) ∷ []

first_value : Ratios → value_by exact (with_a None) half ≡ Ok (ratio_of (pos 1) 2)
unfolding decimal_of
first_value laws =
    ap (defined 36 (ratio_of (pos 1) 1) (ratio_of (pos 2) 1)) (laws.quotient (ratio_of (pos 1) 1) (ratio_of (pos 2) 1) (ratio_of (pos 1) 2)
    (false_from_ne_true (is_zero (ratio_of (pos 2) 1)) (λ z. let e = (laws.zero_is (pos 2) 1 (omega arith)).0 z in cc))
    (laws.product (pos 1) (pos 2) 2 1 (omega arith) (omega arith) ∙ (laws.equal (pos 2) (pos 1) 2 1 (omega arith) (omega arith)).1 refl))

last_value : Ratios → value_by exact (with_a (Some (ratio_of (pos 1) 2))) one_more ≡ Ok (ratio_of (pos 3) 2)
unfolding decimal_of
last_value laws = ap Ok (laws.sum (pos 1) (pos 1) 2 1 (omega arith) (omega arith))

values : Ratios → values_by exact values_file ≡ Ok (with_a (Some (ratio_of (pos 3) 2)))
values laws =
    then (value_by exact (with_a None) half) (ratio_of (pos 1) 2) (λ x. value_by exact (with_a (Some x)) one_more >>= λ y. Ok (with_a (Some y))) (first_value laws)
    ∙ then (value_by exact (with_a (Some (ratio_of (pos 1) 2))) one_more) (ratio_of (pos 3) 2) (λ y. Ok (with_a (Some y))) (last_value laws)

lowest : (n : ℕ) → IsGcd n 1 1
lowest n =
    let e : n % 1 ≡ 0 = omega arith in
    IsGcd-from_mod n 1 1 (IsGcd-from_zero 1 (n % 1) e)

-- what the exponent is worth
abbrev three : Fraction
three = mul (ratio_of (pos 3) 2) (ratio_of (pos 2) 1)

exponent : Ratios → exponent_or 69 three (whole_of three) ≡ Ok (pos 3)
exponent laws =
    ap (λ x. exponent_or 69 three (whole_of x)) (laws.product (pos 3) (pos 2) 2 1 (omega arith) (omega arith) ∙ (laws.equal (pos 6) (pos 3) 2 1 (omega arith) (omega arith)).1 refl)
    ∙ ap (λ d. exponent_or 69 three (cond (d == 1) (Some (numerator (ratio_of (pos 3) 1))) None)) (laws.only_denominator (pos 3) 1 (omega arith) (lowest 3))
    ∙ ap (λ n. exponent_or 69 three (Some n)) (laws.only_numerator (pos 3) 1 (omega arith) (lowest 3))

-- the equations, where the exponent is this
equations : Folded ℤ → Folded (List m.Equation)
equations u =
    (((u >>= λ k. Ok (power_of doubled k)) >>= λ x. Ok (term.binary plus x (leaf (variable (exogenous 0) (pos 0))))) >>= λ r. Ok (equation (leaf (variable (endogenous 0) (pos 0))) r)) >>= λ y. Ok (y ∷ [])

pub values_means : Ratios → model_of values_file ≡ Some values_model
unfolding decimal_of equations
values_means laws =
    let ns = v.names_of values_file in
    let t = with_a (Some (ratio_of (pos 3) 2)) in
    ap answer (then (values_by exact values_file) t (λ t. parameters_given t >>= λ ps. equations_by exact values_file t >>= λ es. Ok (model_with ns ps es)) (values laws)
    ∙ ap (λ u. equations u >>= λ es. Ok (model_with ns (record { name = codes "a"; value = ratio_of (pos 3) 2 } ∷ []) es)) (exponent laws))

pub three_halves : Ratios → canonical_value (ratio_of (pos 3) 2) ≡ Binary o.Over (Number (codes "3") 0) 0 (Number (codes "2") 0)
three_halves laws =
    let g : IsGcd 3 2 1 = IsGcd-from_mod 3 2 1 (lowest 2) in
    let n = numerator (ratio_of (pos 3) 2) in
    ap (λ d. cond (d == 1) (canonical_whole n) (Binary o.Over (canonical_whole n) 0 (Number (decimal_digits d) 0))) (laws.only_denominator (pos 3) 2 (omega arith) g)
    ∙ ap (λ n. Binary o.Over (canonical_whole n) 0 (Number (decimal_digits 2) 0)) (laws.only_numerator (pos 3) 2 (omega arith) g)
