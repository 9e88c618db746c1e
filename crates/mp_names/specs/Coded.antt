-- How values with fractions are told apart.
use Rattle.std.specs.Prelude.{ℕ, ℤ}
use Rattle.std.specs.Coded.{Coded, code_by, coded×, coded_ℕ, coded_ℤ, coded_list, coded_option}
use Rattle.mp_rational.specs.Fraction.{Fraction, ratio_of}
use Rattle.mp_rational.specs.Lowest.{numerator, denominator}
use Rattle.mp_rational.proofs.Lowest.{ratio_of-parts}
use Rattle.mp_values.specs.Table.{Table}

-- a fraction is its numerator and denominator
abbrev pub fraction_code : Coded Fraction
fraction_code =
    code_by (ℤ × ℕ) (coded× coded_ℤ coded_ℕ) (λ x. (numerator x, denominator x)) (λ p. ratio_of p.0 p.1) ratio_of-parts

abbrev pub table_code : Coded Table
table_code = coded_list (coded× (coded_list coded_ℕ) (coded_option fraction_code))
