-- Derivatives as the definitions see them.
use Rattle.std.specs.Prelude.{ℕ, ℤ, List, refl}
use Rattle.std.specs.Coded.{Coded, code_by, coded×, coded_ℕ, coded_ℤ, coded_list}
use Rattle.mp_derivatives.specs.Records.{Derivation}
use Rattle.mp_report.specs.declared.list.Derivative.{Derivative}

abbrev pub derivation_of : Derivative → Derivation
derivation_of d = record { equation = d.equation; variable = d.variable.now; shift = d.shift; text = d.text }

abbrev pub derivation_code : Coded Derivation
derivation_code =
    code_by (ℕ × (List ℕ × (ℤ × List ℕ))) (coded× coded_ℕ (coded× (coded_list coded_ℕ) (coded× coded_ℤ (coded_list coded_ℕ)))) (λ d. (d.equation, (d.variable, (d.shift, d.text)))) (λ p. record { equation = p.0; variable = p.1.0; shift = p.1.1.0; text = p.1.1.1 }) (λ _. refl)
