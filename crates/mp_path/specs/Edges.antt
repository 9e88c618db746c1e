-- What stands beside a path.
use Rattle.std.specs.Prelude.{ℕ, ℤ, pos, negsuc, ◌+◌, ◌-◌, ◌*◌, List, slice_get, Option, None, if◌then◌else◌, nat_le, refl}
use Rattle.std.specs.Coded.{Coded, code_by, coded×, coded_ℕ, coded_ℤ, coded_list}
use Rattle.mp_rational.specs.Fraction.{Fraction, ratio_of}
use Rattle.mp_rational.specs.Lowest.{numerator, denominator}
use Rattle.mp_rational.proofs.Lowest.{ratio_of-parts}
use Rattle.mp_semantics.specs.Term.{Variable, endogenous, exogenous}
use Rattle.mp_semantics.specs.Solves.{Edge, is_inside, is_near}

-- the values of parameters; of each endogenous variable in turn the 25 up to period 0 and the 24 behind the horizon; and
-- of each exogenous variable in turn those of all periods from -24 on
pub record Edges : Type 0 where
  pub periods : ℕ
  pub parameters : List Fraction
  pub endogenous : List Fraction
  pub exogenous : List Fraction

-- a fraction is its numerator and denominator
abbrev pub fraction_code : Coded Fraction
fraction_code =
    code_by (ℤ × ℕ) (coded× coded_ℤ coded_ℕ) (λ x. (numerator x, denominator x)) (λ p. ratio_of p.0 p.1) ratio_of-parts

-- edges are their parts
abbrev pub edges_code : Coded Edges
edges_code =
    code_by (ℕ × (List Fraction × (List Fraction × List Fraction)))
    (coded× coded_ℕ (coded× (coded_list fraction_code) (coded× (coded_list fraction_code) (coded_list fraction_code))))
    (λ e. (e.periods, (e.parameters, (e.endogenous, e.exogenous))))
    (λ p. record { periods = p.0; parameters = p.1.0; endogenous = p.1.1.0; exogenous = p.1.1.1 }) (λ _. refl)

-- how many periods stand from -24 on before a period
abbrev pub periods_to : ℤ → ℕ
periods_to (pos t) = t + 24
periods_to (negsuc k) = 23 - k

-- the same without those of the horizon
abbrev pub outside_to : ℕ → ℤ → ℕ
outside_to T t = if nat_le (periods_to t) 24 then (periods_to t) else (periods_to t - T)

-- what these lists have for a variable in a period near the horizon
abbrev pub listed_near : ℕ → List Fraction → List Fraction → Variable → ℤ → Option Fraction
listed_near T endo exo (endogenous v) t = if is_inside T t then None else (slice_get endo (v * 49 + outside_to T t))
listed_near T endo exo (exogenous v) t = slice_get exo (v * (T + 49) + periods_to t)

-- what they have in any: values of the periods from -24 to 24 behind the last one, of endogenous variables outside the horizon
abbrev pub listed_edge : ℕ → List Fraction → List Fraction → Edge
listed_edge T endo exo x t = if is_near T t then (listed_near T endo exo x t) else None

-- what the edges have for a variable in a period, if anything
abbrev pub edge_of : Edges → Edge
edge_of b x t = listed_edge b.periods b.endogenous b.exogenous x t

-- what they have for a parameter, by its place
abbrev pub parameter_of : Edges → ℕ → Option Fraction
parameter_of b p = slice_get b.parameters p
