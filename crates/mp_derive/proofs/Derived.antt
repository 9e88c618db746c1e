-- The derivatives of the residuals of equations are those of the equations.
use Rattle.std.proofs.Common.{◌≡◌, ℕ, suc, ◌<◌, List, [], ◌∷◌, ◌++◌, length, map, refl, ap, sym, ◌∙◌, subst}
use Rattle.std.specs.List.{AllByRecursion, sum_by}
use Rattle.mp_semantics.specs.Term.{Term}
use Rattle.mp_semantics.specs.Model.{Equation}
use Rattle.mp_values.specs.Names.{Names}
use Rattle.mp_graph.specs.Shared.{Shared, Keeps, term_at}
use Rattle.mp_slopes.specs.Derivative.{HasDerivative}
use Rattle.mp_slopes.specs.Places.{Place}
use Rattle.mp_derivatives.specs.Records.{Derivation}
use Rattle.mp_derivatives.specs.Derivatives.{residual, derivation, derivatives_of, derivatives_from, operations}
use Rattle.mp_derivatives.specs.Derived.{SidesHaveDerivatives}
use Rattle.mp_derive.specs.Counted.{all_operations}
use Rattle.mp_derive.specs.Listed.{derivative_by, derivatives_by}
use Rattle.mp_derive.proofs.Counts.{operations_are}

from_residuals : (i : ℕ) (es : List Equation) → derivatives_from i es ≡ derivatives_by i (map residual es)
from_residuals i [] = refl
from_residuals i (e ∷ es) = ap (λ l. derivatives_of i (residual e) ++ l) (from_residuals (suc i) es)

residuals_have : (es : List Equation) → AllByRecursion SidesHaveDerivatives es → AllByRecursion HasDerivative (map residual es)
residuals_have [] h = tt
residuals_have (e ∷ es) h = (h.0, residuals_have es h.1)

-- these terms are the residuals of the equations
module _ (es : List Equation) (ts : List Term) (are : ts ≡ map residual es) where
  pub have : AllByRecursion SidesHaveDerivatives es → AllByRecursion HasDerivative ts
  have h = subst (AllByRecursion HasDerivative) (sym are) (residuals_have es h)

  pub counted : sum_by all_operations ts ≡ operations (derivatives_from 1 es)
  counted = ap (sum_by all_operations) are ∙ sym (operations_are 1 (map residual es)) ∙ ap operations (sym (from_residuals 1 es))

  pub all_are : (old new : Names) (ds : List Derivation) → new ≡ old → ds ≡ map (derivation new) (derivatives_by 1 ts) → ds ≡ map (derivation old) (derivatives_from 1 es)
  all_are old new ds names all =
      all
      ∙ ap (λ (ns : Names). map (derivation ns) (derivatives_by 1 ts)) names
      ∙ ap (λ l. map (derivation old) (derivatives_by 1 l)) are
      ∙ ap (map (derivation old)) (sym (from_residuals 1 es))

-- a derivative by nodes that keep their terms
pub derivation_kept : (old new : Shared) (i : ℕ) (root : ℕ) (p : Place) → Keeps old new → root < length old.terms → derivation new.names (derivative_by i (term_at new.terms root) p) ≡ derivation old.names (derivative_by i (term_at old.terms root) p)
derivation_kept old new i root p k within =
    ap (λ (ns : Names). derivation ns (derivative_by i (term_at new.terms root) p)) k.names ∙ ap (λ (t : Term). derivation old.names (derivative_by i t p)) (k.each root within)
