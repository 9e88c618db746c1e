-- What the records of a model's derivatives say.
use Rattle.std.specs.Prelude.{◌≡◌, ◌↔◌, ℕ, ◌+◌, ℤ, List, map, slice_get, Some}
use Rattle.std.specs.List.{AllByRecursion, Contains}
use Rattle.std.specs.List.Sorted.{IsStrictlySortedBy}
use Rattle.std.specs.Ordering.{nat_cmp, ordering_then}
use Rattle.std.specs.declared.cmp.Ordering.{Ordering}
use Rattle.csv.specs.Reading.{records, default_config}
use Rattle.mp_semantics.specs.Value.{Environment, val}
use Rattle.mp_semantics.specs.Model.{Model, Equation}
use Rattle.mp_slopes.specs.Dual.{Dual, dual}
use Rattle.mp_slopes.specs.Places.{Place, Occurs, place_cmp}
use Rattle.mp_canonical.specs.Printable.{model_names}
use Rattle.mp_derivatives.specs.Meant.{MeansTerm, term_text}
use Rattle.mp_derivatives.specs.Records.{rows}
use Rattle.mp_derivatives.specs.Derivatives.{residual, Derivative, derivation}

-- by equation, then by place
abbrev pub derivative_cmp : Derivative → Derivative → Ordering
derivative_cmp d e = ordering_then (nat_cmp d.equation e.equation) (place_cmp d.place e.place)

-- this equation of the model has this number, from 1
abbrev pub IsNumbered : Model → ℕ → Equation → Type 0
IsNumbered M i e = (n : ℕ) × (i ≡ n + 1) × (slice_get M.equations n ≡ Some e)

-- one of them is of the equation of this number, by this place
abbrev pub HasDerivativeAt : List Derivative → ℕ → Place → Type 0
HasDerivativeAt ds i p = (d : Derivative) × Contains ds d × (d.equation ≡ i) × (d.place ≡ p)

-- the place occurs in the residual of the equation of this number
abbrev pub OccursIn : Model → ℕ → Place → Type 0
OccursIn M i p = (e : Equation) × IsNumbered M i e × Occurs p (residual e)

-- the text of a derivative means it, and where the residual of its equation has a dual number in a period, the derivative is worth its slope then
pub record IsDerivative (M : Model) (d : Derivative) : Type 0 where
  pub e : Equation
  pub numbered : IsNumbered M d.equation e
  pub reads : MeansTerm (model_names M) (term_text (model_names M) d.term) d.term
  pub slope : (env : Environment) (t : ℤ) (x : Dual) → dual (residual e) d.place.x d.place.shift env t ≡ Some x → val d.term env t ≡ Some x.slope

-- these bytes read, as comma-separated values, as a header and records of derivatives of this model: in order, each once, one for each place that occurs in an equation's residual and no other; each text reads back to its derivative, which is worth the dual number's slope wherever that exists
pub record ListsDerivatives (M : Model) (written : List ℕ) : Type 0 where
  pub ds : List Derivative
  pub read : records default_config written ≡ rows (map (derivation (model_names M)) ds)
  pub order : IsStrictlySortedBy derivative_cmp ds
  pub places : (i : ℕ) (p : Place) → HasDerivativeAt ds i p ↔ OccursIn M i p
  pub each : AllByRecursion (IsDerivative M) ds
