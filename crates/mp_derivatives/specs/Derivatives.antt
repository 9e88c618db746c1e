-- The derivatives of a model: of the difference of both sides of each equation, by each variable and shift that occurs in it.
use Rattle.std.specs.Prelude.{ℕ, suc, ◌+◌, List, [], ◌++◌, ◌∷◌, map}
use Rattle.mp_expr.specs.Size.{count_of}
use Rattle.mp_semantics.specs.Term.{Term, binary, minus}
use Rattle.mp_semantics.specs.Model.{Model, Equation}
use Rattle.mp_slopes.specs.Derivative.{derivative_of}
use Rattle.mp_slopes.specs.Places.{Place, places}
use Rattle.mp_values.specs.Names.{Names}
use Rattle.mp_canonical.specs.Terms.{variable_name}
use Rattle.mp_canonical.specs.Printable.{model_names}
use Rattle.mp_derivatives.specs.Meant.{term_text}
use Rattle.mp_derivatives.specs.Records.{Derivation, records_text}

-- the left side less the right one
abbrev pub residual : Equation → Term
residual e = binary minus e.left e.right

-- the number of an equation, from 1, a place, and the derivative of its residual by that place
pub record Derivative : Type 0 where
  pub equation : ℕ
  pub place : Place
  pub term : Term

-- those of the residual of the equation of this number, in order of places
abbrev pub derivatives_of : ℕ → Term → List Derivative
derivatives_of i F = map (λ (p : Place). record { equation = i; place = p; term = derivative_of F p.x p.shift }) (places F)

-- those of these equations, the first of which has this number
abbrev pub derivatives_from : ℕ → List Equation → List Derivative
derivatives_from i [] = []
derivatives_from i (e ∷ es) = derivatives_of i (residual e) ++ derivatives_from (suc i) es

-- those of a model
abbrev pub derivatives : Model → List Derivative
derivatives M = derivatives_from 1 M.equations

-- how many operations they have together
abbrev pub operations : List Derivative → ℕ
operations [] = 0
operations (d ∷ ds) = count_of d.term + operations ds

-- a derivative as it is recorded
abbrev pub derivation : Names → Derivative → Derivation
derivation ns d = record { equation = d.equation; variable = variable_name ns d.place.x; shift = d.place.shift; text = term_text ns d.term }

-- the records of a model's derivatives
abbrev pub derivations : Model → List Derivation
derivations M = map (derivation (model_names M)) (derivatives M)

-- their text
abbrev pub derivatives_text : Model → List ℕ
derivatives_text M = records_text (derivations M)
