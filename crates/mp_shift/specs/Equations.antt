-- The equations of auxiliaries by their places.
use Rattle.std.specs.Prelude.{◌≡◌, ℕ, suc, pos, ◌-◌, ◌==◌, if◌then◌else◌, List, [], ◌∷◌, ◌++◌, ◌<◌, map, length}
use Rattle.std.specs.List.{AllByRecursion}
use Rattle.mp_semantics.specs.Term.{endogenous, variable, leaf, Term}
use Rattle.mp_semantics.specs.Model.{Equation}
use Rattle.mp_values.specs.ModelOf.{equation}
use Rattle.mp_graph.specs.Shared.{Shared, term_at}
use Rattle.mp_model_data.specs.Shown.{Sides, IsWithin, equation_in}
use Rattle.mp_solutions.specs.Auxiliaries.{Auxiliary, shift_by}
use Rattle.mp_solutions.specs.Transformed.{short, short_equation}
use Rattle.mp_shift.specs.declared.first.First.{First}
use Rattle.mp_shift.specs.Called.{Called, with_names}
use Rattle.mp_shift.specs.Stand.{stand_by, ReadsNames}

-- what stands before an auxiliary of this place in its chain
abbrev pub place_before : ℕ → Auxiliary → ℕ
place_before own a = if a.index == 0 then a.place else own - 1

-- the equation of an auxiliary of this place
abbrev pub own_equation : ℕ → Auxiliary → Equation
own_equation own a =
    equation (leaf (variable (endogenous own) (pos 0))) (leaf (variable (endogenous (place_before own a)) (shift_by a.direction 1)))

-- those of auxiliaries from this place on
abbrev pub own_equations : ℕ → List Auxiliary → List Equation
own_equations own [] = []
own_equations own (a ∷ xs) = own_equation own a ∷ own_equations (suc own) xs

-- a table of so many numbers has a place for each side
pub record HasRoom (room : ℕ) (x : Sides) : Type 0 where
  pub left : x.left < room
  pub right : x.right < room

-- the short forms of both sides read endogenous variables of these names, where the stand-ins of each variable begin at these places
pub record HasStandIns (names : List (List ℕ)) (ts : List Term) (fs : List First) (x : Sides) : Type 0 where
  pub left : ReadsNames names (short (stand_by fs) (term_at ts x.left))
  pub right : ReadsNames names (short (stand_by fs) (term_at ts x.right))

-- these are the equations of a source in short form, and those of its auxiliaries, in a graph that has their names and all that it had
pub record AreBuilt (old new : Shared) (source : List Sides) (xs : List Called) (fs : List First) (all : List Sides) : Type 0 where
  pub names : new.names ≡ with_names xs old.names
  pub equations : map (equation_in new.terms) all ≡ map (short_equation (stand_by fs)) (map (equation_in old.terms) source) ++ own_equations (length old.names.endogenous) (map (λ (x : Called). x.auxiliary) xs)
  pub kept : map (equation_in new.terms) source ≡ map (equation_in old.terms) source
  pub within : AllByRecursion (IsWithin new) all
  pub kept_within : AllByRecursion (IsWithin new) source
