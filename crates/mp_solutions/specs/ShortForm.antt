-- What a model has that is another one, its source, with long leads and lags replaced by auxiliary variables.
use Rattle.std.specs.Prelude.{◌≡◌, ◌↔◌, ℕ, pos, ◌+◌, ◌≤◌, List, ◌++◌, map, take, drop, length, slice_get, Some}
use Rattle.std.specs.List.{AllByRecursion, Contains}
use Rattle.mp_semantics.specs.Term.{Term}
use Rattle.mp_semantics.specs.Value.{Environment, val}
use Rattle.mp_semantics.specs.Model.{Model, Equation, Regime}
use Rattle.mp_semantics.specs.Solves.{Boundary, Path, environment, Solves, IsSolution}
use Rattle.mp_solutions.specs.Leaves.{AllModelLeaves}
use Rattle.mp_solutions.specs.Auxiliaries.{Auxiliary, auxiliaries_of, auxiliary_name, IsNeeded}
use Rattle.mp_solutions.specs.Extension.{source_environment, extended_boundary, HasShiftedValues}
use Rattle.mp_solutions.specs.Laws.{IsShort, IsInOrder, tags, no_tags, ReadsOwnPart}

-- each variable has, each way, an auxiliary for each number of periods from 1 on that is less than its greatest shift, and there are no others; those of earlier variables come first, leads before lags, and nearer ones before further ones
pub record HasAuxiliaries (source : Model) : Type 0 where
  pub needed : (a : Auxiliary) → Contains (auxiliaries_of source) a ↔ IsNeeded source a
  pub order : IsInOrder (auxiliaries_of source)

-- the source's equations come first, with their tags, and those behind them have none
pub record HaveTags (source shifted : Model) : Type 0 where
  pub kept : map tags (take (length source.equations) shifted.equations) ≡ map tags source.equations
  pub none : AllByRecursion (λ (e : Equation). tags e ≡ no_tags) (drop (length source.equations) shifted.equations)

-- the model under a path over its variables, within the source's boundary, where each auxiliary has its value at its rim
abbrev pub shifted_environment : Model → Model → ℕ → Boundary → Path → Environment
shifted_environment source shifted T b q = environment shifted T (extended_boundary source T b) q

-- over each horizon, in all regimes, within each boundary, a path solves the model exactly when it solves the source, which reads its own variables alone, and has for each auxiliary the shifted value of its variable
abbrev pub HaveSolutions : Model → Model → Type 0
HaveSolutions source shifted = (T : ℕ) (R : List Regime) (b : Boundary) (q : Path)
    → Solves shifted T R (shifted_environment source shifted T b q) ↔ (IsSolution source T R b q × HasShiftedValues source T b q)

-- a side is worth in a period what that of the source is, or both are worth nothing
abbrev pub IsWorth : Model → Model → ℕ → Boundary → Path → ℕ → Term → Term → Type 0
IsWorth source shifted T b q t side own =
    val side (shifted_environment source shifted T b q) (pos t) ≡ val own (source_environment source T b q) (pos t)

-- so are both sides of the equations at one place, in each period, where the path has the shifted values
abbrev pub HaveSides : Model → Model → Type 0
HaveSides source shifted = (T : ℕ) (b : Boundary) (q : Path) → HasShiftedValues source T b q → (t : ℕ) → 1 ≤ t → t ≤ T
    → (i : ℕ) (e f : Equation) → slice_get source.equations i ≡ Some e → slice_get shifted.equations i ≡ Some f
    → IsWorth source shifted T b q t f.left e.left × IsWorth source shifted T b q t f.right e.right

-- it has the source's names, and behind them those of the auxiliaries; its exogenous names, parameters and constraints; its equations with their tags, and behind them one for each auxiliary; no endogenous shift beyond one; and the source's solutions, with the same values of both sides
pub record IsShortForm (source shifted : Model) : Type 0 where
  pub auxiliaries : HasAuxiliaries source
  pub names : shifted.endogenous_names ≡ source.endogenous_names ++ map (auxiliary_name source.endogenous_names) (auxiliaries_of source)
  pub exogenous_names : shifted.exogenous_names ≡ source.exogenous_names
  pub parameters : shifted.parameters ≡ source.parameters
  pub constraints : shifted.constraints ≡ source.constraints
  pub equations : length shifted.equations ≡ length source.equations + length (auxiliaries_of source)
  pub tags : HaveTags source shifted
  pub short : AllModelLeaves IsShort shifted
  pub unchanged : AllModelLeaves IsShort source → shifted ≡ source
  pub solutions : HaveSolutions source shifted
  pub own_part : ReadsOwnPart source
  pub sides : HaveSides source shifted
