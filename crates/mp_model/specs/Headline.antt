-- A path solves what is written exactly when it solves what was read, and has the shifted values of its variables.
use Rattle.std.specs.Prelude.{◌≡◌, ◌↔◌, ℕ, pos, ◌+◌, ◌≤◌, List, ◌++◌, map, take, drop, length, slice_get, Some, Ok}
use Rattle.std.specs.List.{AllByRecursion, Contains}
use Rattle.mp_tokens.specs.Tokens.{Tok, tokens}
use Rattle.mp_statements.specs.Statements.{Statement}
use Rattle.mp_grammar.specs.Grammar.{ReadsFile}
use Rattle.mp_semantics.specs.Term.{Term}
use Rattle.mp_semantics.specs.Value.{val}
use Rattle.mp_semantics.specs.Model.{Model, Equation, Regime}
use Rattle.mp_semantics.specs.Solves.{Boundary, Path, Solves, IsSolution}
use Rattle.mp_solutions.specs.Leaves.{AllModelLeaves}
use Rattle.mp_solutions.specs.Auxiliaries.{Auxiliary, auxiliaries_of, IsNeeded}
use Rattle.mp_solutions.specs.Transformed.{transformed}
use Rattle.mp_solutions.specs.Extension.{source_environment, extended_environment, HasShiftedValues}
use Rattle.mp_solutions.specs.Laws.{IsShort, IsInOrder, tags, no_tags, ReadsOwnPart}
use Rattle.mp_values.specs.ModelOf.{model_of}
use Rattle.mp_canonical.specs.Printable.{auxiliary_names}

-- each variable has, each way, an auxiliary for each number of periods from 1 on that is less than its greatest shift, and there are no others; those of earlier variables come first, leads before lags, and nearer ones before further ones
pub record HasAuxiliaries (source : Model) : Type 0 where
  pub needed : (a : Auxiliary) → Contains (auxiliaries_of source) a ↔ IsNeeded source a
  pub order : IsInOrder (auxiliaries_of source)

-- the source's equations come first, with their tags, and those behind them have none
pub record HaveTags (source printed : Model) : Type 0 where
  pub kept : map tags (take (length source.equations) printed.equations) ≡ map tags source.equations
  pub none : AllByRecursion (λ (e : Equation). tags e ≡ no_tags) (drop (length source.equations) printed.equations)

-- over each horizon, in all regimes, within each boundary, a path solves the printed model exactly when it solves the source and has for each auxiliary the shifted value of its variable
abbrev pub HaveSolutions : Model → Model → Type 0
HaveSolutions source printed = (T : ℕ) → 1 ≤ T → (R : List Regime) → length R ≡ T → (b : Boundary) (q : Path)
    → Solves printed T R (extended_environment source T b q) ↔ (IsSolution source T R b q × HasShiftedValues source T b q)

-- a printed side is worth in a period what the side of the source is, or both are worth nothing
abbrev pub IsWorth : Model → ℕ → Boundary → Path → ℕ → Term → Term → Type 0
IsWorth source T b q t printed side =
    val printed (extended_environment source T b q) (pos t) ≡ val side (source_environment source T b q) (pos t)

-- so are both sides of the equations at one place, in each period, where the path has the shifted values
abbrev pub HaveSides : Model → Model → Type 0
HaveSides source printed = (T : ℕ) (b : Boundary) (q : Path) → HasShiftedValues source T b q → (t : ℕ) → 1 ≤ t → t ≤ T
    → (i : ℕ) (e f : Equation) → slice_get source.equations i ≡ Some e → slice_get printed.equations i ≡ Some f
    → IsWorth source T b q t f.left e.left × IsWorth source T b q t f.right e.right

-- the file means one model; these bytes have tokens, these read as one file, and it means that model with long leads and lags replaced: the source's names, and behind them those of the auxiliaries; its exogenous names, values of parameters and constraints; its equations with their tags, and behind them one for each auxiliary; no endogenous shift beyond one; and the source's solutions, which read the source's own variables alone
pub record KeepsSolutions (file : List Statement) (written : List ℕ) : Type 0 where
  pub source : Model
  pub means : model_of file ≡ Some source
  pub again_tokens : List Tok
  pub again : List Statement
  pub lexed : tokens written ≡ Ok again_tokens
  pub reads : ReadsFile again_tokens again
  pub only : (other : List Statement) → ReadsFile again_tokens other → other ≡ again
  pub printed : Model
  pub means_again : model_of again ≡ Some printed
  pub is_transformed : printed ≡ transformed source
  pub auxiliaries : HasAuxiliaries source
  pub names : printed.endogenous_names ≡ source.endogenous_names ++ auxiliary_names source
  pub exogenous_names : printed.exogenous_names ≡ source.exogenous_names
  pub parameters : printed.parameters ≡ source.parameters
  pub constraints : printed.constraints ≡ source.constraints
  pub equations : length printed.equations ≡ length source.equations + length (auxiliaries_of source)
  pub tags : HaveTags source printed
  pub short : AllModelLeaves IsShort printed
  pub unchanged : AllModelLeaves IsShort source → printed ≡ source
  pub solutions : HaveSolutions source printed
  pub own_part : ReadsOwnPart source
  pub sides : HaveSides source printed
