-- What is said of the transformed model.
use Rattle.std.specs.Prelude.{◌≡◌, ◌↔◌, ◌⊎◌, ℕ, ℤ, pos, negsuc, ◌+◌, ◌-◌, ◌<◌, ◌≤◌, IsTrue, Option, Some, None, List, [], map, take, drop, length, slice_get}
use Rattle.std.specs.List.{AllByRecursion}
use Rattle.mp_semantics.specs.Term.{Variable, endogenous, exogenous, Leaf, number, parameter, variable, steady_state, Term}
use Rattle.mp_semantics.specs.Value.{Environment, leaf_value, val}
use Rattle.mp_semantics.specs.Model.{Model, Equation, Pair, Regime, is_declared}
use Rattle.mp_semantics.specs.Solves.{Path, Boundary, Edge, given, environment, Solves, IsSolution}
use Rattle.mp_solutions.specs.Leaves.{AllModelLeaves}
use Rattle.mp_solutions.specs.Auxiliaries.{lead, lag, shift_by, width, Auxiliary, own_place, auxiliaries_of, stand_in_of, auxiliary_name}
use Rattle.mp_solutions.specs.Transformed.{transformed, short}
use Rattle.mp_solutions.specs.Extension.{source_environment, extended_environment, HasShiftedValues, HasRims}

-- the model has the variable that the leaf reads
abbrev pub IsDeclaredLeaf : Model → Leaf → Type 0
IsDeclaredLeaf M (number m s) = Unit {0}
IsDeclaredLeaf M (parameter p) = Unit {0}
IsDeclaredLeaf M (variable x k) = IsTrue (is_declared M x)
IsDeclaredLeaf M (steady_state v) = IsTrue (is_declared M (endogenous v))

-- the equations read declared variables alone
abbrev pub IsClosed : Model → Type 0
IsClosed M = AllModelLeaves (IsDeclaredLeaf M) M

-- an endogenous shift is -1, 0 or 1
abbrev pub IsShort : Leaf → Type 0
IsShort (number m s) = Unit {0}
IsShort (parameter p) = Unit {0}
IsShort (variable (endogenous v) k) = (k ≡ negsuc 0) ⊎ ((k ≡ pos 0) ⊎ (k ≡ pos 1))
IsShort (variable (exogenous v) k) = Unit {0}
IsShort (steady_state v) = Unit {0}

-- an auxiliary is read in its own period, or one period its own way
abbrev pub IsReadOwnWay : Model → Leaf → Type 0
IsReadOwnWay M (number m s) = Unit {0}
IsReadOwnWay M (parameter p) = Unit {0}
IsReadOwnWay M (variable (endogenous i) k) =
    (a : Auxiliary) → width M ≤ i → slice_get (auxiliaries_of M) (i - width M) ≡ Some a → (k ≡ pos 0) ⊎ (k ≡ shift_by a.direction 1)
IsReadOwnWay M (variable (exogenous v) k) = Unit {0}
IsReadOwnWay M (steady_state v) = v < width M

-- a stands before b: of an earlier variable, or as a lead before a lag of the same one, or nearer
abbrev pub IsBefore : Auxiliary → Auxiliary → Type 0
IsBefore a b =
    (a.place < b.place)
    ⊎ ((a.place ≡ b.place) × (((a.direction ≡ lead) × (b.direction ≡ lag)) ⊎ ((a.direction ≡ b.direction) × (a.index < b.index))))

-- each auxiliary stands before those that follow
abbrev pub IsInOrder : List Auxiliary → Type 0
IsInOrder xs = (i j : ℕ) (a b : Auxiliary) → i < j → slice_get xs i ≡ Some a → slice_get xs j ≡ Some b → IsBefore a b

-- each auxiliary has the place behind the source's variables that it has in the list
abbrev pub HasPlaces : Model → Type 0
HasPlaces M = (i : ℕ) (a : Auxiliary) → slice_get (auxiliaries_of M) i ≡ Some a → own_place M a ≡ width M + i

-- a name stands at one place of the list
abbrev pub IsDistinct : List (List ℕ) → Type 0
IsDistinct names = (i j : ℕ) (x : List ℕ) → slice_get names i ≡ Some x → slice_get names j ≡ Some x → i ≡ j

-- all of an equation but its sides
pub record Tags : Type 0 where
  pub name : Option (List ℕ)
  pub pair : Option Pair
  pub bind : List ℕ
  pub relax : List ℕ

-- those of an equation
abbrev pub tags : Equation → Tags
tags e = record { name = e.name; pair = e.pair; bind = e.bind; relax = e.relax }

-- those of an equation that has none
abbrev pub no_tags : Tags
no_tags = record { name = None; pair = None; bind = []; relax = [] }

-- the first equations of the transformed model have the source's tags, and those after them none
abbrev pub KeepsTags : Model → Type 0
KeepsTags M =
    (map tags (take (length M.equations) (transformed M).equations) ≡ map tags M.equations)
    × AllByRecursion (λ (e : Equation). tags e ≡ no_tags) (drop (length M.equations) (transformed M).equations)

-- the name at the auxiliary's place is its own
abbrev pub HasName : Model → Auxiliary → Type 0
HasName M a = slice_get (transformed M).endogenous_names (own_place M a) ≡ Some (auxiliary_name M.endogenous_names a)

-- a path solves the transformed model exactly when it solves the source, which reads its own variables alone, and has the shifted source values
abbrev pub HasSameSolutions : Model → Type 0
HasSameSolutions M = (T : ℕ) (R : List Regime) (b : Boundary) (q : Path)
    → Solves (transformed M) T R (extended_environment M T b q) ↔ (IsSolution M T R b q × HasShiftedValues M T b q)

-- the edge is the boundary on the source's variables, and has each auxiliary's value at its rim
pub record Extends (M : Model) (T : ℕ) (b : Boundary) (edge : Edge) : Type 0 where
  pub declared : (x : Variable) (t : ℤ) → IsTrue (is_declared M x) → edge x t ≡ given T b x t
  pub rims : HasRims M T b edge

-- the same within each such edge: the transformed model reads no auxiliary at another place outside the horizon
abbrev pub HasSameSolutionsWithin : Model → Type 0
HasSameSolutionsWithin M = (T : ℕ) (R : List Regime) (b : Boundary) (q : Path) (edge : Edge) → Extends M T b edge
    → Solves (transformed M) T R (environment (transformed M) T edge q) ↔ (IsSolution M T R b q × HasShiftedValues M T b q)

-- a path solves a model by its values of the model's own variables in the periods 1 to T
abbrev pub ReadsOwnPart : Model → Type 0
ReadsOwnPart M = (T : ℕ) (R : List Regime) (b : Boundary) (q p : Path)
    → ((v t : ℕ) → v < width M → 1 ≤ t → t ≤ T → q v (pos t) ≡ p v (pos t)) → IsSolution M T R b q → IsSolution M T R b p

-- a side has in both models the same value in period t, or none in both
abbrev pub IsSameAt : Model → ℕ → Boundary → Path → ℕ → Term → Type 0
IsSameAt M T b q t e = val (short (stand_in_of M) e) (extended_environment M T b q) (pos t) ≡ val e (source_environment M T b q) (pos t)

-- so have both sides of each source equation, wherever the path has the shifted source values
abbrev pub HasSameSides : Model → Type 0
HasSameSides M = (T : ℕ) (b : Boundary) (q : Path) → HasShiftedValues M T b q → (t : ℕ) → 1 ≤ t → t ≤ T
    → AllByRecursion (λ (e : Equation). IsSameAt M T b q t e.left × IsSameAt M T b q t e.right) M.equations

-- a new leaf has in the new environment and period the value that the old one has in the old
abbrev pub IsSameLeaf : (Leaf → Leaf) → Environment → ℤ → Environment → ℤ → Leaf → Type 0
IsSameLeaf f env t old s l = leaf_value env t (f l) ≡ leaf_value old s l
