-- The terms of nodes.
use Rattle.std.specs.Prelude.{◌≡◌, ◌≢◌, ◌≤◌, ◌⊎◌, ℕ, pos, negsuc, ◌≤ℤ◌, ◌^◌, ◌%◌, List, slice_index}
use Rattle.mp_semantics.specs.Term as term
use Rattle.mp_semantics.specs.Term.{Term, number, parameter, variable, steady_state, plus, minus, times, quotient, least, greatest, leaf, negative, binary, power_of, pick}
use Rattle.mp_expr.specs.declared.tree.VarId.{VarId}
use Rattle.mp_expr.specs.declared.tree.VarId.TheVariants.{Endo, Exo}
use Rattle.mp_expr.specs.Shown.{place_of, variable_of}
use Rattle.mp_graph.specs.declared.op.LeafOp.{LeafOp}
use Rattle.mp_graph.specs.declared.op.LeafOp.TheVariants.{Num, Param, Var, Anchor}
use Rattle.mp_graph.specs.declared.op.BinaryOp.{BinaryOp}
use Rattle.mp_graph.specs.declared.op.BinaryOp.TheVariants.{Add, Sub, Mul, Div, Min, Max}
use Rattle.mp_graph.specs.declared.op.NodeOp.{NodeOp}
use Rattle.mp_graph.specs.declared.op.NodeOp.TheVariants.{Leaf, Neg, Binary, Pow, Pick}
use Rattle.mp_values.specs.Names.{Names}
use Rattle.mp_names.specs.Naming.{IsNumbered}
use Rattle.mp_graph.specs.Shared.{term_at}

-- how many kids it takes
abbrev pub arity : NodeOp → ℕ
arity (Leaf l) = 0
arity Neg = 1
arity (Binary o) = 2
arity (Pow k) = 1
arity Pick = 4

-- m / 10^s with s the least, within the bounds of literals (modpath's own)
pub record IsLiteral (m s : ℕ) : Type 0 where
  pub size : m ≤ 10 ^ 37
  pub digits : s ≤ 37
  pub shortest : (s ≡ 0) ⊎ (m % 10 ≢ 0)

abbrev pub IsVariable : Names → VarId → Type 0
IsVariable names (Endo n) = IsNumbered names.endogenous n
IsVariable names (Exo n) = IsNumbered names.exogenous n

abbrev pub IsLawfulLeaf : Names → LeafOp → Type 0
IsLawfulLeaf names (Num m s) = IsLiteral m s
IsLawfulLeaf names (Param n) = IsNumbered names.parameters n
IsLawfulLeaf names (Var v k) = IsVariable names v
IsLawfulLeaf names (Anchor n) = IsNumbered names.endogenous n

-- its number is a literal, its name is there, and its exponent lies from -17 to 16 (modpath's own)
abbrev pub IsLawful : Names → NodeOp → Type 0
IsLawful names (Leaf l) = IsLawfulLeaf names l
IsLawful names Neg = Unit {0}
IsLawful names (Binary o) = Unit {0}
IsLawful names (Pow k) = (negsuc 16 ≤ℤ k) × (k ≤ℤ pos 16)
IsLawful names Pick = Unit {0}

abbrev pub leaf_of : LeafOp → term.Leaf
leaf_of (Num m s) = number m s
leaf_of (Param n) = parameter (place_of n)
leaf_of (Var v k) = variable (variable_of v) k
leaf_of (Anchor n) = steady_state (place_of n)

abbrev pub binary_of : BinaryOp → term.Binary
binary_of Add = plus
binary_of Sub = minus
binary_of Mul = times
binary_of Div = quotient
binary_of Min = least
binary_of Max = greatest

-- the term of the kid at this place
abbrev pub kid : List Term → List ℕ → ℕ → Term
kid ts kids j = term_at ts (slice_index kids j)

-- the operator over the terms of the kids
abbrev pub over : List Term → NodeOp → List ℕ → Term
over ts (Leaf l) kids = leaf (leaf_of l)
over ts Neg kids = negative (kid ts kids 0)
over ts (Binary o) kids = binary (binary_of o) (kid ts kids 0) (kid ts kids 1)
over ts (Pow k) kids = power_of (kid ts kids 0) k
over ts Pick kids = pick (kid ts kids 0) (kid ts kids 1) (kid ts kids 2) (kid ts kids 3)
