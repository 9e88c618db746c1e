-- The leaves of a term, and a term at another period.
use Rattle.std.specs.Prelude.{ℤ, ◌+ℤ◌}
use Rattle.std.specs.List.{AllByRecursion}
use Rattle.mp_semantics.specs.Term.{Leaf, number, parameter, variable, steady_state, Term, leaf, negative, binary, power_of, pick}
use Rattle.mp_semantics.specs.Model.{Model, Equation}
use Rattle.mp_semantics.specs.Shifted.{with_leaves}

-- P holds of each leaf of the term
abbrev pub AllLeaves : (Leaf → Type 0) → Term → Type 0
AllLeaves P (leaf l) = P l
AllLeaves P (negative a) = AllLeaves P a
AllLeaves P (binary op a b) = AllLeaves P a × AllLeaves P b
AllLeaves P (power_of a k) = AllLeaves P a
AllLeaves P (pick a b c d) = AllLeaves P a × AllLeaves P b × AllLeaves P c × AllLeaves P d

-- P holds of each leaf of both sides
abbrev pub AllEquationLeaves : (Leaf → Type 0) → Equation → Type 0
AllEquationLeaves P e = AllLeaves P e.left × AllLeaves P e.right

-- P holds of each leaf of each equation
abbrev pub AllModelLeaves : (Leaf → Type 0) → Model → Type 0
AllModelLeaves P M = AllByRecursion (AllEquationLeaves P) M.equations

-- a variable k periods later; a steady state stays
abbrev pub shifted_leaf : ℤ → Leaf → Leaf
shifted_leaf k (number m s) = number m s
shifted_leaf k (parameter p) = parameter p
shifted_leaf k (variable x j) = variable x (j +ℤ k)
shifted_leaf k (steady_state v) = steady_state v

-- the term k periods later
abbrev pub shifted : ℤ → Term → Term
shifted k e = with_leaves (shifted_leaf k) e
