-- A bound on the operations of all derivatives of an expression, by what its operands have.
use Rattle.std.specs.Prelude.{ℕ, ◌+◌, ◌*◌, min}
use Rattle.mp_expr.specs.Size.{count_of}
use Rattle.mp_semantics.specs.Term.{Leaf, number, parameter, variable, steady_state, Binary, plus, minus, times, quotient, least, greatest, Term, leaf, negative, binary, power_of, pick}

abbrev pub leaf_variables : Leaf → ℕ
leaf_variables (number m s) = 0
leaf_variables (parameter p) = 0
leaf_variables (variable y j) = 1
leaf_variables (steady_state y) = 0

-- its leaves that are variables
abbrev pub variables_of : Term → ℕ
variables_of (leaf l) = leaf_variables l
variables_of (negative a) = variables_of a
variables_of (binary op a b) = variables_of a + variables_of b
variables_of (power_of a n) = variables_of a
variables_of (pick a b c d) = variables_of a + variables_of b + (variables_of c + variables_of d)

-- what an operator adds at most to the derivatives of its operands, which have p and q variables, and m and n operations
abbrev pub binary_bound : Binary → ℕ → ℕ → ℕ → ℕ → ℕ
binary_bound plus p q m n = min p q
binary_bound minus p q m n = q
binary_bound times p q m n = p * (n + 2) + q * (m + 1)
binary_bound quotient p q m n = p * (n + 1) + q * (m + n + 4)
binary_bound least p q m n = (p + q) * (m + n + 1)
binary_bound greatest p q m n = (p + q) * (m + n + 1)

-- the operations that its derivatives by all its places have at most, together
abbrev pub bound_of : Term → ℕ
bound_of (leaf l) = 0
bound_of (negative a) = bound_of a + variables_of a
bound_of (binary op a b) = bound_of a + bound_of b + binary_bound op (variables_of a) (variables_of b) (count_of a) (count_of b)
bound_of (power_of a n) = bound_of a + variables_of a * (count_of a + 4)
bound_of (pick a b c d) = 0
