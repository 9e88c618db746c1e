-- Terms as expressions, with the fewest parentheses that the grammar's levels allow (modpath's own).
use Rattle.std.specs.Prelude.{ℕ, zero, suc, ℤ, pos, negsuc, List, [], ◌++◌, Bool, true, false, not, ◌&&◌, ◌||◌, ◌==◌, nat_lt, Option, Some, None, if◌then◌else◌, slice_index_or, codes}
use Rattle.mp_rational.specs.Fraction.{Fraction}
use Rattle.mp_rational.specs.Lowest.{numerator, denominator}
use Rattle.mp_syntax.specs.declared.operator.Sign.TheVariants as sign
use Rattle.mp_syntax.specs.declared.operator.Operator.TheVariants as o
use Rattle.mp_syntax.specs.declared.operator.Function.TheVariants as f
use Rattle.mp_syntax.specs.Syntax as expr
use Rattle.mp_syntax.specs.Syntax.{Shift, Named, Expr}
use Rattle.mp_semantics.specs.Term.{Variable, endogenous, exogenous, Leaf, number, parameter, variable, steady_state, Binary, plus, minus, times, quotient, least, greatest, Term, leaf, negative, binary, power_of, pick}
use Rattle.mp_values.specs.Names.{Names}
use Rattle.mp_canonical.specs.Numbers.{decimal_digits, number_text}

-- how tightly an operator binds: a sum, a product, and a function, whose operands stand in parentheses of its own
abbrev pub operator_level : Binary → ℕ
operator_level plus = 1
operator_level minus = 1
operator_level times = 2
operator_level quotient = 2
operator_level least = 5
operator_level greatest = 5

-- how tightly a term is bound: a sum, a product, a minus, a power, and all else
abbrev pub level : Term → ℕ
level (negative a) = 3
level (binary op a b) = operator_level op
level (power_of a k) = 4
level _ = 5

-- whether it stands between its operands
abbrev pub is_infix : Binary → Bool
is_infix op = nat_lt (operator_level op) 5

-- whether the left operand of an operator needs parentheses
abbrev pub is_loose : Binary → Term → Bool
is_loose op a = is_infix op && nat_lt (level a) (operator_level op)

-- whether the text of a term begins with "-"
abbrev pub begins_minus : Term → Bool
begins_minus (negative a) = true
begins_minus (binary op a b) = is_infix op && (not (is_loose op a) && begins_minus a)
begins_minus _ = false

-- the same of the right operand, which has to be bound more tightly, and may not begin with "-" either
abbrev pub is_loose_right : Binary → Term → Bool
is_loose_right op b = is_infix op && (nat_lt (level b) (suc (operator_level op)) || begins_minus b)

-- in parentheses, or as it is
abbrev pub fenced : Bool → Expr → Expr
fenced true e = expr.Paren e
fenced false e = e

-- an operator with its operands
abbrev pub operation : Binary → Expr → Expr → Expr
operation plus x y = expr.Binary o.Plus x 0 y
operation minus x y = expr.Binary o.Minus x 0 y
operation times x y = expr.Binary o.Times x 0 y
operation quotient x y = expr.Binary o.Over x 0 y
operation least x y = expr.Call f.Min x y
operation greatest x y = expr.Call f.Max x y

-- a name that stands nowhere
abbrev pub unplaced : List ℕ → Named
unplaced name = record { name = name; at = 0 }

-- the name at this place
abbrev pub name_at : List (List ℕ) → ℕ → List ℕ
name_at names place = slice_index_or names place []

abbrev pub variable_name : Names → Variable → List ℕ
variable_name ns (endogenous v) = name_at ns.endogenous v
variable_name ns (exogenous v) = name_at ns.exogenous v

-- the shift by so many periods, and none by 0
abbrev pub canonical_shift : ℤ → Option Shift
canonical_shift (pos zero) = None
canonical_shift (pos (suc n)) = Some (record { sign = sign.Plus; digits = decimal_digits (suc n) })
canonical_shift (negsuc n) = Some (record { sign = sign.Minus; digits = decimal_digits (suc n) })

-- how the steady state of a variable is spelled
abbrev pub steady_state_text : List ℕ → List ℕ
steady_state_text name = codes "STEADY_STATE(" ++ (name ++ codes ")")

-- the grammar reads no steady state yet: it is spelled as a name that no variable has
abbrev pub canonical_leaf : Names → Leaf → Expr
canonical_leaf ns (number m s) = expr.Number (number_text m s) 0
canonical_leaf ns (parameter q) = expr.Variable (unplaced (name_at ns.parameters q)) None
canonical_leaf ns (variable x k) = expr.Variable (unplaced (variable_name ns x)) (canonical_shift k)
canonical_leaf ns (steady_state v) = expr.Variable (unplaced (steady_state_text (name_at ns.endogenous v))) None

-- a whole number, with "-" before it if it is negative
abbrev pub canonical_whole : ℤ → Expr
canonical_whole (pos n) = expr.Number (decimal_digits n) 0
canonical_whole (negsuc n) = expr.Signed sign.Minus (expr.Number (decimal_digits (suc n)) 0)

-- in parentheses where it has a "-"
abbrev pub canonical_exponent : ℤ → Expr
canonical_exponent (pos n) = canonical_whole (pos n)
canonical_exponent (negsuc n) = expr.Paren (canonical_whole (negsuc n))

-- the expression of a term where these are the names
unfoldable pub canonical : Names → Term → Expr
canonical ns (leaf l) = canonical_leaf ns l
canonical ns (negative a) = expr.Signed sign.Minus (fenced (nat_lt (level a) 4) (canonical ns a))
canonical ns (binary op a b) =
    operation op (fenced (is_loose op a) (canonical ns a)) (fenced (is_loose_right op b) (canonical ns b))
canonical ns (power_of a k) =
    expr.Power (fenced (nat_lt (level a) 5) (canonical ns a)) 0 None (canonical_exponent k)
canonical ns (pick a b c d) = expr.Pick (canonical ns a) (canonical ns b) (canonical ns c) (canonical ns d)

-- "n", or "n/d" in lowest terms
abbrev pub canonical_value : Fraction → Expr
canonical_value x =
    if denominator x == 1 then canonical_whole (numerator x) else expr.Binary o.Over (canonical_whole (numerator x)) 0 (expr.Number (decimal_digits (denominator x)) 0)
