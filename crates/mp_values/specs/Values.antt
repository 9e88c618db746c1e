-- The values of expressions of numbers and parameters, and so of parameters (Dynare manual, "Parameter initialization"), within limits of numbers or without.
use Rattle.std.specs.Prelude.{ℕ, ℤ, pos, ◌^◌, List, [], ◌∷◌, Option, Some, None, Ok, if◌then◌else◌}
use Rattle.mp_rational.specs.Fraction.{Fraction, neg, less, ratio_of, whole}
use Rattle.mp_tokens.specs.Literals.{Decimal, decimal_of}
use Rattle.mp_syntax.specs.declared.operator.Sign.{Sign}
use Rattle.mp_syntax.specs.declared.operator.Sign.TheVariants as sign
use Rattle.mp_syntax.specs.declared.operator.Function.{Function}
use Rattle.mp_syntax.specs.declared.operator.Function.TheVariants as function
use Rattle.mp_syntax.specs.Syntax.{Expr, Number, Variable, Signed, Binary, Power, Paren, Call, Diff, Pick}
use Rattle.mp_statements.specs.Statements.{Statement, Declares, Assigns, Model, Notes}
use Rattle.mp_values.specs.Table.{Table, unset, value_in, with_value}
use Rattle.mp_values.specs.Names.{names_of}
use Rattle.mp_values.specs.Limits.{Folded, ◌>>=◌, known, no_choice, Limits, limited}

-- the number m / 10^s
abbrev pub decimal_value : Decimal → Fraction
decimal_value n = ratio_of (pos n.m) (10 ^ n.s)

-- a value with the sign before it
abbrev pub with_sign : Sign → Fraction → Fraction
with_sign sign.Plus x = x
with_sign sign.Minus x = neg x

abbrev pub with_sign_if : Option Sign → Fraction → Fraction
with_sign_if None x = x
with_sign_if (Some s) x = with_sign s x

-- the lesser or the greater of two values
abbrev pub chosen : Function → Fraction → Fraction → Fraction
chosen function.Min x y = if less x y then x else y
chosen function.Max x y = if less x y then y else x

-- the exponent of a "^" at this place, of this value after its sign
abbrev pub exponent_at : Limits → ℕ → Option Sign → Fraction → Folded ℤ
exponent_at L at s y = L.exponent at (with_sign_if s y)

-- the value of an expression where parameters have these values, or why there is none: of the first operation, in post-order, that has none; what reads no variables gains nothing from period to period
abbrev pub value_by : Limits → Table → Expr → Folded Fraction
value_by L t (Number literal at) = L.literal at (decimal_of literal) >>= λ n. Ok (decimal_value n)
value_by L t (Variable name shift) = known name.name (value_in t name.name)
value_by L t (Signed s a) = value_by L t a >>= λ x. Ok (with_sign s x)
value_by L t (Binary o a at b) = value_by L t a >>= λ x. value_by L t b >>= λ y. L.result o at x y
value_by L t (Power a at s b) =
    value_by L t a >>= λ x. value_by L t b >>= λ y. exponent_at L at s y >>= λ k. L.raised at x k
value_by L t (Paren a) = value_by L t a
value_by L t (Call f a b) = value_by L t a >>= λ x. value_by L t b >>= λ y. Ok (chosen f x y)
value_by L t (Diff at a) = value_by L t a >>= λ x. Ok (whole (pos 0))
value_by L t (Pick a b c d) = no_choice

-- the parameters after these statements, in text order: an assignment gives its parameter the value that its expression has then
abbrev pub assigned_by : Limits → Table → List Statement → Folded Table
assigned_by L t [] = Ok t
assigned_by L t (Declares kind names ∷ more) = assigned_by L t more
assigned_by L t (Assigns name value ∷ more) =
    value_by L t value >>= λ x. assigned_by L (with_value name.name (Some x) t) more
assigned_by L t (Model at choices items ∷ more) = assigned_by L t more
assigned_by L t (Notes command names ∷ more) = assigned_by L t more

-- the parameters of a file with the values that they have at last
abbrev pub values_by : Limits → List Statement → Folded Table
values_by L file = assigned_by L (unset (names_of file).parameters) file

-- ---- within the limits of numbers

abbrev pub folded : Table → Expr → Folded Fraction
folded t e = value_by limited t e

abbrev pub assigned : Table → List Statement → Folded Table
assigned t file = assigned_by limited t file

abbrev pub values_given : List Statement → Folded Table
values_given file = values_by limited file
