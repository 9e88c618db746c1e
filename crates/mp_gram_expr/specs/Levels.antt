-- Sums and products, by level.
use Rattle.std.specs.Prelude.{ℕ}
use Rattle.mp_syntax.specs.declared.operator.Operator.{Operator}
use Rattle.mp_syntax.specs.Syntax.{Expr, Further}
use Rattle.mp_format.specs.Format.{Format}
use Rattle.mp_expressions.specs.Expressions.{factor, times_format, times, product, plus_format, plus, sum}
use Rattle.mp_gram_expr.specs.declared.level.Level.{Level}
use Rattle.mp_gram_expr.specs.declared.level.Level.TheVariants as l

-- what stands between two operands
abbrev pub operator_at : Level → Format (Operator × ℕ)
operator_at l.Sum = plus_format
operator_at l.Product = times_format

-- what each operand is
abbrev pub operand_at : Level → Format Expr → Format Expr
operand_at l.Sum a = product a
operand_at l.Product a = factor a

-- an operator and the operand after it
abbrev pub further_at : Level → Format Expr → Format Further
further_at l.Sum a = plus a
further_at l.Product a = times a

-- an operand and those that follow
abbrev pub chain_at : Level → Format Expr → Format Expr
chain_at l.Sum a = sum a
chain_at l.Product a = product a
