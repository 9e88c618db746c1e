-- The expression that the code has read.
use Rattle.std.specs.Prelude.{List, [], ◌∷◌}
use Rattle.mp_mexpr.specs.Syntax as s
use Rattle.mp_mexpr.specs.declared.expression.Expr.{Expr, Number, Quote, Constant, Named, Array', Negative', Not', Chain', Row_of-Expr, end_of-Expr, more_of-Expr, Row_of-Step, end_of-Step, more_of-Step}
use Rattle.mp_mexpr.specs.declared.expression.Step.{Step, Apply, Index}

abbrev mutual
  pub expr_of : Expr → s.Expr
  expr_of (Number digits) = s.Number digits.now
  expr_of (Quote text) = s.Quote text.now
  expr_of (Constant truth) = s.Constant truth
  expr_of (Named name) = s.Named name.now
  expr_of (Array' n row) = s.Array (row_after s.Empty row)
  expr_of (Negative' p operand) = s.Negative (expr_of operand)
  expr_of (Not' p operand) = s.Not (expr_of operand)
  expr_of (Chain' p first n row) = row_stepped (expr_of first) row

  -- these elements, and then further ones
  pub row_after : {n : _} → s.Exprs → Row_of-Expr n → s.Exprs
  row_after front end_of-Expr = front
  row_after front (more_of-Expr x rest) = row_after (s.With front (expr_of x)) rest

  -- an operand, and then these steps
  pub row_stepped : {n : _} → s.Expr → Row_of-Step n → s.Expr
  row_stepped left end_of-Step = left
  row_stepped left (more_of-Step x rest) = row_stepped (stepped left x) rest

  pub stepped : s.Expr → Step → s.Expr
  stepped left (Apply operator right) = s.Apply operator left (expr_of right)
  stepped left (Index place) = s.Index left (expr_of place)

-- these elements, and then further ones
abbrev pub after : s.Exprs → List Expr → s.Exprs
after front [] = front
after front (x ∷ xs) = after (s.With front (expr_of x)) xs

-- an operand, and then these steps
abbrev pub all_stepped : s.Expr → List Step → s.Expr
all_stepped left [] = left
all_stepped left (x ∷ xs) = all_stepped (stepped left x) xs
