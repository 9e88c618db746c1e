-- The expression that a chain or an array of the code is.
use Rattle.std.proofs.Common.{◌≡◌, List, [], ◌∷◌, ◌++◌, refl, rules, Global}
use Rattle.std.specs.declared.boxed.Box.{Box}
use Rattle.mp_mexpr.specs.Syntax as s
use Rattle.mp_mexpr.specs.Shown.{expr_of, row_after, row_stepped, stepped, after, all_stepped}
use Rattle.mp_mexpr.specs.declared.expression.Expr.{Expr, Row_of-Expr, end_of-Expr, more_of-Expr, items-the_row-Expr, Row_of-Step, end_of-Step, more_of-Step, items-the_row-Step}
use Rattle.mp_mexpr.specs.declared.expression.Expr.TheVariants as e
use Rattle.mp_mexpr.specs.declared.expression.Expr.TheViews.{the_lemmas}
use Rattle.mp_mexpr.specs.declared.expression.Step.{Step}

pub rows-after : (front : s.Exprs) (n : _) (row : Row_of-Expr n) → row_after front row ≡ after front (items-the_row-Expr n row)
rows-after front _ end_of-Expr = refl
rows-after front _ (more_of-Expr x rest) = rows-after (s.With front (expr_of x)) _ rest

pub rows-stepped : (left : s.Expr) (n : _) (row : Row_of-Step n) → row_stepped left row ≡ all_stepped left (items-the_row-Step n row)
rows-stepped left _ end_of-Step = refl
rows-stepped left _ (more_of-Step x rest) = rows-stepped (stepped left x) _ rest

pub array-is : (xs : List Expr) → expr_of (e.Array xs) ≡ s.Array (after s.Empty xs)
array-is xs = search (rules, the_lemmas, rows-after)

pub chain-is : (first : Box Expr Global) (steps : List Step) → expr_of (e.Chain first steps) ≡ all_stepped (expr_of first.value) steps
chain-is first steps = search (rules, the_lemmas, rows-stepped)

pub ruleset arrays = (array-is)

pub ruleset chains = (chain-is)

pub after-push : (front : s.Exprs) (xs : List Expr) (x : Expr) → after front (xs ++ x ∷ []) ≡ s.With (after front xs) (expr_of x)
after-push front [] x = refl
after-push front (y ∷ ys) x = after-push (s.With front (expr_of y)) ys x

pub stepped-push : (left : s.Expr) (xs : List Step) (x : Step) → all_stepped left (xs ++ x ∷ []) ≡ stepped (all_stepped left xs) x
stepped-push left [] x = refl
stepped-push left (y ∷ ys) x = stepped-push (stepped left y) ys x
