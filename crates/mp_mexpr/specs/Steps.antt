-- The value of an expression step by step.
use Rattle.std.specs.Prelude.{List, [], ◌∷◌, Result}
use Rattle.mp_base.specs.declared.kinds.MacroKind.{MacroKind}
use Rattle.mp_mvalue.specs.declared.value.Value.{Value}
use Rattle.mp_mvalue.specs.Environments.{Names}
use Rattle.mp_mvalue.specs.Made.{Valued}
use Rattle.mp_mexpr.specs.declared.expression.Expr.{Expr}
use Rattle.mp_mexpr.specs.declared.expression.Step.{Step}
use Rattle.mp_mexpr.specs.declared.expression.Step.TheVariants.{Apply, Index}
use Rattle.mp_mexpr.specs.Meaning.{apply_value, index_value, with_element}
use Rattle.mp_mexpr.specs.Shown.{expr_of}
use Rattle.mp_mexpr.specs.Syntax.{value_of}

-- after one step
abbrev pub step_value : Names → Valued → Step → Valued
step_value names left (Apply operator right) = apply_value operator left (value_of names (expr_of right))
step_value names left (Index place) = index_value left (value_of names (expr_of place))

-- after these steps
abbrev pub steps_value : Names → Valued → List Step → Valued
steps_value names left [] = left
steps_value names left (x ∷ xs) = steps_value names (step_value names left x) xs

-- these values, and then those of further elements
abbrev pub values_after : Names → Result (List Value) MacroKind → List Expr → Result (List Value) MacroKind
values_after names front [] = front
values_after names front (x ∷ xs) = values_after names (with_element front (value_of names (expr_of x))) xs
