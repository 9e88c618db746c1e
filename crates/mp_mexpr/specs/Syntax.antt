-- Expressions, and the value of each.
use Rattle.std.specs.Prelude.{ℕ, List, [], Bool, Result, Ok}
use Rattle.mp_base.specs.declared.kinds.MacroKind.{MacroKind}
use Rattle.mp_mvalue.specs.declared.value.Value.{Value, Truth, Text}
use Rattle.mp_mexpr.specs.declared.operator.Operator.{Operator}
use Rattle.mp_mvalue.specs.Environments.{Names}
use Rattle.mp_mvalue.specs.Made.{Valued}
use Rattle.mp_mexpr.specs.Meaning.{digits_value, known, negative_value, not_value, apply_value, index_value, with_element, array_value}

mutual
  -- an expression
  pub data Expr : Type 0 where
    Number : (digits : List ℕ) → Expr
    Quote : (text : List ℕ) → Expr
    Constant : (truth : Bool) → Expr
    Named : (name : List ℕ) → Expr
    Array : (elements : Exprs) → Expr
    Negative : (operand : Expr) → Expr
    Not : (operand : Expr) → Expr
    Apply : (operator : Operator) → (left right : Expr) → Expr
    Index : (array place : Expr) → Expr

  -- expressions in order: none, or some and one more
  pub data Exprs : Type 0 where
    Empty : Exprs
    With : (front : Exprs) → (last : Expr) → Exprs

abbrev mutual
  -- the value of an expression where names have these values
  pub value_of : Names → Expr → Valued
  value_of names (Number digits) = digits_value digits
  value_of names (Quote text) = Ok (Text text)
  value_of names (Constant truth) = Ok (Truth truth)
  value_of names (Named name) = known (names name)
  value_of names (Array elements) = array_value (values_of names elements)
  value_of names (Negative operand) = negative_value (value_of names operand)
  value_of names (Not operand) = not_value (value_of names operand)
  value_of names (Apply operator left right) = apply_value operator (value_of names left) (value_of names right)
  value_of names (Index array place) = index_value (value_of names array) (value_of names place)

  -- the values of elements, from left to right
  pub values_of : Names → Exprs → Result (List Value) MacroKind
  values_of names Empty = Ok []
  values_of names (With front last) = with_element (values_of names front) (value_of names last)
