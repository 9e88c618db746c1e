-- Signs and numbers as trees.
use Rattle.std.proofs.Common.{◌≡◌, ℕ, List, Bool, true, false, ◌==◌, Option, Some, None, option_map, refl, ap}
use Rattle.mp_tokens.specs.Tokens.{number_length, digits_length}
use Rattle.mp_syntax.specs.declared.operator.Sign.{Sign}
use Rattle.mp_format.specs.Format.{opt}
use Rattle.mp_format.specs.Spelling.{value, Fits}
use Rattle.mp_format.proofs.Stands.{Stands}
use Rattle.mp_expressions.specs.InForm.{sign_tree, number_by, number_tree}
use Rattle.mp_expressions.specs.Productions.{sign_format, number}
use Rattle.mp_expressions.proofs.ExprTrees.{sign_value, sign_fits}

pub signs_stand : (s : Option Sign) → Stands (opt sign_format) (option_map sign_tree s) s
unfolding value Fits
signs_stand None = record { value = refl; fits = tt }
signs_stand (Some s) = record { value = ap Some (sign_value s); fits = sign_fits s }

pub number_bytes : (l : List ℕ) → (value number (number_tree l)).bytes ≡ l
unfolding value
number_bytes l = by (number_length l == digits_length l)
  where
    by : (b : Bool) → (value number (number_by b l)).bytes ≡ l
    by true = refl
    by false = refl
