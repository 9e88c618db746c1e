-- The names of a file, and what a name in an expression stands for.
use Rattle.std.specs.Prelude.{ℕ, ℤ, pos, neg_ℤ, List, Bool, ◌||◌, Option, Some, None, is_some, option_map, position}
use Rattle.std.specs.Option.{option_or}
use Rattle.std.specs.Str.{bytes_eq}
use Rattle.mp_syntax.specs.declared.operator.Sign.{Sign}
use Rattle.mp_syntax.specs.declared.operator.Sign.TheVariants as sign
use Rattle.mp_statements.specs.declared.kind.NameKind.TheVariants as kind
use Rattle.mp_syntax.specs.Syntax.{Shift}
use Rattle.mp_statements.specs.Statements.{Statement}
use Rattle.mp_tokens.specs.Literals.{number_of}
use Rattle.mp_statements.specs.Parts as parts
use Rattle.mp_semantics.specs.Term.{Term, leaf, endogenous, exogenous, parameter, variable}

-- the names of each kind, in declared order
pub record Names : Type 0 where
  pub endogenous : List (List ℕ)
  pub exogenous : List (List ℕ)
  pub parameters : List (List ℕ)

-- the names that a file declares
abbrev pub names_of : List Statement → Names
names_of file = record {
  endogenous = parts.names_of kind.Endogenous file;
  exogenous = parts.names_of kind.Exogenous file;
  parameters = parts.names_of kind.Parameter file;
}

-- this many periods ahead or back
abbrev pub along : Sign → ℕ → ℤ
along sign.Plus n = pos n
along sign.Minus n = neg_ℤ (pos n)

-- a shift that is not written is 0
abbrev pub shift_of : Option Shift → ℤ
shift_of None = pos 0
shift_of (Some s) = along s.sign (number_of s.digits)

abbrev pub place_of : List (List ℕ) → List ℕ → Option ℕ
place_of names name = position (bytes_eq name) names

-- whether a name is that of a variable
abbrev pub is_variable : Names → List ℕ → Bool
is_variable names name = is_some (place_of names.endogenous name) || is_some (place_of names.exogenous name)

-- a variable of this name, shifted, or a parameter; or nothing, where the name is not declared
abbrev pub named_term : Names → List ℕ → ℤ → Option Term
named_term names name shift =
    option_or (option_map (λ p. leaf (variable (endogenous p) shift)) (place_of names.endogenous name)) (option_or (option_map (λ p. leaf (variable (exogenous p) shift)) (place_of names.exogenous name)) (option_map (λ p. leaf (parameter p)) (place_of names.parameters name)))
