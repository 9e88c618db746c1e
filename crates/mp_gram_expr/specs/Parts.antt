-- Parts of productions.
use Rattle.std.specs.Prelude.{ℕ, Option}
use Rattle.mp_tokens.specs.declared.terminal.Terminal.{Terminal}
use Rattle.mp_tokens.specs.declared.terminal.Terminal.TheVariants as t
use Rattle.mp_tokens.specs.Tokens.{Tok}
use Rattle.mp_syntax.specs.declared.operator.Sign.{Sign}
use Rattle.mp_syntax.specs.declared.operator.Operator.{Operator}
use Rattle.mp_syntax.specs.Syntax.{Expr}
use Rattle.mp_format.specs.Format.{Format, opt}
use Rattle.mp_format.specs.Notation.{of, ◌⊗◌, ◌∣◌, ◌⇒◌}
use Rattle.mp_expressions.specs.Productions.{sign_format}

-- "^" ["+" | "-"] atom
abbrev pub exponent : Format Expr → Format (Tok × (Option Sign × Expr))
exponent a = of t.Caret ⊗ opt sign_format ⊗ a

-- one of two tokens, as the operator that it stands for, with its place
abbrev pub either : Terminal × Operator → Terminal × Operator → Format (Operator × ℕ)
either one other = (of one.0 ⇒ λ u. (one.1, u.at)) ∣ (of other.0 ⇒ λ u. (other.1, u.at))
