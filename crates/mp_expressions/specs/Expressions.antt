-- Expressions as formats.
use Rattle.std.specs.Prelude.{ℕ, List, Option, Some, None}
use Rattle.mp_tokens.specs.declared.terminal.Terminal.TheVariants as t
use Rattle.mp_tokens.specs.Tokens.{Tok}
use Rattle.mp_syntax.specs.declared.operator.Sign.{Sign}
use Rattle.mp_syntax.specs.declared.operator.Sign.TheVariants as sign
use Rattle.mp_syntax.specs.declared.operator.Operator.{Operator}
use Rattle.mp_syntax.specs.declared.operator.Operator.TheVariants as operator
use Rattle.mp_syntax.specs.declared.operator.Function.TheVariants as function
use Rattle.mp_syntax.specs.Syntax.{Shift, Expr, Number, Variable, Power, Paren, Call, Diff, Further, with_further, signed}
use Rattle.mp_format.specs.Format.{Look, Format, opt, many}
use Rattle.mp_format.specs.Notation.{of, ◌⊗◌, ◌▸◌, ◌◂◌, ◌∣◌, ◌⇒◌}
use Rattle.mp_expressions.specs.Productions.{WholeFrom, expr, named, sign_format, number}

-- a shift without a sign is ahead
abbrev pub or_plus : Option Sign → Sign
or_plus None = sign.Plus
or_plus (Some s) = s

-- shift = ["+" | "-"] WHOLE
unfoldable pub shift : Format Shift
shift = opt sign_format ⊗ of t.Whole ⇒ λ p. record { sign = or_plus p.0; digits = p.1.bytes }

-- NUMBER
abbrev pub literal : Format Expr
literal = number ⇒ λ w. Number w.bytes w.at

-- NUMBER | NAME, where no more "(" may be open
unfoldable pub flat_atom : Format Expr
flat_atom = literal ∣ (of t.Name ⇒ λ n. Variable (named n) None)

-- "(" expr "," expr ")"
unfoldable pub pair : {first : List Look} → WholeFrom first → Format (Expr × Expr)
pair e = of t.Open ▸ expr e ◂ of t.Comma ⊗ expr e ◂ of t.Close

-- "(" shift ")"
unfoldable pub fenced : Format Shift
fenced = of t.Open ▸ shift ◂ of t.Close

-- ["(" shift ")"]
abbrev pub shift_part : Format (Option Shift)
shift_part = opt fenced

-- expr ")"
unfoldable pub closed : {first : List Look} → WholeFrom first → Format Expr
closed e = expr e ◂ of t.Close

-- "(" expr ")"
unfoldable pub inside : {first : List Look} → WholeFrom first → Format Expr
inside e = of t.Open ▸ closed e

-- atom = NUMBER | NAME ["(" shift ")"] | "(" expr ")" | ("min" | "max") "(" expr "," expr ")" | "diff" "(" expr ")"
unfoldable pub atom : {first : List Look} → WholeFrom first → Format Expr
atom e =
    literal ∣ (of t.Name ⊗ shift_part ⇒ λ p. Variable (named p.0) p.1) ∣ (of t.Open ▸ closed e ⇒ λ x. Paren x) ∣ (of t.Min ▸ pair e ⇒ λ p. Call function.Min p.0 p.1) ∣ (of t.Max ▸ pair e ⇒ λ p. Call function.Max p.0 p.1) ∣ (of t.Diff ⊗ inside e ⇒ λ p. Diff p.0.at p.1)

-- the base, with its exponent if there is one
abbrev pub raised : Expr → Option (Tok × (Option Sign × Expr)) → Expr
raised base None = base
raised base (Some p) = Power base p.0.at p.1.0 p.1.1

-- power = atom ["^" ["+" | "-"] atom]
abbrev pub power : Format Expr → Format Expr
power a = a ⊗ opt (of t.Caret ⊗ opt sign_format ⊗ a) ⇒ λ p. raised p.0 p.1

-- factor = ["+" | "-"] power
unfoldable pub factor : Format Expr → Format Expr
factor a = opt sign_format ⊗ power a ⇒ λ p. signed p.0 p.1

-- the operand after an operator and its place
abbrev pub further : Operator × ℕ → Expr → Further
further p e = record { op = p.0; at = p.1; operand = e }

-- "*" | "/"
abbrev pub times_format : Format (Operator × ℕ)
times_format = (of t.Star ⇒ λ u. (operator.Times, u.at)) ∣ (of t.Slash ⇒ λ u. (operator.Over, u.at))

-- ("*" | "/") factor
unfoldable pub times : Format Expr → Format Further
times a = times_format ⊗ factor a ⇒ λ p. further p.0 p.1

-- term = factor {("*" | "/") factor}
unfoldable pub product : Format Expr → Format Expr
product a = factor a ⊗ many (times a) ⇒ λ p. with_further p.0 p.1

-- "+" | "-"
abbrev pub plus_format : Format (Operator × ℕ)
plus_format = (of t.Plus ⇒ λ u. (operator.Plus, u.at)) ∣ (of t.Minus ⇒ λ u. (operator.Minus, u.at))

-- ("+" | "-") term
unfoldable pub plus : Format Expr → Format Further
plus a = plus_format ⊗ product a ⇒ λ p. further p.0 p.1

-- expr = term {("+" | "-") term}
unfoldable pub sum : Format Expr → Format Expr
sum a = product a ⊗ many (plus a) ⇒ λ p. with_further p.0 p.1
