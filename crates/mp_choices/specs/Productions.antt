-- What stands between the operators of a derivative: the atoms of a file, and one more, `pick` (modpath's own).
use Rattle.std.specs.Prelude.{List, [], ◌∷◌, ◌++◌}
use Rattle.mp_tokens.specs.declared.terminal.Terminal.TheVariants as t
use Rattle.mp_syntax.specs.Syntax.{Expr, Pick}
use Rattle.mp_format.specs.Format.{Look, Of, Format}
use Rattle.mp_format.specs.Notation.{of, ◌⊗◌, ◌▸◌, ◌◂◌, ◌∣◌, ◌⇒◌}
use Rattle.mp_expressions.specs.Productions.{WholeFrom, expr_first, expr}
use Rattle.mp_expressions.specs.Expressions.{atom}

-- with what a derivative begins
abbrev pub derivative_first : List Look
derivative_first = expr_first ++ (Of t.Pick ∷ [])

-- how a whole derivative reads
abbrev pub Whole : Type 1
Whole = WholeFrom derivative_first

-- "(" expr "," expr "," expr "," expr ")"
unfoldable pub four : Whole → Format (Expr × (Expr × (Expr × Expr)))
four e = of t.Open ▸ expr e ◂ of t.Comma ⊗ expr e ◂ of t.Comma ⊗ expr e ◂ of t.Comma ⊗ expr e ◂ of t.Close

-- atom = those of a file | "pick" "(" expr "," expr "," expr "," expr ")"
unfoldable pub chosen_atom : Whole → Format Expr
chosen_atom e = atom e ∣ (of t.Pick ▸ four e ⇒ λ p. Pick p.0 p.1.0 p.1.1.0 p.1.1.1)
