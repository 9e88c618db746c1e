-- The grammar of printed derivatives: the expressions of a file, with one more atom, `pick`, and without a limit of parentheses (modpath's own).
use Rattle.std.specs.Prelude.{ℕ, zero, suc, List, [], length}
use Rattle.std.proofs.Common.{refl}
use Rattle.mp_tokens.specs.Tokens.{Tok}
use Rattle.mp_syntax.specs.Syntax.{Expr}
use Rattle.mp_format.specs.Format.{Reads, empty, first, goes_on}
use Rattle.mp_format.specs.Whole.{whole}
use Rattle.mp_format.proofs.Whole.{whole_laws}
use Rattle.mp_expressions.specs.Script.{expr_script}
use Rattle.mp_expressions.specs.Productions.{expr_more, expr}
use Rattle.mp_expressions.specs.Expressions.{shift, fenced, closed, inside, pair, flat_atom, atom, factor, times, product, plus, sum}
use Rattle.mp_expressions.proofs.Told.{flat_told}
use Rattle.mp_expressions.proofs.Atoms.{flat_writing}
use Rattle.mp_choices.specs.Productions.{derivative_first, Whole, four, chosen_atom}
use Rattle.mp_choices.proofs.Atoms.{chosen_told, chosen_writing}

-- no "(" at all
unfoldable pub flat : Whole
unfolding empty first goes_on shift fenced closed inside pair flat_atom atom factor times product plus sum
flat = whole derivative_first expr_more expr_script (sum flat_atom) flat_writing.Fits (whole_laws derivative_first expr_more expr_script (sum flat_atom) flat_writing flat_told refl refl refl)

-- one more "(" open than in these
unfoldable pub deeper : Whole → Whole
unfolding empty first goes_on shift fenced closed inside pair flat_atom atom factor times product plus sum four chosen_atom
deeper e = whole derivative_first expr_more expr_script (sum (chosen_atom e)) (chosen_writing e).Fits (whole_laws derivative_first expr_more expr_script (sum (chosen_atom e)) (chosen_writing e) (chosen_told e) refl refl refl)

-- a derivative with at most so many "(" open at once
unfoldable pub derivative : ℕ → Whole
derivative zero = flat
derivative (suc room) = deeper (derivative room)

-- the tokens are this expression, however many "(" are open at once, which are no more than there are tokens
abbrev pub ReadsDerivative : List Tok → Expr → Type 0
ReadsDerivative ts e = Reads (expr (derivative (length ts))) ts e []
