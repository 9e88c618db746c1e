-- Sums of atoms have the laws of a part.
use Rattle.std.proofs.Common.{refl, subst}
use Rattle.mp_syntax.specs.Syntax.{Expr}
use Rattle.mp_format.specs.Format.{empty, first, goes_on}
use Rattle.mp_format.specs.Whole.{WholeLaws}
use Rattle.mp_format.proofs.Whole.{whole_laws}
use Rattle.mp_expressions.specs.Script.{expr_script}
use Rattle.mp_expressions.specs.Productions.{Whole, expr_first, expr_more}
use Rattle.mp_expressions.specs.Expressions.{shift, fenced, closed, inside, pair, flat_atom, atom, factor, times, product, plus, sum}
use Rattle.mp_expressions.specs.InForm.{AtSum, Flat, Deep}
use Rattle.mp_expressions.proofs.Told.{flat_told, sum_told}
use Rattle.mp_expressions.proofs.Atoms.{flat_writing, sum_writing, flat_fits, sum_fits}

pub flat_laws : WholeLaws expr_first expr_more expr_script (sum flat_atom) (AtSum Flat)
unfolding empty first goes_on shift fenced closed inside pair flat_atom atom factor times product plus sum
flat_laws =
    subst (λ (F : Expr → Type 0). WholeLaws expr_first expr_more expr_script (sum flat_atom) F) flat_fits (whole_laws expr_first expr_more expr_script (sum flat_atom) flat_writing flat_told refl refl refl)

pub sum_laws : (e : Whole) → WholeLaws expr_first expr_more expr_script (sum (atom e)) (AtSum (Deep e.Fits))
unfolding empty first goes_on shift fenced closed inside pair flat_atom atom factor times product plus sum
sum_laws e =
    subst (λ (F : Expr → Type 0). WholeLaws expr_first expr_more expr_script (sum (atom e)) F) (sum_fits e) (whole_laws expr_first expr_more expr_script (sum (atom e)) (sum_writing e) (sum_told e) refl refl refl)
