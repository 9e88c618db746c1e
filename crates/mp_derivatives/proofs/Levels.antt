-- Derivatives with so many "(" open at once: what is in form has a tree, and places do not tell expressions apart.
use Rattle.std.proofs.Common.{◌≡◌, ℕ, zero, suc, sym, ap, ◌∙◌, subst}
use Rattle.mp_syntax.specs.Syntax.{Expr}
use Rattle.mp_format.specs.Format.{Alike}
use Rattle.mp_format.proofs.Bares.{Bares}
use Rattle.mp_format.proofs.Whole.{whole-fits, whole-alike}
use Rattle.mp_expressions.specs.Script.{bare}
use Rattle.mp_expressions.specs.Productions.{expr}
use Rattle.mp_expressions.specs.Expressions.{sum, flat_atom}
use Rattle.mp_expressions.specs.InForm.{AtSum}
use Rattle.mp_expressions.proofs.Atoms.{flat_fits}
use Rattle.mp_expressions.proofs.Bares.{flat_bares, sum_bares}
use Rattle.mp_choices.specs.Productions.{chosen_atom}
use Rattle.mp_choices.proofs.InForm.{Chosen, InDerivative}
use Rattle.mp_choices.proofs.Atoms.{chosen_fits}
use Rattle.mp_choices.proofs.Bares.{chosen_bares}
use Rattle.mp_canonical.proofs.Levels.{Forms}
use Rattle.mp_derivatives.specs.Grammar.{derivative, flat, deeper}

fits-form : (room : ℕ) → (derivative room).Fits ≡ InDerivative room
unfolding derivative flat deeper InDerivative
fits-form zero = whole-fits _ _ _ (sum flat_atom) _ _ ∙ flat_fits
fits-form (suc room) =
    whole-fits _ _ _ (sum (chosen_atom (derivative room))) _ _ ∙ chosen_fits (derivative room) ∙ ap (λ (F : Expr → Type 0). AtSum (Chosen F)) (fits-form room)

pub in_form : (room : ℕ) (e : Expr) → InDerivative room e → (derivative room).Fits e
in_form room e is = subst (λ (F : Expr → Type 0). F e) (sym (fits-form room)) is

pub derivative_bares : (room : ℕ) → Bares (expr (derivative room)) bare
unfolding Alike derivative flat deeper
derivative_bares zero x y h =
    sum_bares flat_atom flat_bares x y (subst (λ (A : Expr → Expr → Type 0). A x y) (whole-alike _ _ _ (sum flat_atom) _ _) h)
derivative_bares (suc room) x y h =
    sum_bares (chosen_atom (derivative room)) (chosen_bares (derivative room) (derivative_bares room)) x y (subst (λ (A : Expr → Expr → Type 0). A x y) (whole-alike _ _ _ (sum (chosen_atom (derivative room))) _ _) h)

-- what the grammar of derivatives may write
pub choice_forms : Forms (Unit {0}) (λ room. Chosen (InDerivative room)) InDerivative
unfolding InDerivative
choice_forms = record {
  number = λ room l is. is;
  variable = λ room n s is f. (is, f);
  paren = λ room e is. is;
  call = λ room g a b h k. (h, k);
  choice = λ u room a b c d h k l m. (h, k, l, m);
  flat = λ e is. is;
  deeper = λ room e is. is;
}
