use Rattle.std.proofs.Common.{◌∙◌, ap, sym, Some}
use Rattle.std.specs.Prelude.{slice_get}
use Rattle.mp_rational.specs.Fraction.{Fraction}
use Rattle.mp_frac.specs.Value.{value_of}
use Rattle.mp_expr.specs.Shown.{place_of}
use Rattle.mp_path.specs.Points.{Points}
use Rattle.mp_path.proofs.Parts.{parts_value}
use Rattle.mp_path.proofs.grid.Grid.param.Goals as goal

pub returns-clause-value : goal.returns-clause-value
returns-clause-value c =
    ap (λ (g : Points). slice_get g.edges.parameters (place_of c.args.p)) (sym c.self.view_is)
    ∙ (c.param.ensures ∙ ap (λ (x : Fraction). Some x) (sym (parts_value (value_of c.param.result) c.parts.result c.parts.ensures.numerator c.parts.ensures.denominator)))
