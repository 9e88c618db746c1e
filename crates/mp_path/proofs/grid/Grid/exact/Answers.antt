use Rattle.std.proofs.Common.{rules, ◌≡◌, ◌∙◌, ap, sym, Some, Option}
use Rattle.std.specs.Prelude.{option_map}
use Rattle.mp_rational.specs.Fraction.{Fraction}
use Rattle.mp_frac.specs.Value.{value_of}
use Rattle.mp_expr.specs.Shown.{variable_of}
use Rattle.mp_walk.specs.Cells.{Cell, exact}
use Rattle.mp_path.specs.Edges.{edge_of}
use Rattle.mp_path.specs.Points.{Points}
use Rattle.mp_path.proofs.Parts.{parts_value}
use Rattle.mp_path.proofs.grid.Grid.exact.Goals as goal

pub returns-clause-value : goal.returns-clause-value
returns-clause-value c =
    let found : edge_of c.self.inside.boundary (variable_of c.args.v) c.args.t ≡ Some (value_of c.value.result) = search rules in
    ap (λ (g : Points). option_map exact (edge_of g.edges (variable_of c.args.v) c.args.t)) (sym c.self.view_is)
    ∙ (ap (λ (q : Option Fraction). option_map exact q) found
    ∙ ap (λ (x : Fraction). let r : Option Cell = Some (exact x) in r) (sym (parts_value (value_of c.value.result) c.parts.result c.parts.ensures.numerator c.parts.ensures.denominator)))
