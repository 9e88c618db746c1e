use Rattle.std.proofs.Common.{ℤ, ap, ◌∙◌, w16}
use Rattle.std.proofs.lemmas.Int.{to_z-of_z}
use Rattle.mp_expr.specs.Shown.{variable_of}
use Rattle.mp_graph.specs.Shared.{term_at}
use Rattle.mp_slopes.specs.Derivative.{derivative_of}
use Rattle.mp_diff.specs.Size.{size_of, total}
use Rattle.mp_diff.proofs.Tables.{total_is}
use Rattle.mp_diff.proofs.count.derivative_counts.Goals as goal

pub returns : goal.returns
returns c =
    let t = term_at c.args.graph.now.terms c.args.root in
    c.total.ensures ∙ ap total c.in-Ok.ensures.row.derivative
    ∙ ap (λ (k : ℤ). total (size_of (derivative_of t (variable_of c.args.v) k))) (to_z-of_z w16 c.args.shift c.ranges.shift)
    ∙ total_is (derivative_of t (variable_of c.args.v) c.args.shift)
