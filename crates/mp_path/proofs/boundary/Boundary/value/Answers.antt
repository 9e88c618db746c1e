use Rattle.std.proofs.Common.{rules, ◌≡◌, ◌∙◌, ◌*◌, ◌+◌, ap, sym, subst}
use Rattle.std.specs.Prelude.{IsSome}
use Rattle.mp_semantics.specs.Term.{Variable, exogenous}
use Rattle.mp_expr.specs.Shown.{place_of, variable_of}
use Rattle.mp_path.specs.Edges.{Edges, edge_of, periods_to}
use Rattle.mp_path.proofs.Parts.{exo_is}
use Rattle.mp_path.proofs.boundary.Boundary.value.Goals as goal

pub returns-in-Exo : goal.returns-in-Exo
returns-in-Exo c =
    let x : variable_of c.args.v ≡ exogenous (place_of c.in-Exo.n) = ap variable_of c.in-Exo.is in
    let some : IsSome (edge_of c.args.self.now (exogenous (place_of c.in-Exo.n)) c.args.t) = subst (λ (y : Variable). IsSome (edge_of c.args.self.now y c.args.t)) x c.requires in
    let at : c.place-in-Exo.result ≡ (place_of c.in-Exo.n) * (c.args.self.now.periods + 49) + periods_to c.args.t = search rules in
    ap (λ (y : Variable). edge_of c.args.self.now y c.args.t) x
    ∙ exo_is c.args.self.now (place_of c.in-Exo.n) c.place-in-Exo.result c.args.t c.self.inside.exogenous.items c.index-in-Exo.result.now
    (ap (λ (b : Edges). b.exogenous) (sym c.self.view_is)) at some c.index-in-Exo.ensures
