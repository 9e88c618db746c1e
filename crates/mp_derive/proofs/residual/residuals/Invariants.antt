use Rattle.std.proofs.Common.{◌≡◌, ◌++◌, map, drop}
use Rattle.mp_graph.specs.Shared.{Keeps, term_at}
use Rattle.mp_model_data.specs.Shown.{sides_of, equation_in}
use Rattle.mp_derivatives.specs.Derivatives.{residual}
use Rattle.mp_derive.proofs.Roots.{Within}
use Rattle.mp_derive.proofs.residual.residuals.Given as goal

abbrev pub invariant-turns : goal.invariant-turns
invariant-turns l = record {
  kept : Keeps l.initial.graph l.graph;
  within : Within l.graph l.roots.items;
  terms : map (term_at l.graph.terms) l.roots.items ++ map residual (map (equation_in l.initial.graph.terms) (map sides_of (drop l.equation-index l.equations))) ≡ map residual (map (equation_in l.initial.graph.terms) (map sides_of l.equations));
}
