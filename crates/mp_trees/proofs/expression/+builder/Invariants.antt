use Rattle.std.proofs.Common.{◌≡◌, ◌<◌, length, map, drop}
use Rattle.std.specs.List.{AllByRecursion}
use Rattle.mp_semantics.specs.Shifted.{earlier}
use Rattle.mp_file.specs.Shown.{further_of}
use Rattle.mp_graph.specs.Images.{AreImages}
use Rattle.mp_graph.specs.Shared.{term_at, Keeps}
use Rattle.mp_trees.specs.Earlier.{HasDifferences}
use Rattle.mp_trees.specs.Locals.{locals_in}
use Rattle.mp_trees.specs.Parts.{further_from}
use Rattle.mp_trees.proofs.Weights.{weight, all_weight}
use Rattle.mp_trees.proofs.expression.+builder.Given as goal

abbrev pub decreases-node_of : goal.decreases-node_of
decreases-node_of l = weight l.expression.now

abbrev pub decreases-further_node : goal.decreases-further_node
decreases-further_node l = all_weight l.more.now

abbrev pub invariant-further_node-turns : goal.invariant-further_node-turns
invariant-further_node-turns l = record {
  kept : Keeps l.initial.graph l.graph;
  images : AreImages l.graph l.images earlier;
  within : l.node < length l.graph.terms;
  shifts : AllByRecursion (λ f. HasDifferences l.initial.graph.names (locals_in l.initial.graph.terms l.locals) f.operand) (map further_of (drop l.next-index l.more));
  node : further_from l.initial.graph.names (locals_in l.initial.graph.terms l.locals) (term_at l.graph.terms l.node) (map further_of (drop l.next-index l.more)) l.exponents ≡ further_from l.initial.graph.names (locals_in l.initial.graph.terms l.locals) (term_at l.initial.graph.terms l.fn.first) (map further_of l.more) l.initial.exponents;
}
