use Rattle.std.proofs.Common.{List, ◌++◌, map, drop}
use Rattle.mp_statements.specs.Statements.{Item}
use Rattle.mp_file.specs.Shown.{item_of}
use Rattle.mp_graph.specs.Shared.{Keeps}
use Rattle.mp_values.specs.Names.{Names}
use Rattle.mp_values.specs.From.{Taken}
use Rattle.mp_trees.specs.Made.{Equations, IsRest}
use Rattle.mp_trees.proofs.made.make_each.Given as goal

abbrev pub invariant-turns : goal.invariant-turns
invariant-turns l = record {
  kept : Keeps l.initial.graph l.graph;
  makes : (ns : Names) (whole : Taken Equations) (more : List Item) → IsRest ns whole l.initial.graph l.initial.made (map item_of l.items ++ more) l.initial.exponents → IsRest ns whole l.graph l.made (map item_of (drop l.item-index l.items) ++ more) l.exponents;
}
