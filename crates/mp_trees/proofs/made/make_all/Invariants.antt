use Rattle.std.proofs.Common.{[], map, drop}
use Rattle.mp_statements.specs.Parts.{items_of}
use Rattle.mp_file.specs.Shown.{statement_of}
use Rattle.mp_graph.specs.Shared.{Keeps}
use Rattle.mp_values.specs.From.{items_from}
use Rattle.mp_trees.specs.Made.{IsRest}
use Rattle.mp_trees.proofs.made.make_all.Given as goal

abbrev pub invariant-turns : goal.invariant-turns
invariant-turns l = record {
  kept : Keeps l.initial.graph l.graph;
  rest : IsRest l.initial.graph.names (items_from l.initial.graph.names [] (items_of (map statement_of l.file.statements)) l.initial.exponents) l.graph l.made (items_of (map statement_of (drop l.statement-index l.file.statements))) l.exponents;
}
