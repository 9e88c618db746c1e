use Rattle.std.proofs.Common.{◌≤◌, length}
use Rattle.mp_graph.specs.Images.{AreImages, AreOpen}
use Rattle.mp_graph.specs.Shared.{Keeps}
use Rattle.mp_graph.proofs.images.Images.image.Given as goal

abbrev pub invariant-turns : goal.invariant-turns
invariant-turns g l = record {
  kept : Keeps l.fn.graph l.graph;
  images : AreImages l.graph l.self (g.W.Rewrite.image l.fn.rewrite);
  left : AreOpen l.fn.graph.terms l.self.known.items l.fn.root l.open.items;
  table : length l.fn.graph.terms ≤ length l.self.table.items;
  known : length l.fn.graph.terms ≤ length l.self.known.items;
}

abbrev pub decreases-turns : goal.decreases-turns
decreases-turns g l = length l.open.items
