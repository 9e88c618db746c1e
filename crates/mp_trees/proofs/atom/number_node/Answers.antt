use Rattle.mp_trees.proofs.Shortest.{shortest_by}
use Rattle.mp_trees.proofs.atom.number_node.Goals as goal

pub intern-requires-clause-lawful : goal.intern-requires-clause-lawful
intern-requires-clause-lawful c = record {
  size = c.in-Some.ensures.m_small;
  digits = c.in-Some.ensures.s_small;
  shortest = shortest_by c.args.literal.now c.in-Some.field-0.m c.in-Some.field-0.s c.in-Some.ensures.m c.in-Some.ensures.s;
}
