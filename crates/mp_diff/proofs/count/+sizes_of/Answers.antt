use Rattle.std.proofs.Common.{ap, arith, get_or}
use Rattle.mp_expr.specs.Shown.{variable_of}
use Rattle.mp_graph.specs.Shared.{term_at}
use Rattle.mp_diff.specs.declared.measure.Size.{Size}
use Rattle.mp_diff.proofs.Stands.{binary_stands, pick_stands}
use Rattle.mp_diff.proofs.count.+sizes_of.Goals as goal

pub negative_sizes-requires-clause-derivative : goal.negative_sizes-requires-clause-derivative
negative_sizes-requires-clause-derivative t c =
    omega (arith, ap (λ (s : Size). s.negations) c.sizes_of.ensures.derivative, c.negations_law.ensures.derivative (variable_of c.args.by.v) c.args.by.shift)

pub binary_sizes-requires : goal.binary_sizes-requires
binary_sizes-requires t c =
    omega (arith, ap (λ (s : Size). s.negations) c.sizes_of-b.ensures.derivative, c.negations_law-in-Binary.ensures.derivative (variable_of c.args.by.v) c.args.by.shift)

pub returns-in-Binary : goal.returns-in-Binary
returns-in-Binary t c =
    let ts = c.args.graph.now.terms in
    let kids = c.node-node.result.kids.now in
    let x = c.index-node-0-in-Binary in
    let y = c.index-node-1 in
    binary_stands (variable_of c.args.by.v) c.args.by.shift ts c.args.id c.node-node.result.op kids c.binary_sizes.result c.node-node.ensures.term c.node-node.ensures.count c.in-Binary.op c.in-Binary.is x.result y.result
    (c.binary_sizes.ensures (variable_of c.args.by.v) c.args.by.shift (term_at ts (get_or kids 0 x.result)) (term_at ts (get_or kids 1 y.result)) c.sizes_of-a.ensures c.sizes_of-b.ensures)

pub returns-in-Pick : goal.returns-in-Pick
returns-in-Pick t c =
    let ts = c.args.graph.now.terms in
    let kids = c.node-node.result.kids.now in
    let x = c.index-node-0-in-Pick in
    let y = c.index-node-1-in-Pick in
    let z = c.index-node-2 in
    let w = c.index-node-3 in
    pick_stands (variable_of c.args.by.v) c.args.by.shift ts c.args.id c.node-node.result.op kids c.pick_sizes.result c.node-node.ensures.term c.node-node.ensures.count c.in-Pick.is x.result y.result z.result w.result
    (c.pick_sizes.ensures (variable_of c.args.by.v) c.args.by.shift (term_at ts (get_or kids 0 x.result)) (term_at ts (get_or kids 1 y.result)) (term_at ts (get_or kids 2 z.result)) (term_at ts (get_or kids 3 w.result)) c.sizes_of-a-in-Pick.ensures c.sizes_of-b-in-Pick.ensures c.sizes_of-c.ensures c.sizes_of-d.ensures)
