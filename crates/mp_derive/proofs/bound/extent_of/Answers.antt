use Rattle.std.proofs.Common.{get_or}
use Rattle.mp_semantics.specs.Term.{Term}
use Rattle.mp_graph.specs.Shared.{term_at}
use Rattle.mp_derive.specs.Extent.{IsExtent}
use Rattle.mp_derive.proofs.Stands.{binary_stands, power_stands, pick_stands}
use Rattle.mp_derive.proofs.bound.extent_of.Goals as goal

pub returns-in-Binary : goal.returns-in-Binary
returns-in-Binary c =
    let ts = c.args.graph.now.terms in
    let kids = c.node-node.result.kids.now in
    let x = c.index-node-0-in-Binary in
    let y = c.index-node-1 in
    binary_stands (λ (t : Term). IsExtent t c.binary_extent.result) ts c.args.id c.node-node.result.op kids c.node-node.ensures.term c.node-node.ensures.count c.in-Binary.op c.in-Binary.is x.result y.result
    (c.binary_extent.ensures (term_at ts (get_or kids 0 x.result)) (term_at ts (get_or kids 1 y.result)) c.extent_at-a.ensures c.extent_at-b.ensures)

pub returns-in-Pow : goal.returns-in-Pow
returns-in-Pow c =
    let ts = c.args.graph.now.terms in
    let kids = c.node-node.result.kids.now in
    let x = c.index-node-0-in-Pow in
    power_stands (λ (t : Term). IsExtent t c.power_extent.result) ts c.args.id c.node-node.result.op kids c.node-node.ensures.term c.node-node.ensures.count c.in-Pow.field-0 c.in-Pow.is x.result
    (c.power_extent.ensures (term_at ts (get_or kids 0 x.result)) c.in-Pow.field-0 c.extent_at-in-Pow.ensures)

pub returns-in-Pick : goal.returns-in-Pick
returns-in-Pick c =
    let ts = c.args.graph.now.terms in
    let kids = c.node-node.result.kids.now in
    let x = c.index-node-0-in-Pick in
    let y = c.index-node-1-in-Pick in
    let z = c.index-node-2 in
    let w = c.index-node-3 in
    pick_stands (λ (t : Term). IsExtent t c.pick_extent.result) ts c.args.id c.node-node.result.op kids c.node-node.ensures.term c.node-node.ensures.count c.in-Pick.is x.result y.result z.result w.result
    (c.pick_extent.ensures (term_at ts (get_or kids 0 x.result)) (term_at ts (get_or kids 1 y.result)) (term_at ts (get_or kids 2 z.result)) (term_at ts (get_or kids 3 w.result)) c.extent_at-a-in-Pick.ensures c.extent_at-b-in-Pick.ensures c.extent_at-c.ensures c.extent_at-d.ensures)
