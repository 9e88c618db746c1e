use Rattle.std.proofs.Common.{ℕ, sym, subst}
use Rattle.mp_graph.specs.Images.{HasImages}
use Rattle.mp_graph.specs.Shared.{term_at}
use Rattle.mp_graph.proofs.Parts.{had_in}
use Rattle.mp_graph.proofs.Walk.{item_is, turn_term, turn_images}
use Rattle.mp_graph.proofs.rewrite.rewritten.Goals as goal

pub image_of-requires-clause-takes : goal.image_of-requires-clause-takes
image_of-requires-clause-takes g c =
    let e = item_is c.args.own.now c.nodes.id-index c.id-item.result c.nodes-test.true c.id-item.is in
    let same = turn_term c.args.graph.now c.nodes.graph c.args.root c.args.own.now c.nodes.images _ c.nodes.id-index c.requires.own c.unique.ensures c.requires.within c.nodes.invariant c.nodes-test.true in
    subst (λ (n : ℕ). g.W.Rewrite.takes c.args.rewrite.now (term_at c.nodes.graph.terms n)) (sym e)
    (subst (λ t. g.W.Rewrite.takes c.args.rewrite.now t) (sym same)
    (had_in (g.W.Rewrite.takes c.args.rewrite.now) (g.met.W.Rewrite.takes_parts c.args.rewrite.now) _ (term_at c.args.graph.now.terms c.args.root)
    (c.requires.own.only c.nodes.id-index c.nodes-test.true) c.requires.takes))

pub image_of-requires-clause-images : goal.image_of-requires-clause-images
image_of-requires-clause-images g c =
    let e = item_is c.args.own.now c.nodes.id-index c.id-item.result c.nodes-test.true c.id-item.is in
    subst (λ (n : ℕ). HasImages c.nodes.graph c.nodes.images n (g.W.Rewrite.image c.args.rewrite.now)) (sym e)
    (turn_images c.args.graph.now c.nodes.graph c.args.root c.args.own.now c.nodes.images (g.W.Rewrite.image c.args.rewrite.now) c.nodes.id-index c.requires.own c.unique.ensures c.requires.within c.nodes.invariant c.nodes-test.true)
