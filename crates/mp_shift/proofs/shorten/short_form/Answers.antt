use Rattle.std.proofs.Common.{ℕ, get_or, sym, subst}
use Rattle.mp_semantics.specs.Term.{Term}
use Rattle.mp_values.specs.Names.{Names}
use Rattle.mp_graph.specs.Images.{HasImages}
use Rattle.mp_graph.specs.Shared.{term_at}
use Rattle.mp_graph.proofs.Parts.{had_in}
use Rattle.mp_graph.proofs.Walk.{item_is, turn_term, turn_images}
use Rattle.mp_solutions.specs.Transformed.{short}
use Rattle.mp_shift.specs.Stand.{stand_by, ReadsNames}
use Rattle.mp_shift.proofs.StandIns.{part_reads}
use Rattle.mp_shift.proofs.shorten.short_form.Goals as goal

pub short_node-requires-clause-images : goal.short_node-requires-clause-images
short_node-requires-clause-images c =
    let image = short (stand_by c.args.firsts.now) in
    let e = item_is c.args.own.now c.nodes.id-index c.id-item.result c.nodes-test.true c.id-item.is in
    subst (λ (n : ℕ). HasImages c.nodes.graph c.nodes.images n image) (sym e)
    (turn_images c.args.graph.now c.nodes.graph c.args.root c.args.own.now c.nodes.images image c.nodes.id-index c.requires.own c.unique.ensures c.requires.within c.nodes.invariant c.nodes-test.true)

pub short_node-requires-clause-named : goal.short_node-requires-clause-named
short_node-requires-clause-named c =
    let stand = stand_by c.args.firsts.now in
    let e = item_is c.args.own.now c.nodes.id-index c.id-item.result c.nodes-test.true c.id-item.is in
    let same = turn_term c.args.graph.now c.nodes.graph c.args.root c.args.own.now c.nodes.images (short stand) c.nodes.id-index c.requires.own c.unique.ensures c.requires.within c.nodes.invariant c.nodes-test.true in
    subst (λ (n : ℕ). ReadsNames c.nodes.graph.names.endogenous (short stand (term_at c.nodes.graph.terms n))) (sym e)
    (subst (λ (t : Term). ReadsNames c.nodes.graph.names.endogenous (short stand t)) (sym same)
    (subst (λ (ns : Names). ReadsNames ns.endogenous (short stand (term_at c.args.graph.now.terms (get_or c.args.own.now c.nodes.id-index 0)))) (sym c.nodes.invariant.kept.names)
    (had_in (λ (t : Term). ReadsNames c.args.graph.now.names.endogenous (short stand t)) (part_reads c.args.graph.now.names.endogenous stand) _ (term_at c.args.graph.now.terms c.args.root)
    (c.requires.own.only c.nodes.id-index c.nodes-test.true) c.requires.named)))
