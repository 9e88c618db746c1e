use Rattle.std.proofs.Common.{arith}
use Rattle.std.proofs.lemmas.Grind.{common_steps}
use Rattle.mp_graph.specs.Shared.{term_at}
use Rattle.mp_print_model.proofs.Operations.{operation_text, pick_text}
use Rattle.mp_print_model.proofs.node.+writer.Goals as goal

pub put_binary-returns : goal.put_binary-returns
put_binary-returns t c =
    let ts = c.args.graph.now.terms in
    rw (operation_text c.args.graph.now.names c.args.op (term_at ts c.args.left) (term_at ts c.args.right)) (grind (arith, common_steps))

pub put_pick-returns : goal.put_pick-returns
put_pick-returns t c =
    let ts = c.args.graph.now.terms in
    rw (pick_text c.args.graph.now.names (term_at ts c.args.a) (term_at ts c.args.b) (term_at ts c.args.c) (term_at ts c.args.d)) (grind (arith, common_steps))
