use Rattle.mp_graph.proofs.Walk.{Walk}
use Rattle.mp_solutions.specs.Transformed.{short}
use Rattle.mp_shift.specs.Stand.{stand_by}
use Rattle.mp_shift.proofs.shorten.short_form.Given as goal

abbrev pub invariant-nodes : goal.invariant-nodes
invariant-nodes l = Walk l.fn.graph l.graph l.own l.images (short (stand_by l.firsts)) l.id-index
