use Rattle.mp_shift.proofs.Shifts.{raised_side}
use Rattle.mp_shift.proofs.reach.raise_by_side.Goals as goal

pub returns : goal.returns
returns c = raised_side c.args.graph.now.terms c.args.found.now.items _ c.args.root c.as_slice.result.now _ c.as_slice.ensures.value c.in_ok-own.ensures c.raise_by_nodes.ensures
