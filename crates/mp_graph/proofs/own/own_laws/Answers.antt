use Rattle.mp_graph.proofs.Walk.{own_all, own_kept}
use Rattle.mp_graph.proofs.own.own_laws.Goals as goal

pub returns-clause-all : goal.returns-clause-all
returns-clause-all c = own_all

pub returns-clause-kept : goal.returns-clause-kept
returns-clause-kept c = own_kept
