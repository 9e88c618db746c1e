use Rattle.mp_solutions.proofs.Which.{needed, in_order, has_places, has_names, read_own_way, has_rims}
use Rattle.mp_solutions.proofs.Names.{names_distinct}
use Rattle.mp_solutions.proofs.auxiliaries_laws.Goals as goal

pub returns-clause-needed : goal.returns-clause-needed
returns-clause-needed c = needed

pub returns-clause-order : goal.returns-clause-order
returns-clause-order c = in_order

pub returns-clause-distinct : goal.returns-clause-distinct
returns-clause-distinct c = names_distinct

pub returns-clause-places : goal.returns-clause-places
returns-clause-places c = has_places

pub returns-clause-named : goal.returns-clause-named
returns-clause-named c = has_names

pub returns-clause-own_way : goal.returns-clause-own_way
returns-clause-own_way c = read_own_way

pub returns-clause-rims : goal.returns-clause-rims
returns-clause-rims c = has_rims
