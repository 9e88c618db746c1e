use Rattle.mp_local.proofs.Limits.{limits}
use Rattle.mp_local.proofs.laws.local_law.Goals as goal

pub returns-clause-given : goal.returns-clause-given
returns-clause-given c file M is = (limits file M is).given

pub returns-clause-exact : goal.returns-clause-exact
returns-clause-exact c file M is = c.limits_law.ensures.model file M (limits file M is).given

pub returns-clause-names : goal.returns-clause-names
returns-clause-names c file M is = (limits file M is).names

pub returns-clause-shifts : goal.returns-clause-shifts
returns-clause-shifts c file M is = (limits file M is).shifts

pub returns-clause-height : goal.returns-clause-height
returns-clause-height c file M is = (limits file M is).height

pub returns-clause-size : goal.returns-clause-size
returns-clause-size c file M is = (limits file M is).size
