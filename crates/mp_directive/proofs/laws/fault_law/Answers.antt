use Rattle.mp_directive.proofs.FirstFault.{fault-is}
use Rattle.mp_directive.proofs.laws.fault_law.Goals as goal

pub returns : goal.returns
returns c = fault-is
