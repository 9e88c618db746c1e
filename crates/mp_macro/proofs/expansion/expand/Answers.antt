use Rattle.mp_directive.proofs.Meant.{means-groups}
use Rattle.mp_macro.proofs.expansion.expand.Goals as goal

pub returns-clause-grammar : goal.returns-clause-grammar
returns-clause-grammar g c = means-groups
