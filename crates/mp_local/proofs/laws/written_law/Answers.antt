use Rattle.mp_values.specs.Shifts.{no_locals}
use Rattle.mp_local.proofs.WrittenLaws.{far_near}
use Rattle.mp_local.proofs.GivesLaws.{local_exactly}
use Rattle.mp_local.proofs.laws.written_law.Goals as goal

pub returns-clause-far : goal.returns-clause-far
returns-clause-far c limit counts items x low written found = far_near limit (no_locals counts) items x low tt written found

pub returns-clause-model : goal.returns-clause-model
returns-clause-model c file written = local_exactly file written
