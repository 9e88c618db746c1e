use Rattle.std.proofs.Common.{ap, ◌∙◌}
use Rattle.mp_canonical.specs.Files.{canonical_text}
use Rattle.mp_model.proofs.Shifts.{shifts_reads, shifts_means}
use Rattle.mp_model.proofs.Printed.{transformed_is_printed}
use Rattle.mp_model.proofs.shifts_law.Goals as goal

pub returns-clause-reads : goal.returns-clause-reads
returns-clause-reads c = shifts_reads

pub returns-clause-model : goal.returns-clause-model
returns-clause-model c = shifts_means

pub returns-clause-printed : goal.returns-clause-printed
returns-clause-printed c = ap canonical_text c.example_law.ensures.long ∙ transformed_is_printed
