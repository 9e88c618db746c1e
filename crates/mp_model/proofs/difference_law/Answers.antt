use Rattle.mp_model.proofs.Difference.{difference_reads, difference_means}
use Rattle.mp_model.proofs.Printed.{difference_is_printed}
use Rattle.mp_model.proofs.difference_law.Goals as goal

pub returns-clause-reads : goal.returns-clause-reads
returns-clause-reads c = difference_reads

pub returns-clause-model : goal.returns-clause-model
returns-clause-model c = difference_means

pub returns-clause-printed : goal.returns-clause-printed
returns-clause-printed c = difference_is_printed
