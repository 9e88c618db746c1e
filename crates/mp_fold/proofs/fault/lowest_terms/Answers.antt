use Rattle.mp_fold.proofs.Reported.{told_again}
use Rattle.mp_fold.proofs.fault.lowest_terms.Goals as goal

pub returns-clause-first : goal.returns-clause-first
returns-clause-first c = rw c.ratio.ensures.value at (told_again c.ratio.result c.ratio.ensures.reduced)

pub returns-clause-second : goal.returns-clause-second
returns-clause-second c = rw c.ratio-2.ensures.value at (told_again c.ratio-2.result c.ratio-2.ensures.reduced)
