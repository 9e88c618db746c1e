use Rattle.mp_base.proofs.Whole.{whole_reduced}
use Rattle.mp_base.proofs.data.Reduced.whole.Goals as goal

pub invariant_of-result : goal.invariant_of-result
invariant_of-result c = whole_reduced _
