use Rattle.std.proofs.Common.{◌≡◌, true, subst}
use Rattle.mp_mvalue.specs.Values.{same}
use Rattle.mp_mvalue.proofs.Equals.{same_equal, same_itself}
use Rattle.mp_mvalue.proofs.laws.same_law.Goals as goal

pub returns-clause-only_equal : goal.returns-clause-only_equal
returns-clause-only_equal c = same_equal

pub returns-clause-equal : goal.returns-clause-equal
returns-clause-equal c = λ a b e. subst (λ x. same a x ≡ true) e (same_itself a)
