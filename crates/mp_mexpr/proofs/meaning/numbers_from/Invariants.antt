use Rattle.mp_mvalue.specs.Gathers.{Gathers}
use Rattle.mp_mexpr.specs.Meaning.{numbers_from}
use Rattle.mp_mexpr.proofs.meaning.numbers_from.Given as goal

abbrev pub invariant-loop-k : goal.invariant-loop-k
invariant-loop-k l = Gathers l.numbers (numbers_from l.first l.k)
