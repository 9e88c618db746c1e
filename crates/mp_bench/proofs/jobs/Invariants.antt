use Rattle.std.specs.Vec.Iter.{into_iter_len}
use Rattle.mp_bench.proofs.jobs.Given as goal

abbrev pub decreases-jobs : goal.decreases-jobs
decreases-jobs g l = into_iter_len l.words
