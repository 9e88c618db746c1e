use Rattle.std.specs.Vec.Iter.{into_iter_len}
use Rattle.mp_block_bench.proofs.systems.Given as goal

abbrev pub decreases-systems : goal.decreases-systems
decreases-systems l = into_iter_len l.words
