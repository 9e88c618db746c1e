use Rattle.std.proofs.Common.{◌<◌, ℕ, get_or}
use Rattle.mp_block_bench.proofs.answer.are_below.Given as goal

abbrev pub invariant-row : goal.invariant-row
invariant-row l = (k : ℕ) → k < l.i → get_or l.row k 0 < l.count
