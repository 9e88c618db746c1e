use Rattle.std.proofs.Common.{◌<◌, ℕ, length}
use Rattle.mp_pairing.specs.Pairing.{Occurs}
use Rattle.mp_block_bench.proofs.answer.are_within.Given as goal

abbrev pub invariant-rows : goal.invariant-rows
invariant-rows l = (d v : ℕ) → d < l.e → Occurs l.rows d v → v < length l.rows
