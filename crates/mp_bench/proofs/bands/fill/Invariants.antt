use Rattle.mp_band.specs.Blocks.{IsInShape}
use Rattle.mp_bench.proofs.bands.fill.Given as goal

abbrev pub invariant-loop-at : goal.invariant-loop-at
invariant-loop-at l = IsInShape l.band
