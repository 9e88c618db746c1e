use Rattle.mp_band.specs.Blocks.{IsInShape}
use Rattle.mp_bench.proofs.bands.fill_row.Given as goal

abbrev pub invariant-loop-column : goal.invariant-loop-column
invariant-loop-column l = IsInShape l.band
