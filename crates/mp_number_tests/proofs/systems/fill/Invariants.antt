use Rattle.std.proofs.Common.{◌≡◌}
use Rattle.mp_band.specs.Blocks.{count_of, IsInShape}
use Rattle.mp_number_tests.proofs.systems.fill.Given as goal

abbrev pub invariant-loop-i : goal.invariant-loop-i
invariant-loop-i g l = record { shape : IsInShape l.band; count : count_of l.band ≡ count_of l.fn.band }
