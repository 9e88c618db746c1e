use Rattle.std.proofs.Common.{◌≡◌}
use Rattle.mp_band.specs.Blocks.{count_of, IsInShape}
use Rattle.mp_number_tests.proofs.large_systems.fill_chain.Given as goal

abbrev pub invariant-loop-at : goal.invariant-loop-at
invariant-loop-at g l = record { shape : IsInShape l.band; count : count_of l.band ≡ count_of l.fn.band }
