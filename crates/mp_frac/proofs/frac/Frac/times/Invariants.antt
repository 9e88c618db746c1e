use Rattle.std.proofs.Common.{◌≡◌, Ok}
use Rattle.mp_frac.specs.Stated.{product_times}
use Rattle.mp_frac.specs.Value.{value_of}
use Rattle.mp_frac.proofs.frac.Frac.times.Given as goal

-- the factors so far
abbrev pub invariant-loop-i : goal.invariant-loop-i
invariant-loop-i l = product_times (value_of l.self) l._i ≡ Ok (value_of l.power)
