-- Products of 256 bits.
use Rattle.std.specs.Prelude.{ℕ, ◌+◌, ◌*◌, ◌^◌}
use Rattle.mp_frac.specs.declared.wide.Wide.{Wide}

-- the number that a pair of halves stands for
abbrev pub wide_value : Wide → ℕ
wide_value w = w.high * 2 ^ 128 + w.low
