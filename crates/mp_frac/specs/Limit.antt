-- The limit of the parts of a fraction.
use Rattle.std.specs.Prelude.{ℕ, ◌^◌}

-- the greatest magnitude that a part of a fraction has
abbrev pub limit : ℕ
limit = 10 ^ 37
