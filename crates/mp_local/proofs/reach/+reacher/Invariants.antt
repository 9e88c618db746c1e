use Rattle.std.proofs.Common.{◌≡◌, ℕ, ◌^◌, min, map, take}
use Rattle.std.specs.List.{flat_map}
use Rattle.mp_file.specs.Shown.{further_of}
use Rattle.mp_values.specs.Shifts.{Shifts, readings}
use Rattle.mp_local.specs.Known.{Knows}
use Rattle.mp_local.specs.Reaches.{Reaches}
use Rattle.mp_local.proofs.reach.+reacher.Given as goal

abbrev pub invariant-further_reach-turns : goal.invariant-further_reach-turns
invariant-further_reach-turns l =
    (d : ℕ) (s : Shifts) → l.depth ≡ min d (2 ^ 125) → Knows l.known s → Reaches l.known.limit s (flat_map (λ x. readings d x.operand) (map further_of (take l.next-index l.more))) l.reach
