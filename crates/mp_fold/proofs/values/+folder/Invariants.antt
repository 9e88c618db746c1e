use Rattle.std.proofs.Common.{◌≡◌, map, drop}
use Rattle.mp_file.specs.Shown.{further_of}
use Rattle.mp_frac.specs.Value.{value_of}
use Rattle.mp_values.specs.Chained.{chained}
use Rattle.mp_values.specs.Limits.{limited}
use Rattle.mp_values.specs.Values.{folded}
use Rattle.mp_fold.specs.Shown.{shown, and_then}
use Rattle.mp_fold.proofs.values.+folder.Given as goal

abbrev pub invariant-further_value-turns : goal.invariant-further_value-turns
invariant-further_value-turns l =
    chained (λ e. folded l.table e) limited.result (value_of l.value) (map further_of (drop l.next-index l.more)) ≡ and_then (shown value_of l.fn.first) (λ x. chained (λ e. folded l.table e) limited.result x (map further_of l.more))
