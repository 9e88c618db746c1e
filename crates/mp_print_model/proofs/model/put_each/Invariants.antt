use Rattle.std.proofs.Common.{◌≡◌, ◌++◌, map, drop}
use Rattle.std.specs.List.{flat_map}
use Rattle.mp_canonical.specs.Spelled.{name_text}
use Rattle.mp_print_model.proofs.model.put_each.Given as goal

abbrev pub invariant-turns : goal.invariant-turns
invariant-turns l = l.out ++ flat_map name_text (map (λ n. n.now) (drop l.name-index l.names)) ≡ l.initial.out ++ flat_map name_text (map (λ n. n.now) l.names)
