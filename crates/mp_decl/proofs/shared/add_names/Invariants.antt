use Rattle.std.proofs.Common.{◌≡◌, ◌++◌, ℕ, List, Bor, map, drop}
use Rattle.mp_file.specs.Shown.{item_of}
use Rattle.mp_decl.proofs.SharedLaws.{item_names}
use Rattle.mp_decl.proofs.shared.add_names.Given as goal

abbrev pub invariant-turns : goal.invariant-turns
invariant-turns l =
    map (λ (n : Bor (List ℕ)). n.now) l.names.items ++ item_names (map item_of (drop l.item-index l.items)) ≡ map (λ (n : Bor (List ℕ)). n.now) l.fn.names.items ++ item_names (map item_of l.items)
