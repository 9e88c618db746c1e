use Rattle.std.proofs.Common.{◌≡◌, ℕ, List, Bor, map, drop}
use Rattle.std.specs.Prelude.{find}
use Rattle.mp_declared.specs.Declared.{is_missing}
use Rattle.mp_decl.proofs.values.first_missing.Given as goal

abbrev pub invariant-turns : goal.invariant-turns
invariant-turns l = find (is_missing l.given) (map (λ (k : Bor (List ℕ)). k.now) (drop l.name-index l.name-items)) ≡ find (is_missing l.given) l.names
