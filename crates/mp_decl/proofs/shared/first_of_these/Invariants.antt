use Rattle.std.proofs.Common.{◌≡◌, ℕ, List, Bor, map, drop, option_map}
use Rattle.mp_declared.specs.Declared.{first_shared}
use Rattle.mp_decl.proofs.GivenLaws.{Same}
use Rattle.mp_decl.proofs.shared.first_of_these.Given as goal

abbrev pub invariant-turns : goal.invariant-turns
invariant-turns l = record {
  further : Same l.further (map (λ (n : Bor (List ℕ)). n.now) (drop l.i l.names));
  found : option_map (λ (n : Bor (List ℕ)). n.now) l.found ≡ first_shared (map (λ (n : Bor (List ℕ)). n.now) (drop l.i l.names));
}
