use Rattle.std.proofs.Common.{◌≡◌, ◌++◌, ℕ, List, Bor, map, drop}
use Rattle.mp_statements.specs.Parts.{equations_of}
use Rattle.mp_file.specs.Shown.{statement_of}
use Rattle.mp_declared.specs.Declared.{equation_names}
use Rattle.mp_decl.proofs.shared.add_all_names.Given as goal

abbrev pub invariant-turns : goal.invariant-turns
invariant-turns l =
    map (λ (n : Bor (List ℕ)). n.now) l.names.items ++ equation_names (equations_of (map statement_of (drop l.statement-index l.statements))) ≡ map (λ (n : Bor (List ℕ)). n.now) l.fn.names.items ++ equation_names (equations_of (map statement_of l.statements))
