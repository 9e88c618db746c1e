use Rattle.std.proofs.Common.{◌≡◌, [], ◌++◌, map, drop}
use Rattle.std.specs.List.{flat_map}
use Rattle.mp_file.specs.Shown.{statement_of}
use Rattle.mp_declared.specs.Declared.{read_early, assigned_in}
use Rattle.mp_decl.proofs.GivenLaws.{Same}
use Rattle.mp_decl.proofs.values.unvalued_after.Given as goal

abbrev pub invariant-turns : goal.invariant-turns
invariant-turns l = record {
  early : read_early l.given (map statement_of (drop l.statement-index l.statements)) ≡ read_early [] (map statement_of l.statements);
  all : Same (l.given ++ flat_map assigned_in (map statement_of (drop l.statement-index l.statements))) (flat_map assigned_in (map statement_of l.statements));
}
