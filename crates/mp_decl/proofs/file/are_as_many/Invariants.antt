use Rattle.std.proofs.Common.{◌≡◌, ◌+◌, map, drop, length}
use Rattle.mp_file.specs.Shown.{statement_of}
use Rattle.mp_statements.specs.Parts.{equations_of}
use Rattle.mp_decl.proofs.file.are_as_many.Given as goal

abbrev pub invariant-turns : goal.invariant-turns
invariant-turns l = length (equations_of (map statement_of (drop l.statement-index l.statements))) + l.count ≡ length (equations_of (map statement_of l.statements)) + l.left
