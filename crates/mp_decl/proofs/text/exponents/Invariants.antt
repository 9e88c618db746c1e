use Rattle.std.proofs.Common.{◌≡◌, map, drop}
use Rattle.mp_statements.specs.Parts.{items_of}
use Rattle.mp_file.specs.Shown.{statement_of}
use Rattle.mp_values.specs.Exponents.{all_exponents}
use Rattle.mp_fold.specs.Collected.{after}
use Rattle.mp_decl.proofs.text.exponents.Given as goal

abbrev pub invariant-turns : goal.invariant-turns
invariant-turns l =
    after l.found.items (all_exponents l.table (items_of (map statement_of (drop l.statement-index l.statements)))) ≡ all_exponents l.table (items_of (map statement_of l.statements))
