use Rattle.std.proofs.Common.{map}
use Rattle.mp_statements.specs.Parts.{items_in, equations_of}
use Rattle.mp_file.specs.Shown.{statement_of}
use Rattle.mp_declared.specs.Declared.{equation_names}
use Rattle.mp_decl.proofs.SharedLaws.{item_names, file_names-more, names_turn, lent}
use Rattle.mp_decl.proofs.shared.add_all_names.Goals as goal

pub turns-preserved : goal.turns-preserved
turns-preserved c =
    names_turn (λ x. item_names (items_in (statement_of x))) (λ xs. equation_names (equations_of (map statement_of xs))) (λ x xs. file_names-more (statement_of x) (map statement_of xs)) c.args.statements.now c.turns.statement-index c.statement-item.result c.statement-item.result (lent c.turns.names.items) _ c.turns-test.true c.statement-item.is c.turns.invariant (lent c.add_names.new.names.items) (rw c.items.ensures at c.in_ok-add_names.ensures)
