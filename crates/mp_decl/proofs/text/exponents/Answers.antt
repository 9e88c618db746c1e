use Rattle.mp_decl.proofs.ExponentLaws.{turn_goes, turn_stops}
use Rattle.mp_decl.proofs.text.exponents.Goals as goal

pub turns-preserved : goal.turns-preserved
turns-preserved c =
    turn_goes c.args.table.now c.args.statements.now c.turns.statement-index c.statement-item.result c.statement-item.result c.turns.found.items _ c.turns-test.true c.statement-item.is c.turns.invariant tt c.add_exponents.new.found.items (rw c.items.ensures at c.in_default.ensures)

pub returns-in-Err : goal.returns-in-Err
returns-in-Err c =
    turn_stops c.args.table.now c.args.statements.now c.turns.statement-index c.statement-item.result c.statement-item.result c.turns.found.items _ c.turns-test.true c.statement-item.is c.turns.invariant c.in-Err.fault c.add_exponents.new.found.items (rw c.items.ensures at c.in-Err.ensures)
