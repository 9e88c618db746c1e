use Rattle.std.proofs.Common.{refl, map}
use Rattle.std.specs.List.{flat_map}
use Rattle.mp_file.specs.Shown.{statement_of}
use Rattle.mp_declared.specs.Points.{points_in}
use Rattle.mp_decl.specs.Walk.{walk}
use Rattle.mp_decl.proofs.Turns.{turn_goes, turn_stops, passes_on}
use Rattle.mp_decl.proofs.walk.walk.Goals as goal

pub turns-preserved : goal.turns-preserved
turns-preserved c =
    turn_goes (λ x. points_in (statement_of x)) (λ xs. flat_map points_in (map statement_of xs)) (λ x xs. refl) c.args.statements.now c.turns.statement-index c.statement-item.result _ c.turns.known _ c.turns-test.true c.statement-item.is c.turns.invariant c.walk_statement.new.known c.in_ok-walk_statement.ensures

pub returns-in_err-walk_statement : goal.returns-in_err-walk_statement
returns-in_err-walk_statement c =
    passes_on c.from_residual.result c.in_err-walk_statement.field-0.0 _ (walk c.args.known.now (flat_map points_in (map statement_of c.args.statements.now))) c.from_residual.ensures.1
    (turn_stops (λ x. points_in (statement_of x)) (λ xs. flat_map points_in (map statement_of xs)) (λ x xs. refl) c.args.statements.now c.turns.statement-index c.statement-item.result _ c.turns.known _ c.turns-test.true c.statement-item.is c.turns.invariant c.in_err-walk_statement.field-0.0 c.in_err-walk_statement.ensures)
