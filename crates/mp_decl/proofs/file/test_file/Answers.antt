use Rattle.std.proofs.Common.{map, sym, subst, ◌∙◌}
use Rattle.mp_file.specs.Shown.{statement_of}
use Rattle.mp_decl.specs.Walks.{Is}
use Rattle.mp_decl.proofs.WholeLaws.{known-names, declared_fault-stops, declared_fault-went, finds_on}
use Rattle.mp_decl.proofs.file.test_file.Goals as goal

pub returns-clause-names : goal.returns-clause-names
returns-clause-names c =
    known-names (map statement_of c.args.statements.now) c.walk.new.known (rw c.requires at c.in_ok-walk.ensures)

pub returns-clause-fault : goal.returns-clause-fault
returns-clause-fault c =
    declared_fault-went c.args.end (map statement_of c.args.statements.now) c.walk.new.known (rw c.requires at c.in_ok-walk.ensures)
    ∙ c.in_ok-test_whole.ensures

pub returns-in_err-walk-clause-fault : goal.returns-in_err-walk-clause-fault
returns-in_err-walk-clause-fault c =
    finds_on c.from_residual.result c.in_err-walk.field-0.0 _ c.from_residual.ensures.1
    (declared_fault-stops (map statement_of c.args.statements.now) c.args.end c.in_err-walk.field-0.0 (rw c.requires at c.in_err-walk.ensures))

pub returns-in_err-test_whole-clause-fault : goal.returns-in_err-test_whole-clause-fault
returns-in_err-test_whole-clause-fault c =
    let went = declared_fault-went c.args.end (map statement_of c.args.statements.now) c.walk.new.known (rw c.requires at c.in_ok-walk.ensures) in
    finds_on c.from_residual-in_err-test_whole.result c.in_err-test_whole.field-0.0 _ c.from_residual-in_err-test_whole.ensures.1
    (subst (Is c.in_err-test_whole.field-0.0) (sym went) c.in_err-test_whole.ensures)
