use Rattle.mp_file.specs.Shown.{file_of}
use Rattle.mp_model_data.specs.Shown.{model_data}
use Rattle.mp_local.specs.Local.{local_by, local_given}
use Rattle.mp_local.specs.Reaches.{stopped_far}
use Rattle.mp_local.proofs.GivesLaws.{shifts_fail, height_fails, size_fails, gives_fails, gives_same, local_exactly}
use Rattle.mp_local.proofs.expand.expand_locals.Goals as goal

pub returns-in_err-test_shifts-clause-given : goal.returns-in_err-test_shifts-clause-given
returns-in_err-test_shifts-clause-given c written =
    let file = file_of c.args.file.now in
    let e = c.in_err-test_shifts.field-0.0 in
    gives_same model_data c.from_residual-in_err-test_shifts.result (local_by stopped_far file) (local_given file) (local_exactly file written)
    (gives_fails model_data c.from_residual-in_err-test_shifts.result e (local_by stopped_far file) c.from_residual-in_err-test_shifts.ensures.1 (shifts_fail stopped_far file e c.in_ok-test_names.ensures c.in_err-test_shifts.ensures))

pub returns-in_err-test_height-clause-told : goal.returns-in_err-test_height-clause-told
returns-in_err-test_height-clause-told c =
    let file = file_of c.args.file.now in
    let e = c.in_err-test_height.field-0.0 in
    gives_fails model_data c.from_residual-in_err-test_height.result e (local_by stopped_far file) c.from_residual-in_err-test_height.ensures.1
    (height_fails stopped_far file c.in_ok-test_names.ensures c.in_ok-test_shifts.ensures e (model_data c.in_ok-model.model) c.in_ok-model.ensures c.in_err-test_height.ensures)

pub returns-in_err-test_height-clause-given : goal.returns-in_err-test_height-clause-given
returns-in_err-test_height-clause-given c written =
    let file = file_of c.args.file.now in
    let e = c.in_err-test_height.field-0.0 in
    gives_same model_data c.from_residual-in_err-test_height.result (local_by stopped_far file) (local_given file) (local_exactly file written)
    (gives_fails model_data c.from_residual-in_err-test_height.result e (local_by stopped_far file) c.from_residual-in_err-test_height.ensures.1
    (height_fails stopped_far file c.in_ok-test_names.ensures c.in_ok-test_shifts.ensures e (model_data c.in_ok-model.model) c.in_ok-model.ensures c.in_err-test_height.ensures))

pub returns-in_err-test_size-clause-told : goal.returns-in_err-test_size-clause-told
returns-in_err-test_size-clause-told c =
    let file = file_of c.args.file.now in
    let e = c.in_err-test_size.field-0.0 in
    gives_fails model_data c.from_residual-in_err-test_size.result e (local_by stopped_far file) c.from_residual-in_err-test_size.ensures.1
    (size_fails stopped_far file c.in_ok-test_names.ensures c.in_ok-test_shifts.ensures e (model_data c.in_ok-model.model) c.in_ok-model.ensures c.in_ok-test_height.ensures c.in_err-test_size.ensures)

pub returns-in_err-test_size-clause-given : goal.returns-in_err-test_size-clause-given
returns-in_err-test_size-clause-given c written =
    let file = file_of c.args.file.now in
    let e = c.in_err-test_size.field-0.0 in
    gives_same model_data c.from_residual-in_err-test_size.result (local_by stopped_far file) (local_given file) (local_exactly file written)
    (gives_fails model_data c.from_residual-in_err-test_size.result e (local_by stopped_far file) c.from_residual-in_err-test_size.ensures.1
    (size_fails stopped_far file c.in_ok-test_names.ensures c.in_ok-test_shifts.ensures e (model_data c.in_ok-model.model) c.in_ok-model.ensures c.in_ok-test_height.ensures c.in_err-test_size.ensures))
