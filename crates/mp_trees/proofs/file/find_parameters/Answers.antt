use Rattle.std.proofs.Common.{map, drop, ◌+◌, sym, ap, ◌∙◌}
use Rattle.std.proofs.lemmas.Result.{err_from_is_err_and}
use Rattle.mp_names.specs.Entry.{entry_of}
use Rattle.mp_model_data.specs.Shown.{parameter_of}
use Rattle.mp_values.specs.ModelOf.{each, parameters_given}
use Rattle.mp_trees.specs.Parts.{after_these, parameter_given}
use Rattle.mp_trees.proofs.Bound.{next_given, next_fails}
use Rattle.mp_trees.proofs.Entries.{drop_at}
use Rattle.mp_trees.proofs.file.find_parameters.Goals as goal

pub returns-in_err-parameter : goal.returns-in_err-parameter
returns-in_err-parameter c =
    let table = c.args.table.now in
    let here = drop_at table c.turns.place (entry_of c.entry_at.result) c.entry_at.ensures in
    let so_far = ap (λ l. after_these (map parameter_of c.turns.found.items) (each parameter_given l)) (sym here) ∙ c.turns.invariant in
    let p = err_from_is_err_and c.from_residual.result c.from_residual.ensures.1 in
    rw (p.1, p.2) (next_fails parameter_given _ (map parameter_of c.turns.found.items) (entry_of c.entry_at.result) (drop (c.turns.place + 1) table) (parameters_given table) so_far c.in_err-parameter.ensures)

pub turns-preserved : goal.turns-preserved
turns-preserved c =
    let table = c.args.table.now in
    let here = drop_at table c.turns.place (entry_of c.entry_at.result) c.entry_at.ensures in
    let so_far = ap (λ l. after_these (map parameter_of c.turns.found.items) (each parameter_given l)) (sym here) ∙ c.turns.invariant in
    next_given parameter_given (map parameter_of c.turns.found.items) _ (entry_of c.entry_at.result) (drop (c.turns.place + 1) table) (parameter_of c.in_ok-parameter.parameter) (parameters_given table) so_far c.in_ok-parameter.ensures c.in_ok-push.ensures
