use Rattle.std.proofs.Common.{map, ◌++◌}
use Rattle.std.specs.List.{flat_map}
use Rattle.mp_file.specs.Shown.{choice_of, item_of}
use Rattle.mp_declared.specs.Points.{Chosen, item_points}
use Rattle.mp_decl.specs.Walk.{walk}
use Rattle.mp_decl.proofs.Turns.{Walks-went, Stops-append, passes_on}
use Rattle.mp_decl.proofs.walk.walk_model.Goals as goal

pub returns : goal.returns
returns c =
    let options = map Chosen (map choice_of c.args.choices.now) in
    let items = flat_map item_points (map item_of c.args.items.now) in
    Walks-went c.walk_items.result c.args.known.now c.walk_choices.new.known c.walk_items.new.known options items c.in_ok-walk_choices.ensures c.walk_items.ensures

pub returns-in_err-walk_choices : goal.returns-in_err-walk_choices
returns-in_err-walk_choices c =
    let options = map Chosen (map choice_of c.args.choices.now) in
    let items = flat_map item_points (map item_of c.args.items.now) in
    passes_on c.from_residual.result c.in_err-walk_choices.field-0.0 _ (walk c.args.known.now (options ++ items)) c.from_residual.ensures.1
    (Stops-append c.in_err-walk_choices.field-0.0 c.args.known.now options items c.in_err-walk_choices.ensures)
