use Rattle.std.proofs.Common.{refl, map}
use Rattle.std.specs.List.{flat_map}
use Rattle.mp_file.specs.Shown.{item_of}
use Rattle.mp_declared.specs.Points.{item_points}
use Rattle.mp_decl.specs.Walk.{walk}
use Rattle.mp_decl.proofs.Turns.{turn_goes, turn_stops, passes_on}
use Rattle.mp_decl.proofs.walk.walk_items.Goals as goal

pub turns-preserved : goal.turns-preserved
turns-preserved c =
    turn_goes (λ x. item_points (item_of x)) (λ xs. flat_map item_points (map item_of xs)) (λ x xs. refl) c.args.items.now c.turns.item-index c.item-item.result _ c.turns.known _ c.turns-test.true c.item-item.is c.turns.invariant c.walk_item.new.known c.in_ok-walk_item.ensures

pub returns-in_err-walk_item : goal.returns-in_err-walk_item
returns-in_err-walk_item c =
    passes_on c.from_residual.result c.in_err-walk_item.field-0.0 _ (walk c.args.known.now (flat_map item_points (map item_of c.args.items.now))) c.from_residual.ensures.1
    (turn_stops (λ x. item_points (item_of x)) (λ xs. flat_map item_points (map item_of xs)) (λ x xs. refl) c.args.items.now c.turns.item-index c.item-item.result _ c.turns.known _ c.turns-test.true c.item-item.is c.turns.invariant c.in_err-walk_item.field-0.0 c.in_err-walk_item.ensures)
