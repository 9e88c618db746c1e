use Rattle.std.proofs.Common.{ℕ, ◌+◌, [], ◌∷◌, ◌++◌, map, take, drop, Err, Ok, Some, None, sym, ap, subst, ◌∙◌}
use Rattle.std.proofs.lemmas.List.{take_all}
use Rattle.mp_file.specs.Shown.{item_of}
use Rattle.mp_values.specs.Shifts.{item_readings}
use Rattle.mp_local.specs.Reaches.{Reaches, with_items}
use Rattle.mp_local.proofs.Views.{views_more, views_rest}
use Rattle.mp_local.proofs.FarLaws.{goes_front, goes_further, goes_far, goes_on, same_items}
use Rattle.mp_local.proofs.far.far_in_items.Goals as goal

pub returns-in-Err : goal.returns-in-Err
returns-in-Err c s knows =
    let items = c.args.items.now in
    let i = c.turns.item-index in
    let x = item_of c.item-item.result in
    let limit = c.args.known.now.limit in
    let before = map item_of (take i items) in
    let so_far = c.turns.invariant s knows in
    let reach = subst (λ (n : ℕ). Reaches n (with_items s before) (item_readings x) (Err c.in-Err.far)) so_far.0 (c.in-Err.ensures (with_items s before) so_far.2) in
    let here = goes_further limit s before (x ∷ []) c.turns.known c.turns.known (Some c.in-Err.far) so_far (goes_far limit (with_items s before) x c.turns.known c.in-Err.far reach) in
    same_items limit s (map item_of items) _ c.turns.known (Some c.in-Err.far) (views_rest item_of items (i + 1) ∙ ap (λ l. l ++ map item_of (drop (i + 1) items)) (views_more item_of items i c.item-item.result c.item-item.result c.turns-test.true c.item-item.is))
    (goes_front limit s (before ++ x ∷ []) (map item_of (drop (i + 1) items)) c.turns.known c.turns.known c.in-Err.far here)

pub turns-preserved : goal.turns-preserved
turns-preserved c s knows =
    let items = c.args.items.now in
    let i = c.turns.item-index in
    let x = item_of c.item-item.result in
    let limit = c.args.known.now.limit in
    let before = map item_of (take i items) in
    let so_far = c.turns.invariant s knows in
    let reach = subst (λ (n : ℕ). Reaches n (with_items s before) (item_readings x) (Ok c.in-Ok.ends)) so_far.0 (c.in-Ok.ensures (with_items s before) so_far.2) in
    let one = goes_on limit (with_items s before) x c.add_item.new.known c.in-Ok.ends (c.in_ok-add_item.ensures.limit ∙ so_far.0) reach (c.in_ok-add_item.ensures.knows (with_items s before) so_far.2) in
    same_items limit s _ _ c.add_item.new.known None (views_more item_of items i c.item-item.result c.item-item.result c.turns-test.true c.item-item.is)
    (goes_further limit s before (x ∷ []) c.turns.known c.add_item.new.known None so_far one)

pub returns : goal.returns
returns c s knows =
    same_items c.args.known.now.limit s _ _ c.turns.known None (ap (map item_of) (sym (take_all c.turns.item-index c.args.items.now c.turns-test.false))) (c.turns.invariant s knows)
