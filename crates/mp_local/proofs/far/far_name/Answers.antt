use Rattle.std.proofs.Common.{◌≡◌, ◌+◌, ◌++◌, map, take, drop, None, refl, sym, ap, ◌∙◌}
use Rattle.std.proofs.lemmas.List.{take_all}
use Rattle.mp_statements.specs.Parts.{items_in, items_of}
use Rattle.mp_file.specs.Shown.{item_of, statement_of, file_of}
use Rattle.mp_values.specs.Shifts.{no_locals}
use Rattle.mp_local.specs.Known.{counted}
use Rattle.mp_local.specs.Reaches.{with_items}
use Rattle.mp_local.proofs.KnownLaws.{knows_none}
use Rattle.mp_local.proofs.Views.{parts_more, parts_rest}
use Rattle.mp_local.proofs.FarLaws.{goes_further, goes_found, goes_none, same_items, same_limit, told}
use Rattle.mp_local.proofs.far.far_name.Goals as goal

pub turns-init : goal.turns-init
turns-init c =
    (refl, refl, knows_none (record { limit = c.args.limit; scope = c.args.scope; names = c.args.names; locals = c.new.result }) c.new.ensures)

pub turns-preserved : goal.turns-preserved
turns-preserved c =
    let s = no_locals (counted c.args.scope c.args.names.now) in
    let all = c.as_slice-statement-items.result.now in
    let i = c.turns.statement-index in
    let before = items_of (map statement_of (take i all)) in
    let here = map item_of c.items_of.result.now in
    let one = same_limit c.turns.known.limit c.args.limit (with_items s before) here c.far_in_items.new.known c.in_ok-far.far c.turns.invariant.0 (c.in_ok-far.ensures (with_items s before) c.turns.invariant.2) in
    let none = goes_none c.args.limit s (before ++ here) c.far_in_items.new.known c.in_ok-far.far (sym c.if-is_some.ensures) (goes_further c.args.limit s before here c.turns.known c.far_in_items.new.known c.in_ok-far.far c.turns.invariant one) in
    same_items c.args.limit s _ _ c.far_in_items.new.known None (parts_more items_in statement_of all i c.statement-item.result c.statement-item.result c.turns-test.true c.statement-item.is ∙ ap (λ l. before ++ l) (sym c.items_of.ensures)) none

pub returns-then-is_some : goal.returns-then-is_some
returns-then-is_some c =
    let s = no_locals (counted c.args.scope c.args.names.now) in
    let all = c.as_slice-statement-items.result.now in
    let i = c.turns.statement-index in
    let before = items_of (map statement_of (take i all)) in
    let here = map item_of c.items_of.result.now in
    let rest = items_of (map statement_of (drop (i + 1) all)) in
    let one = same_limit c.turns.known.limit c.args.limit (with_items s before) here c.far_in_items.new.known c.in_ok-far.far c.turns.invariant.0 (c.in_ok-far.ensures (with_items s before) c.turns.invariant.2) in
    let found = goes_found c.args.limit s (before ++ here) rest c.far_in_items.new.known c.far_in_items.new.known c.in_ok-far.far (sym c.if-is_some.ensures) (goes_further c.args.limit s before here c.turns.known c.far_in_items.new.known c.in_ok-far.far c.turns.invariant one) in
    let whole : items_of (file_of c.args.file.now) ≡ (before ++ here) ++ rest =
    ap (λ l. items_of (map statement_of l)) (sym c.as_slice-statement-items.ensures)
    ∙ parts_rest items_in statement_of all (i + 1)
    ∙ ap (λ l. l ++ rest) (parts_more items_in statement_of all i c.statement-item.result c.statement-item.result c.turns-test.true c.statement-item.is ∙ ap (λ l. before ++ l) (sym c.items_of.ensures)) in
    told c.args.limit s (items_of (file_of c.args.file.now)) c.far_in_items.new.known c.in_ok-far.far (same_items c.args.limit s _ _ c.far_in_items.new.known c.in_ok-far.far whole found)

pub returns : goal.returns
returns c =
    let s = no_locals (counted c.args.scope c.args.names.now) in
    let all = c.as_slice-statement-items.result.now in
    let whole : items_of (file_of c.args.file.now) ≡ items_of (map statement_of (take c.turns.statement-index all)) =
    ap (λ l. items_of (map statement_of l)) (sym c.as_slice-statement-items.ensures ∙ sym (take_all c.turns.statement-index all c.turns-test.false)) in
    told c.args.limit s (items_of (file_of c.args.file.now)) c.turns.known None (same_items c.args.limit s _ _ c.turns.known None whole c.turns.invariant)
