use Rattle.std.proofs.Common.{◌≡◌, ◌+◌, [], ◌++◌, map, take, drop, None, refl, sym, ap, ◌∙◌}
use Rattle.std.specs.List.{flat_map}
use Rattle.std.proofs.lemmas.List.{take_all}
use Rattle.mp_declared.specs.Many.{declared_in}
use Rattle.mp_file.specs.Shown.{statement_of, file_of}
use Rattle.mp_local.specs.declared.many.Room.{Room}
use Rattle.mp_local.proofs.Views.{parts_more, parts_rest}
use Rattle.mp_local.proofs.ManyLaws.{passes_further, passes_found, passes_none, same_names, told, leaves_all}
use Rattle.mp_local.proofs.many.name_beyond.Goals as goal

pub turns-init : goal.turns-init
turns-init c leaves = (refl, leaves)

pub returns-then-is_some : goal.returns-then-is_some
returns-then-is_some c =
    let room : Room = record { endogenous = c.most_names.result; exogenous = c.most_names-2.result; parameters = c.most_names-3.result } in
    let all = c.as_slice-statement-items.result.now in
    let i = c.turns.statement-index in
    let before = flat_map declared_in (map statement_of (take i all)) in
    let here = declared_in (statement_of c.statement-item.result) in
    let rest = flat_map declared_in (map statement_of (drop (i + 1) all)) in
    let found = c.beyond_in-beyond.result in
    let new = c.beyond_in-beyond.new.room in
    let so_far = passes_further [] before here room c.turns.room new found c.turns.invariant (c.beyond_in-beyond.ensures before) in
    let whole : flat_map declared_in (file_of c.args.file.now) ≡ (before ++ here) ++ rest =
    ap (λ l. flat_map declared_in (map statement_of l)) (sym c.as_slice-statement-items.ensures)
    ∙ parts_rest declared_in statement_of all (i + 1)
    ∙ ap (λ l. l ++ rest) (parts_more declared_in statement_of all i c.statement-item.result c.statement-item.result c.turns-test.true c.statement-item.is) in
    told [] (flat_map declared_in (file_of c.args.file.now)) room new found (leaves_all room c.most_names.ensures c.most_names-2.ensures c.most_names-3.ensures)
    (same_names [] room new _ _ found whole (passes_found [] (before ++ here) rest room new new found (sym c.if-is_some.ensures) so_far))

pub turns-preserved : goal.turns-preserved
turns-preserved c =
    let room : Room = record { endogenous = c.most_names.result; exogenous = c.most_names-2.result; parameters = c.most_names-3.result } in
    let all = c.as_slice-statement-items.result.now in
    let i = c.turns.statement-index in
    let before = flat_map declared_in (map statement_of (take i all)) in
    let here = declared_in (statement_of c.statement-item.result) in
    let found = c.beyond_in-beyond.result in
    let new = c.beyond_in-beyond.new.room in
    same_names [] room new _ _ None (parts_more declared_in statement_of all i c.statement-item.result c.statement-item.result c.turns-test.true c.statement-item.is)
    (passes_none [] (before ++ here) room new found (sym c.if-is_some.ensures) (passes_further [] before here room c.turns.room new found c.turns.invariant (c.beyond_in-beyond.ensures before)))

pub returns : goal.returns
returns c =
    let room : Room = record { endogenous = c.most_names.result; exogenous = c.most_names-2.result; parameters = c.most_names-3.result } in
    let all = c.as_slice-statement-items.result.now in
    let whole : flat_map declared_in (file_of c.args.file.now) ≡ flat_map declared_in (map statement_of (take c.turns.statement-index all)) =
    ap (λ l. flat_map declared_in (map statement_of l)) (sym c.as_slice-statement-items.ensures ∙ sym (take_all c.turns.statement-index all c.turns-test.false)) in
    told [] (flat_map declared_in (file_of c.args.file.now)) room c.turns.room None (leaves_all room c.most_names.ensures c.most_names-2.ensures c.most_names-3.ensures)
    (same_names [] room c.turns.room _ _ None whole c.turns.invariant)
