use Rattle.std.proofs.Common.{List, map, drop, ◌++◌, ◌+◌, refl, ap}
use Rattle.std.proofs.lemmas.Result.{err_from_is_err_and}
use Rattle.mp_statements.specs.Statements.{Item}
use Rattle.mp_file.specs.Shown.{item_of}
use Rattle.mp_values.specs.Names.{Names}
use Rattle.mp_values.specs.From.{Taken}
use Rattle.mp_trees.specs.Made.{Equations, IsRest}
use Rattle.mp_trees.proofs.Entries.{drop_same}
use Rattle.mp_trees.proofs.Rest.{rest_at}
use Rattle.mp_trees.proofs.made.make_each.Goals as goal

pub make-requires : goal.make-requires
make-requires c =
    let q = c.requires in
    let items = c.args.items.now in
    let i = c.turns.item-index in
    let here = drop_same items items i c.item-item.result refl c.turns-test.true c.item-item.is in
    let more = map item_of (drop (i + 1) items) in
    (q.0, q.1, more ++ q.2, rest_at q.0 q.1 c.turns.graph c.turns.made _ c.turns.exponents (c.turns.invariant.makes q.0 q.1 q.2 q.3) _ (ap (λ l. map item_of l ++ q.2) here))

pub returns-in_err-make-clause-makes : goal.returns-in_err-make-clause-makes
returns-in_err-make-clause-makes c =
    let p = err_from_is_err_and c.from_residual.result c.from_residual.ensures.1 in
    let items = c.args.items.now in
    let i = c.turns.item-index in
    let here = drop_same items items i c.item-item.result refl c.turns-test.true c.item-item.is in
    rw (p.1, p.2)
    (λ (ns : Names) (whole : Taken Equations) (more : List Item) (r : IsRest ns whole c.args.graph.now c.args.made.now (map item_of items ++ more) c.args.exponents.now).
    c.in_err-make.ensures.makes ns whole (map item_of (drop (i + 1) items) ++ more)
    (rest_at ns whole c.turns.graph c.turns.made _ c.turns.exponents (c.turns.invariant.makes ns whole more r) _ (ap (λ l. map item_of l ++ more) here)))
