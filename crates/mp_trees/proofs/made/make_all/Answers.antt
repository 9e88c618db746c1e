use Rattle.std.proofs.Common.{[], map, drop, ◌++◌, ◌+◌, sym, ap, ◌∙◌}
use Rattle.std.proofs.lemmas.Result.{err_from_is_err_and}
use Rattle.mp_statements.specs.Parts.{items_of}
use Rattle.mp_file.specs.Shown.{statement_of, file_of}
use Rattle.mp_graph.proofs.Kept.{keeps-trans}
use Rattle.mp_values.specs.From.{items_from}
use Rattle.mp_trees.proofs.Entries.{drop_same}
use Rattle.mp_trees.proofs.Rest.{rest_at}
use Rattle.mp_trees.proofs.made.make_all.Goals as goal

pub returns-in_err-make_each-clause-equations : goal.returns-in_err-make_each-clause-equations
returns-in_err-make_each-clause-equations c =
    let p = err_from_is_err_and c.from_residual.result c.from_residual.ensures.1 in
    let ns = c.args.graph.now.names in
    let all = c.args.file.now.statements in
    let i = c.turns.statement-index in
    let more = items_of (map statement_of (drop (i + 1) all)) in
    let whole = items_from ns [] (items_of (file_of c.args.file.now)) c.args.exponents.now in
    let here = drop_same c.as_slice-statement-items.result.now all i c.statement-item.result c.as_slice-statement-items.ensures c.turns-test.true c.statement-item.is in
    rw (p.1, p.2)
    (c.in_err-make_each.ensures.makes ns whole more
    (rest_at ns whole c.turns.graph c.turns.made _ c.turns.exponents c.turns.invariant.rest _ (ap (λ l. items_of (map statement_of l)) here ∙ ap (λ l. l ++ more) (sym c.items_of.ensures))))

pub turns-preserved : goal.turns-preserved
turns-preserved c =
    let ns = c.args.graph.now.names in
    let all = c.args.file.now.statements in
    let i = c.turns.statement-index in
    let more = items_of (map statement_of (drop (i + 1) all)) in
    let whole = items_from ns [] (items_of (file_of c.args.file.now)) c.args.exponents.now in
    let here = drop_same c.as_slice-statement-items.result.now all i c.statement-item.result c.as_slice-statement-items.ensures c.turns-test.true c.statement-item.is in
    record {
      kept = keeps-trans _ _ _ c.turns.invariant.kept c.in_ok-make_each.ensures.kept;
      rest = c.in_ok-make_each.ensures.makes ns whole more
          (rest_at ns whole c.turns.graph c.turns.made _ c.turns.exponents c.turns.invariant.rest _ (ap (λ l. items_of (map statement_of l)) here ∙ ap (λ l. l ++ more) (sym c.items_of.ensures)));
    }
