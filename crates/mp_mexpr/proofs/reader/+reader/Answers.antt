use Rattle.std.proofs.Common.{◌-◌, sym, ap, ◌∙◌, arith, Some, None, List}
use Rattle.std.proofs.lemmas.Result.{err_from_is_err_and}
use Rattle.mp_mexpr.specs.declared.token.Mark.TheVariants as m
use Rattle.mp_mexpr.specs.declared.expression.Step.TheVariants as step
use Rattle.mp_mexpr.specs.Tokens.{Tok, toks}
use Rattle.mp_mexpr.specs.Syntax.{Expr, Apply, Index, Empty, With}
use Rattle.mp_mexpr.specs.Shown.{expr_of, after, all_stepped}
use Rattle.mp_mexpr.specs.Grammar.{past, operator_at, repeated, applied, extended, indexed, level_at, inside_at}
use Rattle.mp_mexpr.proofs.Reading.{repeated-end, repeated-none, repeated-next, repeated-fails, applied-is, extended-is, indexed-is, Reads-fails, seen_expr, seen_exprs, seen_rest}
use Rattle.mp_mexpr.proofs.Views.{after-push, stepped-push}
use Rattle.mp_mexpr.proofs.reader.+reader.Goals as goal

pub add_operators-returns-in_default : goal.add_operators-returns-in_default
add_operators-returns-in_default t c = λ first.
    sym (c.turns.invariant first) ∙ repeated-end (operator_at c.args.level) (applied (level_at (inside_at c.args.room) c.args.level)) c.turns.left (all_stepped first c.turns.steps) (toks c.turns.rest.now) c.in_default.ensures

pub add_operators-returns : goal.add_operators-returns
add_operators-returns t c = λ first.
    sym (c.turns.invariant first) ∙ repeated-none (operator_at c.args.level) (applied (level_at (inside_at c.args.room) c.args.level)) c.turns.left (all_stepped first c.turns.steps) (toks c.turns.rest.now) (omega arith)

pub add_operators-returns-in_err-right : goal.add_operators-returns-in_err-right
add_operators-returns-in_err-right t c = λ first.
    let q = err_from_is_err_and c.from_residual.result c.from_residual.ensures.1 in
    rw (q.1, q.2)
    (Reads-fails seen_expr (seen_rest (all_stepped first c.turns.steps)) c.in_err-right.field-0.0 _ _
    (λ none. repeated-fails (operator_at c.args.level) (applied (level_at (inside_at c.args.room) c.args.level)) c.turns.left (all_stepped first c.turns.steps) (toks c.turns.rest.now) (c.in-Some.operator, toks c.in-Some.after.now) _ (c.turns.invariant first) c.turns-test.true c.in-Some.ensures (applied-is (level_at (inside_at c.args.room) c.args.level) (all_stepped first c.turns.steps) (c.in-Some.operator, toks c.in-Some.after.now) None none))
    c.in_err-right.ensures)

pub add_operators-turns-preserved : goal.add_operators-turns-preserved
add_operators-turns-preserved t c = λ first.
    let before : Expr = all_stepped first c.turns.steps in
    let read : Expr × List Tok = (expr_of c.in_ok-right.right, toks c.in_ok-right.next.now) in
    ap (λ x. repeated (c.turns.left - 1) (operator_at c.args.level) (applied (level_at (inside_at c.args.room) c.args.level)) x (toks c.in_ok-right.next.now)) (ap (all_stepped first) c.in_ok-push.ensures.ok ∙ stepped-push first c.turns.steps (step.Apply c.in-Some.operator c.in_ok-right.right))
    ∙ repeated-next (operator_at c.args.level) (applied (level_at (inside_at c.args.room) c.args.level)) c.turns.left before (toks c.turns.rest.now) (c.in-Some.operator, toks c.in-Some.after.now) (Apply c.in-Some.operator before (expr_of c.in_ok-right.right), toks c.in_ok-right.next.now) _ (c.turns.invariant first) c.turns-test.true c.in-Some.ensures (applied-is (level_at (inside_at c.args.room) c.args.level) before (c.in-Some.operator, toks c.in-Some.after.now) (Some read) c.in_ok-right.ensures)

pub add_places-returns-in_default : goal.add_places-returns-in_default
add_places-returns-in_default t c = λ first.
    sym (c.turns.invariant first) ∙ repeated-end (past m.OpenBracket) (indexed (inside_at c.args.room)) c.turns.left (all_stepped first c.turns.steps) (toks c.turns.rest.now) c.in_default.ensures

pub add_places-returns : goal.add_places-returns
add_places-returns t c = λ first.
    sym (c.turns.invariant first) ∙ repeated-none (past m.OpenBracket) (indexed (inside_at c.args.room)) c.turns.left (all_stepped first c.turns.steps) (toks c.turns.rest.now) (omega arith)

pub add_places-returns-in_err-place : goal.add_places-returns-in_err-place
add_places-returns-in_err-place t c = λ first.
    let q = err_from_is_err_and c.from_residual.result c.from_residual.ensures.1 in
    rw (q.1, q.2)
    (Reads-fails seen_expr (seen_rest (all_stepped first c.turns.steps)) c.in_err-place.field-0.0 _ _
    (λ none. repeated-fails (past m.OpenBracket) (indexed (inside_at c.args.room)) c.turns.left (all_stepped first c.turns.steps) (toks c.turns.rest.now) (toks c.in-Some.after.now) _ (c.turns.invariant first) c.turns-test.true c.in-Some.ensures (indexed-is (inside_at c.args.room) (all_stepped first c.turns.steps) (toks c.in-Some.after.now) None none))
    c.in_err-place.ensures)

pub add_places-turns-preserved : goal.add_places-turns-preserved
add_places-turns-preserved t c = λ first.
    let before : Expr = all_stepped first c.turns.steps in
    let read : Expr × List Tok = (expr_of c.in_ok-place.place, toks c.in_ok-place.next.now) in
    ap (λ x. repeated (c.turns.left - 1) (past m.OpenBracket) (indexed (inside_at c.args.room)) x (toks c.in_ok-place.next.now)) (ap (all_stepped first) c.in_ok-push.ensures.ok ∙ stepped-push first c.turns.steps (step.Index c.in_ok-place.place))
    ∙ repeated-next (past m.OpenBracket) (indexed (inside_at c.args.room)) c.turns.left before (toks c.turns.rest.now) (toks c.in-Some.after.now) (Index before (expr_of c.in_ok-place.place), toks c.in_ok-place.next.now) _ (c.turns.invariant first) c.turns-test.true c.in-Some.ensures (indexed-is (inside_at c.args.room) before (toks c.in-Some.after.now) (Some read) c.in_ok-place.ensures)

pub chain_of-returns : goal.chain_of-returns
chain_of-returns t c =
    c.with_steps.ensures _ (rw c.new-steps.ensures at c.add_operators-rest.ensures (expr_of c.args.first))

pub places_of-returns : goal.places_of-returns
places_of-returns t c =
    c.with_steps.ensures _ (rw c.new-steps.ensures at c.add_places-rest.ensures (expr_of c.args.first))

pub more_elements-returns-in_default : goal.more_elements-returns-in_default
more_elements-returns-in_default t c =
    sym c.turns.invariant ∙ repeated-end (past m.Comma) (extended (inside_at c.args.room)) c.turns.left (after Empty c.turns.found) (toks c.turns.rest.now) c.in_default.ensures

pub more_elements-returns : goal.more_elements-returns
more_elements-returns t c =
    sym c.turns.invariant ∙ repeated-none (past m.Comma) (extended (inside_at c.args.room)) c.turns.left (after Empty c.turns.found) (toks c.turns.rest.now) (omega arith)

pub more_elements-returns-in_err-last : goal.more_elements-returns-in_err-last
more_elements-returns-in_err-last t c =
    let q = err_from_is_err_and c.from_residual.result c.from_residual.ensures.1 in
    rw (q.1, q.2)
    (Reads-fails seen_expr seen_exprs c.in_err-last.field-0.0 _ _
    (λ none. repeated-fails (past m.Comma) (extended (inside_at c.args.room)) c.turns.left (after Empty c.turns.found) (toks c.turns.rest.now) (toks c.in-Some.after.now) _ c.turns.invariant c.turns-test.true c.in-Some.ensures (extended-is (inside_at c.args.room) (after Empty c.turns.found) (toks c.in-Some.after.now) None none))
    c.in_err-last.ensures)

pub more_elements-turns-preserved : goal.more_elements-turns-preserved
more_elements-turns-preserved t c =
    let read : Expr × List Tok = (expr_of c.in_ok-last.last, toks c.in_ok-last.next.now) in
    ap (λ x. repeated (c.turns.left - 1) (past m.Comma) (extended (inside_at c.args.room)) x (toks c.in_ok-last.next.now)) (ap (after Empty) c.in_ok-push.ensures.ok ∙ after-push Empty c.turns.found c.in_ok-last.last)
    ∙ repeated-next (past m.Comma) (extended (inside_at c.args.room)) c.turns.left (after Empty c.turns.found) (toks c.turns.rest.now) (toks c.in-Some.after.now) (With (after Empty c.turns.found) (expr_of c.in_ok-last.last), toks c.in_ok-last.next.now) _ c.turns.invariant c.turns-test.true c.in-Some.ensures (extended-is (inside_at c.args.room) (after Empty c.turns.found) (toks c.in-Some.after.now) (Some read) c.in_ok-last.ensures)
