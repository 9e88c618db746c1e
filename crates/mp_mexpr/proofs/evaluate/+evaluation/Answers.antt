use Rattle.std.proofs.Common.{◌≡◌, Ok, Err, sym, ap, ◌∙◌, subst, arith}
use Rattle.std.proofs.lemmas.Result.{err_from_is_err_and}
use Rattle.mp_base.specs.Answers.{Gives, Refuses}
use Rattle.mp_mvalue.specs.Environments.{value_in}
use Rattle.mp_mvalue.specs.Shared.{unshared}
use Rattle.mp_mvalue.specs.Told.{told}
use Rattle.mp_mexpr.specs.Shown.{expr_of, after, all_stepped}
use Rattle.mp_mexpr.specs.Steps.{steps_value}
use Rattle.mp_mexpr.specs.Syntax.{value_of}
use Rattle.mp_mexpr.specs.Syntax as s
use Rattle.mp_mexpr.proofs.Views.{array-is, chain-is}
use Rattle.mp_mexpr.proofs.Evaluating.{steps-are, first-stops, steps-stop, elements-stop, elements-end}
use Rattle.mp_mexpr.proofs.evaluate.+evaluation.Goals as goal

pub after_steps-returns-in_err-found : goal.after_steps-returns-in_err-found
after_steps-returns-in_err-found t c =
    let p = err_from_is_err_and c.from_residual.result c.from_residual.ensures.1 in
    rw (p.1, p.2) (steps-stop (value_in c.args.env.now) (Ok (unshared c.args.first)) (Ok (unshared c.loop-step.found)) c.args.steps.now c.loop-step.step-index c.step-item.result (told c.in_err-found.field-0.0) c.loop-step-test.true c.step-item.is c.loop-step.invariant c.in_err-found.ensures)

pub array_of-returns-in_err-value_of : goal.array_of-returns-in_err-value_of
array_of-returns-in_err-value_of t c =
    let p = err_from_is_err_and c.from_residual.result c.from_residual.ensures.1 in
    rw (p.1, p.2) (elements-stop (value_in c.args.env.now) c.loop-element.invariant.0 c.args.elements.now c.loop-element.element-index c.element-item.result (told c.in_err-value_of.field-0.0) c.loop-element-test.true c.element-item.is c.loop-element.invariant.2 c.in_err-value_of.ensures)

pub array_of-returns : goal.array_of-returns
array_of-returns t c =
    subst (Gives unshared told c.finish.result) (elements-end (value_in c.args.env.now) c.loop-element.invariant.0 c.args.elements.now c.loop-element.element-index (omega (arith, c.loop-element-test.false)) c.loop-element.invariant.2) (c.finish.ensures c.loop-element.invariant.0 c.loop-element.invariant.1)

pub value_of-returns-in-Array : goal.value_of-returns-in-Array
value_of-returns-in-Array t c =
    let is = ap expr_of c.in-Array.is ∙ array-is c.in-Array.elements ∙ ap (λ es. s.Array (after s.Empty es)) (sym c.as_slice.ensures) in
    subst (λ e. Gives unshared told c.array_of.result (value_of (value_in c.args.env.now) e)) (sym is) c.array_of.ensures

pub value_of-returns-in_err-first-in-Chain : goal.value_of-returns-in_err-first-in-Chain
value_of-returns-in_err-first-in-Chain t c =
    let p = err_from_is_err_and c.from_residual-in_err-first-in-Chain.result c.from_residual-in_err-first-in-Chain.ensures.1 in
    let is = ap expr_of c.in-Chain.is ∙ chain-is c.in-Chain.first c.in-Chain.steps in
    let read = subst (λ e. Refuses (told c.in_err-first-in-Chain.field-0.0) (value_of (value_in c.args.env.now) (expr_of e))) c.deref-in-Chain.ensures c.in_err-first-in-Chain.ensures in
    rw (p.1, p.2) (subst (λ e. Refuses (told c.in_err-first-in-Chain.field-0.0) (value_of (value_in c.args.env.now) e)) (sym is) (first-stops (value_in c.args.env.now) (expr_of c.in-Chain.first.value) c.in-Chain.steps (told c.in_err-first-in-Chain.field-0.0) read))

pub value_of-returns-in_ok-first-in-Chain : goal.value_of-returns-in_ok-first-in-Chain
value_of-returns-in_ok-first-in-Chain t c =
    let names = value_in c.args.env.now in
    let is = ap expr_of c.in-Chain.is ∙ chain-is c.in-Chain.first c.in-Chain.steps ∙ ap (all_stepped (expr_of c.in-Chain.first.value)) (sym c.as_slice-in-Chain.ensures) in
    let read : value_of names (expr_of c.in-Chain.first.value) ≡ Ok (unshared c.in_ok-first-in-Chain.first) = ap (λ e. value_of names (expr_of e)) (sym c.deref-in-Chain.ensures) ∙ c.in_ok-first-in-Chain.ensures in
    let whole : value_of names (expr_of c.args.expr.now) ≡ steps_value names (Ok (unshared c.in_ok-first-in-Chain.first)) c.as_slice-in-Chain.result.now = ap (value_of names) is ∙ steps-are names (expr_of c.in-Chain.first.value) c.as_slice-in-Chain.result.now ∙ ap (λ v. steps_value names v c.as_slice-in-Chain.result.now) read in
    subst (Gives unshared told c.after_steps.result) (sym whole) c.after_steps.ensures
