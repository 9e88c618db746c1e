use Rattle.std.proofs.Common.{refl, sym, ap, ◌∙◌, map, Ok, [], ◌∷◌}
use Rattle.mp_file.specs.Shown.{expr_of, further_of}
use Rattle.mp_file.proofs.Views.{signed_is, chain_is, power_is, paren_is, call_is, diff_is}
use Rattle.mp_values.specs.Limits.{◌>>=◌, limited}
use Rattle.mp_values.specs.Values.{folded, exponent_at}
use Rattle.mp_values.specs.Exponents.{exponents_given}
use Rattle.mp_fold.specs.Collected.{after}
use Rattle.mp_fold.proofs.Chains.{after_joined, exponents_chain}
use Rattle.mp_fold.proofs.Collects.{same_reached, stops, goes_on}
use Rattle.mp_fold.proofs.exponents.+tester.Goals as goal

pub add_expression-returns-in-Signed : goal.add_expression-returns-in-Signed
add_expression-returns-in-Signed t c =
    same_reached c.add_expression.result _ _ _ (ap (λ e. after c.args.found.now.items (exponents_given c.args.table.now e)) (sym (signed_is c.in-Signed.is c.get.ensures))) c.add_expression.ensures

pub add_expression-returns-in-Paren : goal.add_expression-returns-in-Paren
add_expression-returns-in-Paren t c =
    same_reached c.add_expression-in-Paren.result _ _ _ (ap (λ e. after c.args.found.now.items (exponents_given c.args.table.now e)) (sym (paren_is c.in-Paren.is c.get-in-Paren.ensures))) c.add_expression-in-Paren.ensures

pub add_expression-returns-in-Diff : goal.add_expression-returns-in-Diff
add_expression-returns-in-Diff t c =
    same_reached c.add_expression-in-Diff.result _ _ _ (ap (λ e. after c.args.found.now.items (exponents_given c.args.table.now e)) (sym (diff_is c.in-Diff.is c.get-in-Diff.ensures))) c.add_expression-in-Diff.ensures

pub add_expression-returns-in_err-add_expression-in-Chain : goal.add_expression-returns-in_err-add_expression-in-Chain
add_expression-returns-in_err-add_expression-in-Chain t c =
    stops c.args.found.now.items (exponents_given c.args.table.now (expr_of c.get-in-Chain.result.now)) _ _ (ap (λ e. after c.args.found.now.items (exponents_given c.args.table.now e)) (chain_is c.in-Chain.is c.get-in-Chain.ensures refl) ∙ exponents_chain c.args.table.now c.args.found.now.items (expr_of c.get-in-Chain.result.now) (map further_of c.in-Chain.more))
    (Unit {0}) c.from_residual.result c.in_err-add_expression-in-Chain.field-0.0 c.add_expression-in-Chain.new.found.items _ c.from_residual.ensures.1 c.in_err-add_expression-in-Chain.ensures

pub add_expression-returns-in_ok-add_expression-in-Chain : goal.add_expression-returns-in_ok-add_expression-in-Chain
add_expression-returns-in_ok-add_expression-in-Chain t c =
    goes_on c.args.found.now.items (exponents_given c.args.table.now (expr_of c.get-in-Chain.result.now)) _ _ (ap (λ e. after c.args.found.now.items (exponents_given c.args.table.now e)) (chain_is c.in-Chain.is c.get-in-Chain.ensures c.as_slice.ensures) ∙ exponents_chain c.args.table.now c.args.found.now.items (expr_of c.get-in-Chain.result.now) (map further_of c.as_slice.result.now))
    c.in_ok-add_expression-in-Chain.field-0 c.add_further.result c.add_expression-in-Chain.new.found.items _ c.in_ok-add_expression-in-Chain.ensures c.add_further.ensures

pub add_expression-returns-in_err-add_expression-in-Power : goal.add_expression-returns-in_err-add_expression-in-Power
add_expression-returns-in_err-add_expression-in-Power t c =
    stops c.args.found.now.items (exponents_given c.args.table.now (expr_of c.get-in-Power.result.now)) _ _ (ap (λ e. after c.args.found.now.items (exponents_given c.args.table.now e)) (power_is c.in-Power.is c.get-in-Power.ensures refl) ∙ after_joined c.args.found.now.items (exponents_given c.args.table.now (expr_of c.get-in-Power.result.now)) _)
    (Unit {0}) c.from_residual-in_err-add_expression-in-Power.result c.in_err-add_expression-in-Power.field-0.0 c.add_expression-in-Power.new.found.items _ c.from_residual-in_err-add_expression-in-Power.ensures.1 c.in_err-add_expression-in-Power.ensures

pub add_expression-returns-in_ok-add_expression-in-Power : goal.add_expression-returns-in_ok-add_expression-in-Power
add_expression-returns-in_ok-add_expression-in-Power t c =
    goes_on c.args.found.now.items (exponents_given c.args.table.now (expr_of c.get-in-Power.result.now)) _ _ (ap (λ e. after c.args.found.now.items (exponents_given c.args.table.now e)) (power_is c.in-Power.is c.get-in-Power.ensures c.get-in-Power-2.ensures) ∙ after_joined c.args.found.now.items (exponents_given c.args.table.now (expr_of c.get-in-Power.result.now)) (folded c.args.table.now (expr_of c.get-in-Power-2.result.now) >>= λ y. exponent_at limited c.in-Power.at c.in-Power.sign y >>= λ k. Ok (k ∷ [])))
    c.in_ok-add_expression-in-Power.field-0 c.add_exponent.result c.add_expression-in-Power.new.found.items _ c.in_ok-add_expression-in-Power.ensures c.add_exponent.ensures

pub add_expression-returns-in_err-add_expression-in-Call : goal.add_expression-returns-in_err-add_expression-in-Call
add_expression-returns-in_err-add_expression-in-Call t c =
    stops c.args.found.now.items (exponents_given c.args.table.now (expr_of c.get-in-Call.result.now)) _ _ (ap (λ e. after c.args.found.now.items (exponents_given c.args.table.now e)) (call_is c.in-Call.is c.get-in-Call.ensures refl) ∙ after_joined c.args.found.now.items (exponents_given c.args.table.now (expr_of c.get-in-Call.result.now)) _)
    (Unit {0}) c.from_residual-in_err-add_expression-in-Call.result c.in_err-add_expression-in-Call.field-0.0 c.add_expression-in-Call.new.found.items _ c.from_residual-in_err-add_expression-in-Call.ensures.1 c.in_err-add_expression-in-Call.ensures

pub add_expression-returns-in_ok-add_expression-in-Call : goal.add_expression-returns-in_ok-add_expression-in-Call
add_expression-returns-in_ok-add_expression-in-Call t c =
    goes_on c.args.found.now.items (exponents_given c.args.table.now (expr_of c.get-in-Call.result.now)) _ _ (ap (λ e. after c.args.found.now.items (exponents_given c.args.table.now e)) (call_is c.in-Call.is c.get-in-Call.ensures c.get-in-Call-2.ensures) ∙ after_joined c.args.found.now.items (exponents_given c.args.table.now (expr_of c.get-in-Call.result.now)) (exponents_given c.args.table.now (expr_of c.get-in-Call-2.result.now)))
    c.in_ok-add_expression-in-Call.field-0 c.add_expression-in-Call-2.result c.add_expression-in-Call.new.found.items _ c.in_ok-add_expression-in-Call.ensures c.add_expression-in-Call-2.ensures
