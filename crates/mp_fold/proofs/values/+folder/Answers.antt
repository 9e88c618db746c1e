use Rattle.std.proofs.Common.{sym, ap, ◌∙◌, Ok, map, pos}
use Rattle.mp_file.specs.Shown.{expr_of, further_of}
use Rattle.mp_file.proofs.Views.{signed_is, chain_is, power_is, paren_is, call_is, diff_is}
use Rattle.mp_rational.specs.Fraction.{whole}
use Rattle.mp_values.specs.Chained.{chained}
use Rattle.mp_values.specs.Limits.{◌>>=◌, limited}
use Rattle.mp_values.specs.Values.{folded, with_sign, chosen, exponent_at}
use Rattle.mp_fold.proofs.Chains.{folded_chain}
use Rattle.mp_fold.proofs.Steps.{one_is, both_are}
use Rattle.mp_fold.proofs.values.+folder.Goals as goal

pub value_of-returns-in-Signed : goal.value_of-returns-in-Signed
value_of-returns-in-Signed t c =
    c.signed.ensures ∙ one_is _ _ (λ a. Ok (with_sign c.in-Signed.sign a)) c.value_of.ensures ∙ ap (folded c.args.table.now) (sym (signed_is c.in-Signed.is c.get.ensures))

pub value_of-returns-in-Chain : goal.value_of-returns-in-Chain
value_of-returns-in-Chain t c =
    let more = map further_of c.as_slice.result.now in
    c.further_value.ensures ∙ one_is _ _ (λ x. chained (λ e. folded c.args.table.now e) limited.result x more) c.value_of-in-Chain.ensures
    ∙ sym (folded_chain c.args.table.now (expr_of c.get-in-Chain.result.now) more)
    ∙ ap (folded c.args.table.now) (sym (chain_is c.in-Chain.is c.get-in-Chain.ensures c.as_slice.ensures))

pub value_of-returns-in-Power : goal.value_of-returns-in-Power
value_of-returns-in-Power t c =
    c.power.ensures ∙ both_are _ _ _ _ (λ a b. exponent_at limited c.in-Power.at c.in-Power.sign b >>= λ k. limited.raised c.in-Power.at a k) c.value_of-x.ensures c.value_of-y.ensures
    ∙ ap (folded c.args.table.now) (sym (power_is c.in-Power.is c.get-in-Power.ensures c.get-in-Power-2.ensures))

pub value_of-returns-in-Paren : goal.value_of-returns-in-Paren
value_of-returns-in-Paren t c = c.value_of-in-Paren.ensures ∙ ap (folded c.args.table.now) (sym (paren_is c.in-Paren.is c.get-in-Paren.ensures))

pub value_of-returns-in-Call : goal.value_of-returns-in-Call
value_of-returns-in-Call t c =
    c.chosen.ensures ∙ both_are _ _ _ _ (λ a b. Ok (chosen c.in-Call.function a b)) c.value_of-x-in-Call.ensures c.value_of-y-in-Call.ensures
    ∙ ap (folded c.args.table.now) (sym (call_is c.in-Call.is c.get-in-Call.ensures c.get-in-Call-2.ensures))

pub value_of-returns-in-Diff : goal.value_of-returns-in-Diff
value_of-returns-in-Diff t c =
    c.unchanging.ensures ∙ one_is _ _ (λ a. Ok (whole (pos 0))) c.value_of-in-Diff.ensures ∙ ap (folded c.args.table.now) (sym (diff_is c.in-Diff.is c.get-in-Diff.ensures))
