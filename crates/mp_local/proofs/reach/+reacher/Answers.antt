use Rattle.std.proofs.Common.{◌≡◌, ℕ, suc, ◌^◌, min, List, [], ◌∷◌, map, Option, None, Some, Ok, refl, sym, ap, ◌∙◌, arith}
use Rattle.std.specs.List.{flat_map}
use Rattle.std.proofs.lemmas.List.{take_all}
use Rattle.mp_syntax.specs.Syntax.{Named, Shift}
use Rattle.mp_file.specs.Shown.{expr_of, further_of, named_of, shift_of}
use Rattle.mp_file.proofs.Views.{signed_is, chain_is, power_is, paren_is, call_is, diff_is}
use Rattle.mp_values.specs.Shifts.{Reading, readings}
use Rattle.mp_local.proofs.ReachLaws.{readings_number, readings_variable, readings_signed, readings_chain, readings_power, readings_paren, readings_call, readings_diff, same_reach}
use Rattle.mp_local.proofs.Views.{parts_more}
use Rattle.mp_local.proofs.reach.+reacher.Goals as goal

-- one name that is read
abbrev alone : Named → Option Shift → ℕ → List Reading
alone name shift d = record { name = name; shift = shift; depth = d } ∷ []

pub expression_reach-returns-in-Number : goal.expression_reach-returns-in-Number
expression_reach-returns-in-Number t c d s is_depth knows =
    same_reach c.args.known.now.limit s (readings d (expr_of c.args.expression.now)) [] (Ok None) (ap (λ e. readings d (expr_of e)) c.in-Number.is ∙ readings_number d c.in-Number.literal.now c.in-Number.at) (refl, refl)

pub expression_reach-returns-in-Variable : goal.expression_reach-returns-in-Variable
expression_reach-returns-in-Variable t c d s is_depth knows =
    same_reach c.args.known.now.limit s _ _ _ (ap (λ e. readings d (expr_of e)) c.in-Variable.is ∙ readings_variable d (named_of c.in-Variable.name) None) (c.read.ensures d s is_depth knows)

pub expression_reach-returns-in-Shifted : goal.expression_reach-returns-in-Shifted
expression_reach-returns-in-Shifted t c d s is_depth knows =
    same_reach c.args.known.now.limit s _ _ _ (ap (λ e. readings d (expr_of e)) c.in-Shifted.is ∙ readings_variable d (named_of c.in-Shifted.name) (Some (shift_of c.in-Shifted.shift)) ∙ ap (λ shift. alone (named_of c.in-Shifted.name) (Some (shift_of shift)) d) (sym c.get.ensures))
    (c.read-in-Shifted.ensures d s is_depth knows)

pub expression_reach-returns-in-Signed : goal.expression_reach-returns-in-Signed
expression_reach-returns-in-Signed t c d s is_depth knows =
    same_reach c.args.known.now.limit s _ _ _ (ap (readings d) (signed_is c.in-Signed.is c.get-in-Signed.ensures) ∙ readings_signed d c.in-Signed.sign _) (c.expression_reach.ensures d s is_depth knows)

pub expression_reach-returns-in-Chain : goal.expression_reach-returns-in-Chain
expression_reach-returns-in-Chain t c d s is_depth knows =
    same_reach c.args.known.now.limit s _ _ _ (ap (readings d) (chain_is c.in-Chain.is c.get-in-Chain.ensures c.as_slice.ensures) ∙ readings_chain d _ _)
    (c.both.ensures c.args.known.now.limit s _ _ (c.expression_reach-reach.ensures d s is_depth knows) (c.further_reach.ensures d s is_depth knows))

pub expression_reach-returns-in-Power : goal.expression_reach-returns-in-Power
expression_reach-returns-in-Power t c d s is_depth knows =
    same_reach c.args.known.now.limit s _ _ _ (ap (readings d) (power_is c.in-Power.is c.get-in-Power.ensures refl) ∙ readings_power d _ _ _ _) (c.expression_reach-in-Power.ensures d s is_depth knows)

pub expression_reach-returns-in-Paren : goal.expression_reach-returns-in-Paren
expression_reach-returns-in-Paren t c d s is_depth knows =
    same_reach c.args.known.now.limit s _ _ _ (ap (readings d) (paren_is c.in-Paren.is c.get-in-Paren.ensures) ∙ readings_paren d _) (c.expression_reach-in-Paren.ensures d s is_depth knows)

pub expression_reach-returns-in-Call : goal.expression_reach-returns-in-Call
expression_reach-returns-in-Call t c d s is_depth knows =
    same_reach c.args.known.now.limit s _ _ _ (ap (readings d) (call_is c.in-Call.is c.get-in-Call.ensures c.get-in-Call-2.ensures) ∙ readings_call d c.in-Call.function _ _)
    (c.both-in-Call.ensures c.args.known.now.limit s _ _ (c.expression_reach-reach-in-Call.ensures d s is_depth knows) (c.expression_reach-in-Call.ensures d s is_depth knows))

pub expression_reach-returns-in-Diff : goal.expression_reach-returns-in-Diff
expression_reach-returns-in-Diff t c d s is_depth knows =
    let deeper : c.min.result ≡ min (suc d) (2 ^ 125) = omega (arith, c.min.ensures, is_depth) in
    same_reach c.args.known.now.limit s _ _ _ (ap (readings d) (diff_is c.in-Diff.is c.get-in-Diff.ensures) ∙ readings_diff d c.in-Diff.at _) (c.expression_reach-in-Diff.ensures (suc d) s deeper knows)

pub further_reach-turns-preserved : goal.further_reach-turns-preserved
further_reach-turns-preserved t c d s is_depth knows =
    same_reach c.args.known.now.limit s _ _ _ (parts_more (λ x. readings d x.operand) further_of c.args.more.now c.turns.next-index c.next-item.result c.next-item.result c.turns-test.true c.next-item.is)
    (c.both-reach.ensures c.args.known.now.limit s _ _ (c.turns.invariant d s is_depth knows) (c.expression_reach.ensures d s is_depth knows))

pub further_reach-returns : goal.further_reach-returns
further_reach-returns t c d s is_depth knows =
    same_reach c.args.known.now.limit s _ _ _ (ap (λ l. flat_map (λ x. readings d x.operand) (map further_of l)) (sym (take_all c.turns.next-index c.args.more.now c.turns-test.false))) (c.turns.invariant d s is_depth knows)
