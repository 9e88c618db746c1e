use Rattle.std.proofs.Common.{map, drop, ◌+◌, refl, sym, ap, subst, ◌∙◌, arith}
use Rattle.std.proofs.lemmas.Result.{err_from_is_err_and}
use Rattle.std.specs.List.{AllByRecursion}
use Rattle.mp_syntax.specs.Syntax as s
use Rattle.mp_file.specs.Shown.{expr_of, further_of}
use Rattle.mp_file.proofs.Views.{signed_is, chain_is, power_is, paren_is, call_is, diff_is}
use Rattle.mp_semantics.specs.Shifted.{earlier}
use Rattle.mp_graph.specs.Op as shown
use Rattle.mp_graph.specs.Shared.{term_at}
use Rattle.mp_graph.proofs.Kept.{keeps-trans}
use Rattle.mp_values.specs.From.{term_from}
use Rattle.mp_values.specs.ModelOf.{binary_called}
use Rattle.mp_trees.specs.Earlier.{HasDifferences}
use Rattle.mp_trees.specs.Locals.{locals_in}
use Rattle.mp_trees.specs.Parts.{further_from}
use Rattle.mp_trees.proofs.Alike.{nodes_kept, term_kept, differences_kept, further_kept, images_kept}
use Rattle.mp_trees.proofs.Bound.{Fails-bind, Fails_same, Gives_same}
use Rattle.mp_trees.proofs.Chains.{term_chain, call_same, earlier_of_given, further_fails, further_turn}
use Rattle.mp_trees.proofs.Entries.{drop_same}
use Rattle.mp_trees.proofs.Under.{signed_under, power_under, paren_under, diff_under, first_of_chain, more_of_chain, first_of_call, second_of_call, inside_of_diff}
use Rattle.mp_trees.proofs.Weights.{signed_less, chain_less, more_less, power_less, paren_less, first_less, second_less, diff_less, operand_less}
use Rattle.mp_trees.proofs.expression.+builder.Goals as goal

-- ---- what the calls ask
pub node_of-node_of-operand-requires : goal.node_of-node_of-operand-requires
node_of-node_of-operand-requires t c = (
  omega (arith, c.decreases, signed_less c.args.expression.now c.get-in-Signed.result.now c.in-Signed.operand c.in-Signed.sign c.in-Signed.is c.get-in-Signed.ensures),
  (c.requires.locals, (c.requires.images, signed_under c.args.graph.now.names (locals_in c.args.graph.now.terms c.args.locals.now) c.args.expression.now c.get-in-Signed.result.now c.in-Signed.operand c.in-Signed.sign c.requires.shifts c.in-Signed.is c.get-in-Signed.ensures)),
)

pub node_of-node_of-requires : goal.node_of-node_of-requires
node_of-node_of-requires t c = (
  omega (arith, c.decreases, chain_less c.args.expression.now c.get-in-Chain.result.now c.in-Chain.first c.in-Chain.more c.in-Chain.is c.get-in-Chain.ensures),
  (c.requires.locals, (c.requires.images, first_of_chain c.args.graph.now.names (locals_in c.args.graph.now.terms c.args.locals.now) c.args.expression.now c.get-in-Chain.result.now c.in-Chain.first c.in-Chain.more c.requires.shifts c.in-Chain.is c.get-in-Chain.ensures)),
)

pub node_of-further_node-requires : goal.node_of-further_node-requires
node_of-further_node-requires t c = (
  omega (arith, c.decreases, more_less c.args.expression.now c.in-Chain.first c.as_slice.result.now c.in-Chain.more c.in-Chain.is c.as_slice.ensures),
  (
    c.in_ok-first-in-Chain.ensures.within,
    (
      nodes_kept c.args.graph.now c.node_of.new.graph c.args.locals.now c.in_ok-first-in-Chain.ensures.kept c.requires.locals,
      (
        c.in_ok-first-in-Chain.ensures.images,
        more_of_chain c.args.graph.now c.node_of.new.graph c.args.locals.now c.args.expression.now c.in-Chain.first c.as_slice.result.now c.in-Chain.more c.in_ok-first-in-Chain.ensures.kept c.requires.locals c.requires.shifts c.in-Chain.is c.as_slice.ensures,
      ),
    ),
  ),
)

pub node_of-node_of-base-requires : goal.node_of-node_of-base-requires
node_of-node_of-base-requires t c = (
  omega (arith, c.decreases, power_less c.args.expression.now c.get-in-Power.result.now c.in-Power.base c.in-Power.exponent c.in-Power.at c.in-Power.sign c.in-Power.is c.get-in-Power.ensures),
  (c.requires.locals, (c.requires.images, power_under c.args.graph.now.names (locals_in c.args.graph.now.terms c.args.locals.now) c.args.expression.now c.get-in-Power.result.now c.in-Power.base c.in-Power.exponent c.in-Power.at c.in-Power.sign c.requires.shifts c.in-Power.is c.get-in-Power.ensures)),
)

pub node_of-node_of-requires-in-Paren : goal.node_of-node_of-requires-in-Paren
node_of-node_of-requires-in-Paren t c = (
  omega (arith, c.decreases, paren_less c.args.expression.now c.get-in-Paren.result.now c.in-Paren.inside c.in-Paren.is c.get-in-Paren.ensures),
  (c.requires.locals, (c.requires.images, paren_under c.args.graph.now.names (locals_in c.args.graph.now.terms c.args.locals.now) c.args.expression.now c.get-in-Paren.result.now c.in-Paren.inside c.requires.shifts c.in-Paren.is c.get-in-Paren.ensures)),
)

pub node_of-node_of-requires-in-Call : goal.node_of-node_of-requires-in-Call
node_of-node_of-requires-in-Call t c = (
  omega (arith, c.decreases, first_less c.args.expression.now c.get-in-Call.result.now c.in-Call.first c.in-Call.second c.in-Call.function c.in-Call.is c.get-in-Call.ensures),
  (c.requires.locals, (c.requires.images, first_of_call c.args.graph.now.names (locals_in c.args.graph.now.terms c.args.locals.now) c.args.expression.now c.get-in-Call.result.now c.in-Call.first c.in-Call.second c.in-Call.function c.requires.shifts c.in-Call.is c.get-in-Call.ensures)),
)

pub node_of-node_of-second-requires : goal.node_of-node_of-second-requires
node_of-node_of-second-requires t c = (
  omega (arith, c.decreases, second_less c.args.expression.now c.get-in-Call-2.result.now c.in-Call.first c.in-Call.second c.in-Call.function c.in-Call.is c.get-in-Call-2.ensures),
  (
    nodes_kept c.args.graph.now c.node_of-in-Call.new.graph c.args.locals.now c.in_ok-first-in-Call.ensures.kept c.requires.locals,
    (
      c.in_ok-first-in-Call.ensures.images,
      second_of_call c.args.graph.now c.node_of-in-Call.new.graph c.args.locals.now c.args.expression.now c.get-in-Call-2.result.now c.in-Call.first c.in-Call.second c.in-Call.function c.in_ok-first-in-Call.ensures.kept c.requires.locals c.requires.shifts c.in-Call.is c.get-in-Call-2.ensures,
    ),
  ),
)

pub node_of-node_of-inside-requires : goal.node_of-node_of-inside-requires
node_of-node_of-inside-requires t c = (
  omega (arith, c.decreases, diff_less c.args.expression.now c.get-in-Diff.result.now c.in-Diff.inside c.in-Diff.at c.in-Diff.is c.get-in-Diff.ensures),
  (c.requires.locals, (c.requires.images, inside_of_diff c.args.graph.now.names (locals_in c.args.graph.now.terms c.args.locals.now) c.args.expression.now c.get-in-Diff.result.now c.in-Diff.inside c.in-Diff.at c.requires.shifts c.in-Diff.is c.get-in-Diff.ensures)),
)

pub node_of-gained-requires-clause-shifts : goal.node_of-gained-requires-clause-shifts
node_of-gained-requires-clause-shifts t c =
    let has = (diff_under c.args.graph.now.names (locals_in c.args.graph.now.terms c.args.locals.now) c.args.expression.now c.get-in-Diff.result.now c.in-Diff.inside c.in-Diff.at c.requires.shifts c.in-Diff.is c.get-in-Diff.ensures).1 in
    earlier_of_given c.node_of-inside.new.graph.terms c.node_of-inside.result _ c.node_of-inside.new.exponents c.node_of-inside.ensures.node (has c.args.exponents.now c.node_of-inside.new.exponents)

-- ---- the nodes
pub node_of-returns-in_err-first-in-Chain-clause-node : goal.node_of-returns-in_err-first-in-Chain-clause-node
node_of-returns-in_err-first-in-Chain-clause-node t c =
    let p = err_from_is_err_and c.from_residual.result c.from_residual.ensures.1 in
    let e = expr_of c.get-in-Chain.result.now in
    let ls = locals_in c.args.graph.now.terms c.args.locals.now in
    rw (p.1, p.2, chain_is c.in-Chain.is c.get-in-Chain.ensures refl, term_chain c.args.graph.now.names ls e (map further_of c.in-Chain.more) c.args.exponents.now) (Fails-bind _ (term_from c.args.graph.now.names ls e c.args.exponents.now) _ c.in_err-first-in-Chain.ensures.node)

pub node_of-returns-in_ok-first-in-Chain-clause-node : goal.node_of-returns-in_ok-first-in-Chain-clause-node
node_of-returns-in_ok-first-in-Chain-clause-node t c =
    let ls = locals_in c.args.graph.now.terms c.args.locals.now in
    let x = term_at c.node_of.new.graph.terms c.in_ok-first-in-Chain.first in
    rw (chain_is c.in-Chain.is c.get-in-Chain.ensures c.as_slice.ensures, term_chain c.args.graph.now.names ls (expr_of c.get-in-Chain.result.now) (map further_of c.as_slice.result.now) c.args.exponents.now, c.in_ok-first-in-Chain.ensures.node)
    (Gives_same _ c.further_node.result _ _ (further_kept c.args.graph.now c.node_of.new.graph c.args.locals.now c.in_ok-first-in-Chain.ensures.kept c.requires.locals x (map further_of c.as_slice.result.now) c.node_of.new.exponents) c.further_node.ensures.node)

pub node_of-returns-in-Paren-clause-node : goal.node_of-returns-in-Paren-clause-node
node_of-returns-in-Paren-clause-node t c = rw (paren_is c.in-Paren.is c.get-in-Paren.ensures) c.node_of-in-Paren.ensures.node

pub node_of-returns-in_err-first-in-Call-clause-node : goal.node_of-returns-in_err-first-in-Call-clause-node
node_of-returns-in_err-first-in-Call-clause-node t c =
    let p = err_from_is_err_and c.from_residual-in_err-first-in-Call.result c.from_residual-in_err-first-in-Call.ensures.1 in
    let ls = locals_in c.args.graph.now.terms c.args.locals.now in
    rw (p.1, p.2, call_is c.in-Call.is c.get-in-Call.ensures refl) (Fails-bind _ (term_from c.args.graph.now.names ls (expr_of c.get-in-Call.result.now) c.args.exponents.now) _ c.in_err-first-in-Call.ensures.node)

pub node_of-returns-in-Signed-clause-node : goal.node_of-returns-in-Signed-clause-node
node_of-returns-in-Signed-clause-node t c =
    rw (signed_is c.in-Signed.is c.get-in-Signed.ensures) (c.with_sign.ensures.node _ _ c.node_of-operand.ensures.node)

pub node_of-returns-in-Power-clause-node : goal.node_of-returns-in-Power-clause-node
node_of-returns-in-Power-clause-node t c =
    rw (power_is c.in-Power.is c.get-in-Power.ensures refl) (c.raised.ensures.node _ c.node_of-base.ensures.node)

pub node_of-returns-in_ok-first-in-Call-clause-node : goal.node_of-returns-in_ok-first-in-Call-clause-node
node_of-returns-in_ok-first-in-Call-clause-node t c =
    let b = expr_of c.get-in-Call-2.result.now in
    let js = c.node_of-in-Call.new.exponents in
    rw (call_is c.in-Call.is c.get-in-Call.ensures c.get-in-Call-2.ensures, c.in_ok-first-in-Call.ensures.node)
    (Gives_same _ c.called.result _ _
    (call_same _ _ (binary_called c.in-Call.function) _ _ (term_kept c.args.graph.now c.node_of-in-Call.new.graph c.args.locals.now c.in_ok-first-in-Call.ensures.kept c.requires.locals b js) (c.node_of-second.ensures.kept.each c.in_ok-first-in-Call.first c.in_ok-first-in-Call.ensures.within))
    (c.called.ensures.node _ _ c.node_of-second.ensures.node))

pub node_of-returns-in-Diff-clause-node : goal.node_of-returns-in-Diff-clause-node
node_of-returns-in-Diff-clause-node t c =
    rw (diff_is c.in-Diff.is c.get-in-Diff.ensures) (c.gained.ensures.node _ _ c.node_of-inside.ensures.node)

pub node_of-returns-in-Diff-clause-kept : goal.node_of-returns-in-Diff-clause-kept
node_of-returns-in-Diff-clause-kept t c = keeps-trans _ _ _ c.node_of-inside.ensures.kept c.gained.ensures.kept

-- ---- sums and products
pub further_node-node_of-requires : goal.further_node-node_of-requires
further_node-node_of-requires t c =
    let ls = locals_in c.args.graph.now.terms c.args.locals.now in
    let more = c.args.more.now in
    let i = c.turns.next-index in
    let here = drop_same more more i c.next-item.result refl c.turns-test.true c.next-item.is in
    let shifts = subst (λ l. AllByRecursion (λ (f : s.Further). HasDifferences c.args.graph.now.names ls f.operand) (map further_of l)) here c.turns.invariant.shifts in (
      omega (arith, c.decreases, operand_less more i c.next-item.result c.turns-test.true c.next-item.is),
      (
        nodes_kept c.args.graph.now c.turns.graph c.args.locals.now c.turns.invariant.kept c.requires.locals,
        (
          c.turns.invariant.images,
          differences_kept c.args.graph.now c.turns.graph c.args.locals.now c.turns.invariant.kept c.requires.locals (expr_of c.next-item.result.operand) shifts.0,
        ),
      ),
    )

pub further_node-returns-in_err-operand-clause-node : goal.further_node-returns-in_err-operand-clause-node
further_node-returns-in_err-operand-clause-node t c =
    let ns = c.args.graph.now.names in
    let ls = locals_in c.args.graph.now.terms c.args.locals.now in
    let more = c.args.more.now in
    let i = c.turns.next-index in
    let x = term_at c.turns.graph.terms c.turns.node in
    let here = drop_same more more i c.next-item.result refl c.turns-test.true c.next-item.is in
    let so_far = ap (λ l. further_from ns ls x (map further_of l) c.turns.exponents) (sym here) ∙ c.turns.invariant.node in
    let e = c.in_err-operand.field-0.0 in
    let p = err_from_is_err_and c.from_residual.result c.from_residual.ensures.1 in
    rw (p.1, p.2) (further_fails ns ls x (further_of c.next-item.result) (map further_of (drop (i + 1) more)) c.turns.exponents _ so_far e
    (Fails_same e _ _ (term_kept c.args.graph.now c.turns.graph c.args.locals.now c.turns.invariant.kept c.requires.locals (expr_of c.next-item.result.operand) c.turns.exponents) c.in_err-operand.ensures.node))

pub further_node-turns-preserved : goal.further_node-turns-preserved
further_node-turns-preserved t c =
    let ns = c.args.graph.now.names in
    let ls = locals_in c.args.graph.now.terms c.args.locals.now in
    let more = c.args.more.now in
    let i = c.turns.next-index in
    let x = term_at c.turns.graph.terms c.turns.node in
    let y = term_at c.node_of.new.graph.terms c.in_ok-operand.operand in
    let here = drop_same more more i c.next-item.result refl c.turns-test.true c.next-item.is in
    let shifts = subst (λ l. AllByRecursion (λ (f : s.Further). HasDifferences c.args.graph.now.names ls f.operand) (map further_of l)) here c.turns.invariant.shifts in
    let so_far = ap (λ l. further_from ns ls x (map further_of l) c.turns.exponents) (sym here) ∙ c.turns.invariant.node in
    let kept = keeps-trans _ _ _ c.turns.invariant.kept c.in_ok-operand.ensures.kept in
    record {
      kept = keeps-trans _ _ _ kept c.in_ok-node.ensures.kept;
      images = images_kept c.node_of.new.graph c.intern.new.self c.node_of.new.images earlier c.in_ok-node.ensures.kept c.in_ok-operand.ensures.images;
      within = c.in_ok-node.ensures.says.within;
      shifts = shifts.1;
      node = further_turn ns ls x (further_of c.next-item.result) (map further_of (drop (i + 1) more)) c.turns.exponents _ so_far y
          (term_at c.intern.new.self.terms c.in_ok-node.node) (term_at c.node_of.new.graph.terms c.turns.node) (shown.binary_of c.joining.result) c.node_of.new.exponents
          (sym (term_kept c.args.graph.now c.turns.graph c.args.locals.now c.turns.invariant.kept c.requires.locals (expr_of c.next-item.result.operand) c.turns.exponents) ∙ c.in_ok-operand.ensures.node)
          c.in_ok-node.ensures.says.term c.joining.ensures (c.in_ok-operand.ensures.kept.each c.turns.node c.turns.invariant.within);
    }
