use Rattle.std.proofs.Common.{◌+◌, List, ◌++◌, map, drop, ℕ, ap, sym, ◌∙◌, subst, append-nil}
use Rattle.std.proofs.lemmas.List.{at_drop_all}
use Rattle.mp_graph.proofs.Kept.{keeps-refl, keeps-trans}
use Rattle.mp_graph.specs.Shared.{term_at}
use Rattle.mp_model_data.specs.Shown.{sides_of, equation_in, IsWithin}
use Rattle.mp_model_data.specs.declared.parts.Equation.{Equation}
use Rattle.mp_derivatives.specs.Derivatives.{residual}
use Rattle.mp_derive.proofs.Ahead.{next_is, one_has}
use Rattle.mp_derive.proofs.Roots.{Within, still_sides, residual_kept, within_more, terms_turn}
use Rattle.mp_derive.proofs.residual.residuals.Goals as goal

pub turns-init : goal.turns-init
turns-init c =
    let g = c.args.graph.now in
    record {
      kept = keeps-refl g;
      within = subst (Within g) (sym c.new-roots.ensures.items) tt;
      terms = ap (λ (rs : List ℕ). map (term_at g.terms) rs ++ map residual (map (equation_in g.terms) (map sides_of c.args.equations.now))) c.new-roots.ensures.items;
    }

pub difference-requires : goal.difference-requires
difference-requires c =
    still_sides c.args.graph.now c.turns.graph (sides_of c.equation-item.result) c.turns.invariant.kept
    (one_has (IsWithin c.args.graph.now) sides_of c.args.equations.now c.turns.equation-index c.equation-item.result c.equation-item.result c.requires c.turns-test.true c.equation-item.is)

pub turns-preserved : goal.turns-preserved
turns-preserved c =
    let g = c.args.graph.now in
    let now = c.turns.graph in
    let next = c.difference.new.graph in
    let es = c.args.equations.now in
    let i = c.turns.equation-index in
    let e = c.equation-item.result in
    let k = c.in-Ok.ensures.kept in
    let w = one_has (IsWithin g) sides_of es i e e c.requires c.turns-test.true c.equation-item.is in
    let step = ap (λ xs. map residual (map (equation_in g.terms) xs)) (next_is sides_of es i e c.turns-test.true c.equation-item.is) in
    record {
      kept = keeps-trans g now next c.turns.invariant.kept k;
      within = within_more now next k c.turns.roots.items _ c.in-Ok.root c.turns.invariant.within c.in_ok-push.ensures c.in-Ok.ensures.says.within;
      terms = terms_turn now next k c.turns.roots.items _ c.in-Ok.root c.turns.invariant.within c.in_ok-push.ensures (residual (equation_in g.terms (sides_of e)))
          (map residual (map (equation_in g.terms) (map sides_of (drop i es))))
          (map residual (map (equation_in g.terms) (map sides_of (drop (i + 1) es)))) _
          (record { within = c.in-Ok.ensures.says.within; term = c.in-Ok.ensures.says.term ∙ residual_kept g now (sides_of e) c.turns.invariant.kept w })
          step c.turns.invariant.terms;
    }

pub returns-clause-terms : goal.returns-clause-terms
returns-clause-terms c =
    let g = c.args.graph.now in
    let terms = map (term_at c.turns.graph.terms) c.turns.roots.items in
    sym (append-nil terms) ∙ sym (at_drop_all (λ (es : List Equation). terms ++ map residual (map (equation_in g.terms) (map sides_of es))) c.args.equations.now c.turns.equation-index c.turns-test.false) ∙ c.turns.invariant.terms

pub returns-in-Err-clause-kept : goal.returns-in-Err-clause-kept
returns-in-Err-clause-kept c = keeps-trans c.args.graph.now c.turns.graph c.difference.new.graph c.turns.invariant.kept c.in-Err.ensures.kept

pub returns-in_err-push-clause-kept : goal.returns-in_err-push-clause-kept
returns-in_err-push-clause-kept c = keeps-trans c.args.graph.now c.turns.graph c.difference.new.graph c.turns.invariant.kept c.in-Ok.ensures.kept
