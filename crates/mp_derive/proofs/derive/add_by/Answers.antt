use Rattle.std.proofs.Common.{ℕ, ◌+◌, ◌++◌, false, List, drop, get_or, map, pos, ap, sym, ◌∙◌, append-nil}
use Rattle.std.proofs.lemmas.List.{drop_more, at_drop_all}
use Rattle.mp_graph.proofs.Kept.{keeps-trans}
use Rattle.mp_graph.specs.Shared.{Shared, term_at}
use Rattle.mp_diff.specs.Places.{place_shown}
use Rattle.mp_diff.specs.declared.places.Place.{Place}
use Rattle.mp_derivatives.specs.Records.{Derivation}
use Rattle.mp_derivatives.specs.Derivatives.{derivation}
use Rattle.mp_report.specs.Shown.{derivation_of}
use Rattle.mp_derive.specs.Listed.{derivative_by}
use Rattle.mp_derive.proofs.Ahead.{one_more}
use Rattle.mp_derive.proofs.Derived.{derivation_kept}
use Rattle.mp_derive.proofs.derive.add_by.Goals as goal

pub derivative_at-requires-clause-own : goal.derivative_at-requires-clause-own
derivative_at-requires-clause-own c =
    c.own_laws.ensures.kept c.args.graph.now c.turns.graph c.args.residual.now.root c.args.residual.now.own.now c.requires.within c.turns.invariant.kept c.requires.own

-- the derivatives of a node, the residual of the equation of this number, by these places
abbrev derivations_at : Shared → ℕ → ℕ → List Place → List Derivation
derivations_at g i root ps = map (derivation g.names) (map (derivative_by i (term_at g.terms root)) (map place_shown ps))

pub turns-preserved : goal.turns-preserved
turns-preserved c =
    let g = c.args.graph.now in
    let now = c.turns.graph in
    let residual = c.args.residual.now in
    let places = c.args.places.now in
    let i = c.turns.place-index in
    let none : Place = record { exogenous = false; number = 0; shift = pos 0 } in
    let each = derivations_at g residual.equation residual.root in
    record {
      kept = keeps-trans g now c.derivative_at.new.graph c.turns.invariant.kept c.in-Ok.ensures.kept;
      added = one_more c.turns.list c.add.new.self (each (drop i places)) (each (drop (i + 1) places)) (c.args.list.now ++ each places) (derivation_of c.in-Ok.derivative) _ c.in_ok-add.ensures.ok
          (c.in-Ok.ensures.derivation ∙ derivation_kept g now residual.equation residual.root (place_shown (get_or places i none)) c.turns.invariant.kept c.requires.within)
          (ap each (drop_more places i none c.turns-test.true)) c.turns.invariant.added;
    }

pub returns-clause-added : goal.returns-clause-added
returns-clause-added c =
    let g = c.args.graph.now in
    let residual = c.args.residual.now in
    let each = derivations_at g residual.equation residual.root in
    sym (append-nil c.turns.list) ∙ sym (at_drop_all (λ (ps : List Place). c.turns.list ++ each ps) c.args.places.now c.turns.place-index c.turns-test.false) ∙ c.turns.invariant.added

pub returns-in-Err-clause-kept : goal.returns-in-Err-clause-kept
returns-in-Err-clause-kept c = keeps-trans c.args.graph.now c.turns.graph c.derivative_at.new.graph c.turns.invariant.kept c.in-Err.ensures.kept

pub returns-in_err-add-clause-kept : goal.returns-in_err-add-clause-kept
returns-in_err-add-clause-kept c = keeps-trans c.args.graph.now c.turns.graph c.derivative_at.new.graph c.turns.invariant.kept c.in-Ok.ensures.kept
