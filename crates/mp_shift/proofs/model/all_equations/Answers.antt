use Rattle.std.proofs.Common.{◌<◌, ℕ, map, length, ap, sym, ◌∙◌, subst, arith}
use Rattle.std.specs.List.{AllByRecursion}
use Rattle.mp_values.specs.Names.{Names}
use Rattle.mp_graph.specs.Shared.{Shared}
use Rattle.mp_graph.proofs.Kept.{keeps-refl}
use Rattle.mp_model_data.specs.Shown.{sides_of}
use Rattle.mp_shift.specs.Called.{Called}
use Rattle.mp_shift.specs.Equations.{HasStandIns}
use Rattle.mp_shift.proofs.Transformed.{within_terms, has_room, width2, are_built}
use Rattle.mp_shift.proofs.model.all_equations.Goals as goal

pub short_equations-requires-clause-within : goal.short_equations-requires-clause-within
short_equations-requires-clause-within c =
    within_terms c.args.graph.now c.add_names.new.graph (map sides_of c.args.source.now) (ap (λ (g : Shared). g.terms) (sym c.in_ok-add_names.ensures)) c.requires.within

pub short_equations-requires-clause-room : goal.short_equations-requires-clause-room
short_equations-requires-clause-room c =
    has_room c.args.graph.now _ (map sides_of c.args.source.now) (omega (arith, c.in_ok-images.ensures, c.nodes.ensures)) c.requires.within

pub short_equations-requires-clause-named : goal.short_equations-requires-clause-named
short_equations-requires-clause-named c =
    subst (λ (g : Shared). AllByRecursion (HasStandIns g.names.endogenous g.terms c.args.firsts.now) (map sides_of c.args.source.now)) (sym c.in_ok-add_names.ensures) c.requires.stand_ins

pub add_own_equations-requires-clause-named : goal.add_own_equations-requires-clause-named
add_own_equations-requires-clause-named c =
    width2 c.args.graph.now c.add_names.new.graph c.short_equations.new.graph c.short_equations.new.graph c.args.auxiliaries.now c.args.firsts.now (map sides_of c.args.source.now) (map sides_of c.in_ok-found.found.items) (map sides_of c.in_ok-found.found.items) c.count-variables.result c.in_ok-add_names.ensures c.short_equations.ensures.kept (keeps-refl c.short_equations.new.graph) (c.count-variables.ensures.count ∙ ap (λ (ns : Names). length ns.endogenous) c.names.ensures)

pub add_own_equations-requires-clause-places : goal.add_own_equations-requires-clause-places
add_own_equations-requires-clause-places c =
    subst (λ (n : ℕ). AllByRecursion (λ (x : Called). x.auxiliary.place < n) c.args.auxiliaries.now) (sym (c.count-variables.ensures.count ∙ ap (λ (ns : Names). length ns.endogenous) c.names.ensures)) c.requires.places

pub returns : goal.returns
returns c =
    are_built c.args.graph.now c.add_names.new.graph c.short_equations.new.graph c.add_own_equations.new.graph c.args.auxiliaries.now c.args.firsts.now (map sides_of c.args.source.now) (map sides_of c.in_ok-found.found.items) _ c.count-variables.result c.in_ok-add_names.ensures c.short_equations.ensures.kept c.add_own_equations.ensures.kept (c.count-variables.ensures.count ∙ ap (λ (ns : Names). length ns.endogenous) c.names.ensures) c.requires.within
    c.in_ok-found.ensures.equations c.in_ok-add_own_equations.ensures.equations c.in_ok-add_own_equations.ensures.within
