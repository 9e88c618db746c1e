use Rattle.std.proofs.Common.{◌≡◌, List, None, sym, ap, ◌∙◌, subst, arith}
use Rattle.mp_statements.specs.declared.kind.NameKind.TheVariants.{Endogenous}
use Rattle.mp_values.specs.Names.{Names}
use Rattle.mp_names.specs.Named.{kind_in, with_name}
use Rattle.mp_graph.specs.Shared.{Shared}
use Rattle.mp_shift.specs.Called.{Called, called_of, with_names}
use Rattle.mp_shift.proofs.Named.{next_new, names_more, names_none, take_whole}
use Rattle.mp_shift.proofs.model.add_names.Goals as goal

pub turns-init : goal.turns-init
turns-init c = ap (λ (ns : Names). record { names = ns; terms = c.args.graph.now.terms }) (sym (names_none c.args.graph.now.names))

pub add_endogenous-requires : goal.add_endogenous-requires
add_endogenous-requires c =
    subst (λ (g : Shared). kind_in g.names c.get.result.name.now ≡ None) (sym c.turns.invariant) (next_new c.args.graph.now.names c.args.auxiliaries.now c.turns.place (called_of c.get.result) c.get.ensures c.requires)

pub turns-preserved : goal.turns-preserved
turns-preserved c =
    c.in_ok-add_endogenous.ensures.names
    ∙ ap (λ (g : Shared). record { names = with_name Endogenous c.get.result.name.now g.names; terms = g.terms }) c.turns.invariant
    ∙ ap (λ (ns : Names). record { names = ns; terms = c.args.graph.now.terms }) (names_more c.args.graph.now.names c.args.auxiliaries.now c.turns.place (called_of c.get.result) c.get.ensures)

pub returns : goal.returns
returns c =
    c.turns.invariant
    ∙ ap (λ (xs : List Called). record { names = with_names xs c.args.graph.now.names; terms = c.args.graph.now.terms }) (take_whole c.args.auxiliaries.now c.turns.place (omega (arith, c.count-place-end.ensures, c.turns-test.false)))
