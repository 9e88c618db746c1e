use Rattle.std.proofs.Common.{List, map, length, ap, sym, ◌∙◌, subst}
use Rattle.mp_values.specs.Names.{Names}
use Rattle.mp_graph.specs.Shared.{Shared}
use Rattle.mp_model_data.specs.Shown.{model_data}
use Rattle.mp_shift.specs.declared.reach.Reach.{Reach}
use Rattle.mp_shift.specs.Called.{auxiliary_of}
use Rattle.mp_shift.specs.Reach.{AreReaches}
use Rattle.mp_shift.proofs.Faults.{are_those}
use Rattle.mp_shift.proofs.naming.needed.Goals as goal

pub returns : goal.returns
returns c =
    let M = model_data c.args.model.now in
    are_those M c.as_slice-shifts.result.now c.count-count.result (map auxiliary_of c.in_ok-list.list.items)
    (subst (λ (rs : List Reach). AreReaches M rs) (sym c.as_slice-shifts.ensures.value) c.in_ok-reaches.ensures)
    (c.count-count.ensures.count ∙ ap (λ (ns : Names). length ns.endogenous) (c.names.ensures ∙ ap (λ (g : Shared). g.names) c.graph.ensures.graph))
    c.in_ok-list.ensures
