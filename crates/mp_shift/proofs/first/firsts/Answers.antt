use Rattle.std.proofs.Common.{List, length, ap, ◌∙◌, subst}
use Rattle.mp_values.specs.Names.{Names}
use Rattle.mp_graph.specs.Shared.{Shared}
use Rattle.mp_model_data.specs.Shown.{model_data}
use Rattle.mp_shift.specs.declared.reach.Reach.{Reach}
use Rattle.mp_shift.specs.Stand.{AreFirstFrom}
use Rattle.mp_shift.proofs.Firsts.{are_first}
use Rattle.mp_shift.proofs.first.firsts.Goals as goal

pub returns : goal.returns
returns c =
    are_first (model_data c.args.model.now) c.in_ok-reaches.reaches.items c.count-count.result c.in_ok-found.found.items c.in_ok-reaches.ensures
    (c.count-count.ensures.count ∙ ap (λ (ns : Names). length ns.endogenous) (c.names.ensures ∙ ap (λ (g : Shared). g.names) c.graph.ensures.graph))
    (subst (λ (rs : List Reach). AreFirstFrom c.count-count.result rs c.in_ok-found.found.items) c.as_slice-shifts.ensures.value c.in_ok-found.ensures)
