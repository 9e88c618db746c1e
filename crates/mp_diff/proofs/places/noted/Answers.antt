use Rattle.std.proofs.Common.{ℕ, List, [], get_or, take, sym, ap, ◌∙◌}
use Rattle.std.proofs.lemmas.List.{take_more}
use Rattle.mp_graph.specs.Shared.{term_at}
use Rattle.mp_graph.proofs.Walk.{item_is}
use Rattle.mp_slopes.specs.Places.{Place}
use Rattle.mp_diff.specs.Places.{with_place, with_nodes}
use Rattle.mp_diff.proofs.Noted.{with_nodes-push}
use Rattle.mp_diff.proofs.places.noted.Goals as goal

pub ids-preserved : goal.ids-preserved
ids-preserved c =
    let ts = c.args.graph.now.terms in
    let ids = c.args.ids.now in
    let i = c.ids.id-index in
    c.in_ok-note.ensures
    ∙ ap (λ (ps : List Place). with_place (term_at ts c.id-item.result) ps) c.ids.invariant
    ∙ ap (λ (n : ℕ). with_place (term_at ts n) (with_nodes ts [] (take i ids))) (item_is ids i c.id-item.result c.ids-test.true c.id-item.is)
    ∙ sym (with_nodes-push ts [] (take i ids) (get_or ids i 0))
    ∙ ap (with_nodes ts []) (sym (take_more ids i 0 c.ids-test.true))
