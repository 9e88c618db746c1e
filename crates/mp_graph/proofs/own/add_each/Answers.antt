use Rattle.std.proofs.Common.{◌∙◌, ap, sym, take, ◌++◌, ◌∷◌, [], ℕ}
use Rattle.std.proofs.lemmas.List.{take_more}
use Rattle.mp_graph.proofs.Fallen.{adds_more}
use Rattle.mp_graph.proofs.Walk.{item_is}
use Rattle.mp_graph.proofs.own.add_each.Goals as goal

pub kids-preserved : goal.kids-preserved
kids-preserved c =
    adds_more (take c.kids.kid-index c.args.kids.now) _ c.args.pending.now.keys c.kids.pending c.insert.new.self c.index.result
    (take_more c.args.kids.now c.kids.kid-index 0 c.kids-test.true
    ∙ ap (λ (n : ℕ). take c.kids.kid-index c.args.kids.now ++ n ∷ []) (sym (c.index.ensures ∙ item_is c.args.kids.now c.kids.kid-index c.kid-item.result c.kids-test.true c.kid-item.is)))
    c.in-Ok.ensures.updates c.kids.invariant
