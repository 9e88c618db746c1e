use Rattle.std.proofs.Common.{◌≡◌, ◌∙◌, ◌∷◌, [], ◌++◌, ℕ, ap, sym, subst, arith, ◌≤◌}
use Rattle.std.proofs.lemmas.List.Elements.{Contains-push}
use Rattle.std.specs.BTreeSet.{insert_key}
use Rattle.std.specs.List.{Contains}
use Rattle.std.specs.Ordering.{nat_cmp}
use Rattle.mp_graph.specs.Op.{over}
use Rattle.mp_graph.specs.Shared.{term_at}
use Rattle.mp_graph.proofs.Fallen.{Falling, falling_first, falling_next, falling_end, new_low, below_top, top_within, top, under, none_left}
use Rattle.mp_graph.proofs.graph.Graph.falling_nodes.Goals as goal

pub turns-init : goal.turns-init
turns-init c =
    let e : c.insert.new.self.keys ≡ c.args.root ∷ [] =
    c.in-Ok.ensures.keys ∙ ap (λ l. insert_key nat_cmp l c.index.result) c.new-pending.ensures.empty ∙ ap (λ (n : ℕ). n ∷ []) c.index.ensures in
    subst (λ l. Falling c.args.self.now.terms c.args.root l c.new-ids.result.items) (sym e)
    (subst (λ l. Falling c.args.self.now.terms c.args.root (c.args.root ∷ []) l) (sym c.new-ids.ensures.items) (falling_first c.args.self.now.terms c.args.root c.requires))

pub node-requires : goal.node-requires
node-requires c =
    let h : Contains c.turns.pending.keys c.in-Some.last = subst (λ l. Contains l c.in-Some.last) (sym c.in-Some.ensures.removal) (Contains-push c.pop_last.new.self.keys c.in-Some.last) in
    omega (arith, c.of-id.ensures, c.turns.invariant.within c.in-Some.last h)

pub turns-smaller : goal.turns-smaller
turns-smaller c =
    let h : Contains c.turns.pending.keys c.in-Some.last = subst (λ l. Contains l c.in-Some.last) (sym c.in-Some.ensures.removal) (Contains-push c.pop_last.new.self.keys c.in-Some.last) in
    let b = below_top c.turns.pending.keys c.in-Some.last h in
    let t : top c.add_each.new.pending.keys ≤ c.in-Some.last =
    top_within c.add_each.new.pending.keys c.in-Some.last (new_low c.args.self.now.terms c.args.root c.turns.pending.keys c.pop_last.new.self.keys c.add_each.new.pending.keys c.turns.ids.items c.in-Some.last c.node.result.op c.node.result.kids.now
    c.turns.invariant c.in-Some.ensures.removal (under c.pop_last.new.self.keys c.in-Some.last c.in-Some.ensures.all_below) c.in_ok-add_each.ensures
    (subst (λ (n : ℕ). term_at c.args.self.now.terms n ≡ over c.args.self.now.terms c.node.result.op c.node.result.kids.now) c.of-id.ensures c.node.ensures.term)
    c.node.ensures.count (λ n l. omega (arith, c.node.ensures.below n l, c.of-id.ensures))) in
    omega (arith, b, t)

pub turns-preserved : goal.turns-preserved
turns-preserved c =
    subst (λ l. Falling c.args.self.now.terms c.args.root c.add_each.new.pending.keys l)
    (sym (c.in-Ok-push.ensures.items ∙ ap (λ (n : ℕ). c.turns.ids.items ++ n ∷ []) c.of-id.ensures))
    (falling_next c.args.self.now.terms c.args.root c.turns.pending.keys c.pop_last.new.self.keys c.add_each.new.pending.keys c.turns.ids.items c.in-Some.last c.node.result.op c.node.result.kids.now
    c.turns.invariant c.in-Some.ensures.removal (under c.pop_last.new.self.keys c.in-Some.last c.in-Some.ensures.all_below) c.in_ok-add_each.ensures
    (subst (λ (n : ℕ). term_at c.args.self.now.terms n ≡ over c.args.self.now.terms c.node.result.op c.node.result.kids.now) c.of-id.ensures c.node.ensures.term)
    c.node.ensures.count (λ n l. omega (arith, c.node.ensures.below n l, c.of-id.ensures)))

pub returns : goal.returns
returns c =
    falling_end c.args.self.now.terms c.args.root c.turns.ids.items
    (subst (λ l. Falling c.args.self.now.terms c.args.root l c.turns.ids.items) (none_left c.turns.pending.keys c.in_default-pop_last.ensures.variant.1) c.turns.invariant)
