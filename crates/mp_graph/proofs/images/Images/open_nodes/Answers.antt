use Rattle.std.proofs.Common.{◌≡◌, ◌∙◌, ◌∷◌, [], ◌++◌, ℕ, ap, sym, subst, arith, ◌<◌, ◌≤◌}
use Rattle.std.specs.BTreeSet.{insert_key}
use Rattle.std.specs.List.{Contains}
use Rattle.std.specs.Ordering.{nat_cmp}
use Rattle.std.proofs.lemmas.List.Elements.{Contains-push}
use Rattle.mp_graph.proofs.Fallen.{below_top, top_within, top, under, none_left}
use Rattle.mp_graph.proofs.Open.{Opening, opening_first, opening_next, opening_end, new_below}
use Rattle.mp_graph.proofs.images.Images.open_nodes.Goals as goal

pub turns-init : goal.turns-init
turns-init c =
    let ts = c.args.graph.now.terms in
    let known = c.args.self.now.known.items in
    let e : c.insert.new.self.keys ≡ c.args.root ∷ [] =
    c.in-Ok.ensures.keys ∙ ap (λ l. insert_key nat_cmp l c.index.result) c.new-pending.ensures.empty ∙ ap (λ (n : ℕ). n ∷ []) c.index.ensures in
    subst (λ l. Opening ts known c.args.root l c.new-ids.result.items) (sym e)
    (subst (λ l. Opening ts known c.args.root (c.args.root ∷ []) l) (sym c.new-ids.ensures.items) (opening_first ts known c.args.root c.requires))

pub open_kids-requires : goal.open_kids-requires
open_kids-requires c =
    let h : Contains c.turns.pending.keys c.in-Some.last = subst (λ l. Contains l c.in-Some.last) (sym c.in-Some.ensures.removal) (Contains-push c.pop_last.new.self.keys c.in-Some.last) in
    omega (arith, c.of-id.ensures, c.turns.invariant.within c.in-Some.last h)

module _ (c : goal.In-Ok-push) where
  abbrev q : ℕ
  q = c.of-id.result

  split : c.turns.pending.keys ≡ c.pop_last.new.self.keys ++ q ∷ []
  split = c.in-Some.ensures.removal ∙ ap (λ (n : ℕ). c.pop_last.new.self.keys ++ n ∷ []) (sym c.of-id.ensures)

  low : (x : ℕ) → Contains c.pop_last.new.self.keys x → x < q
  low x h = omega (arith, c.of-id.ensures, under c.pop_last.new.self.keys c.in-Some.last c.in-Some.ensures.all_below x h)

pub turns-smaller : goal.turns-smaller
turns-smaller c =
    let b = below_top c.turns.pending.keys (q c) (subst (λ l. Contains l (q c)) (sym (split c)) (Contains-push c.pop_last.new.self.keys (q c))) in
    let t : top c.add_each.new.pending.keys ≤ q c =
    top_within c.add_each.new.pending.keys (q c) (new_below c.args.graph.now.terms c.args.self.now.known.items c.args.root c.turns.pending.keys c.pop_last.new.self.keys c.add_each.new.pending.keys c.turns.ids.items (q c) c.open_kids.result.now
    c.turns.invariant (split c) (low c) c.in_ok-add_each.ensures c.open_kids.ensures.each c.open_kids.ensures.only) in
    omega (arith, b, t)

pub turns-preserved : goal.turns-preserved
turns-preserved c =
    subst (λ l. Opening c.args.graph.now.terms c.args.self.now.known.items c.args.root c.add_each.new.pending.keys l) (sym c.in-Ok-push.ensures.items)
    (opening_next c.args.graph.now.terms c.args.self.now.known.items c.args.root c.turns.pending.keys c.pop_last.new.self.keys c.add_each.new.pending.keys c.turns.ids.items (q c) c.open_kids.result.now
    c.turns.invariant (split c) (low c) c.in_ok-add_each.ensures c.open_kids.ensures.each c.open_kids.ensures.only)

pub returns : goal.returns
returns c =
    let ts = c.args.graph.now.terms in
    let known = c.args.self.now.known.items in
    opening_end ts known c.args.root c.turns.ids.items
    (subst (λ l. Opening ts known c.args.root l c.turns.ids.items) (none_left c.turns.pending.keys c.in_default-pop_last.ensures.variant.1) c.turns.invariant)
