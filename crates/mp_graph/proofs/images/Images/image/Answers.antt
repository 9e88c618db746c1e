use Rattle.std.proofs.Common.{◌≡◌, ◌∙◌, ℕ, get_or, ap, subst, arith}
use Rattle.mp_graph.specs.Images.{AreOpen}
use Rattle.mp_graph.proofs.Fallen.{none_left}
use Rattle.mp_graph.proofs.Kept.{keeps-trans}
use Rattle.mp_graph.proofs.Walk.{item_is}
use Rattle.mp_graph.proofs.Open.{last_within, last_only, kids_known, open_rest, none_open, kid_was, still_takes, known_says}
use Rattle.mp_graph.specs.Shared.{term_at}
use Rattle.mp_graph.proofs.images.Images.image.Goals as goal

pub settle-requires-clause-within : goal.settle-requires-clause-within
settle-requires-clause-within g c =
    let l = last_within c.args.graph.now.terms c.turns.self.known.items c.args.root c.turns.open.items c.pop.new.self.items c.in-Some.id c.turns.invariant.left c.in-Some.ensures.items in
    omega (arith, l, c.turns.invariant.kept.longer)

pub settle-requires-clause-table : goal.settle-requires-clause-table
settle-requires-clause-table g c =
    let l = last_within c.args.graph.now.terms c.turns.self.known.items c.args.root c.turns.open.items c.pop.new.self.items c.in-Some.id c.turns.invariant.left c.in-Some.ensures.items in
    omega (arith, l, c.turns.invariant.table)

pub settle-requires-clause-marks : goal.settle-requires-clause-marks
settle-requires-clause-marks g c =
    let l = last_within c.args.graph.now.terms c.turns.self.known.items c.args.root c.turns.open.items c.pop.new.self.items c.in-Some.id c.turns.invariant.left c.in-Some.ensures.items in
    omega (arith, l, c.turns.invariant.known)

pub settle-requires-clause-kids : goal.settle-requires-clause-kids
settle-requires-clause-kids g c =
    let l = last_within c.args.graph.now.terms c.turns.self.known.items c.args.root c.turns.open.items c.pop.new.self.items c.in-Some.id c.turns.invariant.left c.in-Some.ensures.items in
    λ u i k.
    kids_known c.args.graph.now.terms c.turns.self.known.items c.args.root c.turns.open.items c.pop.new.self.items c.in-Some.id c.turns.invariant.left c.in-Some.ensures.items u i
    (kid_was c.args.graph.now c.turns.graph i c.in-Some.id c.turns.invariant.kept l k)

pub settle-requires-clause-takes : goal.settle-requires-clause-takes
settle-requires-clause-takes g c =
    let l = last_within c.args.graph.now.terms c.turns.self.known.items c.args.root c.turns.open.items c.pop.new.self.items c.in-Some.id c.turns.invariant.left c.in-Some.ensures.items in
    still_takes (g.W.Rewrite.takes c.args.rewrite.now) (g.met.W.Rewrite.takes_parts c.args.rewrite.now) c.args.graph.now c.turns.graph c.in-Some.id (term_at c.args.graph.now.terms c.args.root) c.turns.invariant.kept l
    (last_only c.args.graph.now.terms c.turns.self.known.items c.args.root c.turns.open.items c.pop.new.self.items c.in-Some.id c.turns.invariant.left c.in-Some.ensures.items) c.requires.takes

pub turns-preserved : goal.turns-preserved
turns-preserved g c = record {
  kept = keeps-trans _ _ _ c.turns.invariant.kept c.in_ok-settle.ensures.kept;
  images = c.in_ok-settle.ensures.images;
  left = open_rest c.args.graph.now.terms c.turns.self.known.items c.args.root c.turns.open.items c.pop.new.self.items c.in-Some.id c.turns.invariant.left c.in-Some.ensures.items c.settle.new.self.known.items c.in_ok-settle.ensures.stay c.in_ok-settle.ensures.known;
  table = omega (arith, c.turns.invariant.table, c.in_ok-settle.ensures.table_length);
  known = omega (arith, c.turns.invariant.known, c.in_ok-settle.ensures.known_length);
}

pub returns-clause-says : goal.returns-clause-says
returns-clause-says g c =
    let left = subst (λ l. AreOpen c.args.graph.now.terms c.turns.self.known.items c.args.root l) (none_left c.turns.open.items (λ some. c.in_default.ensures.variant.1 (omega (arith, some, c.turns.open.ok)))) c.turns.invariant.left in
    let known = none_open c.args.graph.now.terms c.turns.self.known.items c.args.root left in
    let at : c.index-2.result.now ≡ get_or c.turns.self.table.items c.args.root 0 =
    item_is c.turns.self.table.items c.index.result c.index-2.result.now (omega (arith, c.index.ensures, c.turns.invariant.table, c.requires.within)) c.index-2.ensures
    ∙ ap (λ (n : ℕ). get_or c.turns.self.table.items n 0) c.index.ensures in
    known_says c.args.graph.now c.turns.graph c.turns.self (g.W.Rewrite.image c.args.rewrite.now) c.args.root c.index-2.result.now c.turns.invariant.kept c.requires.within c.turns.invariant.images known at
