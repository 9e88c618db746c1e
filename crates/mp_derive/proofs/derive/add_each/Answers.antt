use Rattle.std.proofs.Common.{ℕ, ◌<◌, length, sym, subst, arith}
use Rattle.std.proofs.lemmas.List.Elements.{All-from_recursion}
use Rattle.mp_slopes.specs.Derivative.{HasDerivative}
use Rattle.mp_graph.specs.Shared.{term_at}
use Rattle.mp_derive.proofs.Ahead.{one_has}
use Rattle.mp_derive.proofs.derive.add_each.Goals as goal

pub add_all-requires-clause-has : goal.add_all-requires-clause-has
add_all-requires-clause-has c =
    let g = c.args.graph.now in
    let roots = c.args.roots.now in
    let root = c.index-roots-place.result in
    let is = c.index-roots-place.is in
    let within : root < length g.terms = omega (arith, is, All-from_recursion (λ (r : ℕ). r < length g.terms) roots c.requires.within c.turns.place root c.turns-test.true) in
    subst HasDerivative (sym (c.turns.invariant.kept.each root within)) (one_has HasDerivative (term_at g.terms) roots c.turns.place root root c.requires.has c.turns-test.true is)
