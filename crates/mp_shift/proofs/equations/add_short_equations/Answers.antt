use Rattle.std.proofs.Common.{◌≡◌, ℕ, map, drop, ◌+◌, length, ap, ◌∙◌, subst, arith}
use Rattle.std.specs.List.{AllByRecursion}
use Rattle.mp_graph.proofs.Kept.{keeps-trans}
use Rattle.mp_model_data.specs.Shown.{sides_of, equation_in, IsWithin}
use Rattle.mp_solutions.specs.Transformed.{short_equation}
use Rattle.mp_shift.specs.Stand.{stand_by}
use Rattle.mp_shift.specs.Equations.{HasRoom, HasStandIns}
use Rattle.mp_shift.proofs.Ahead.{each_map_here, map_here}
use Rattle.mp_shift.proofs.StandIns.{stand_ins_still}
use Rattle.mp_shift.proofs.Sides.{one_kept, within_more, equations_turn}
use Rattle.mp_shift.proofs.equations.add_short_equations.Goals as goal

pub short_sides-requires-clause-named : goal.short_sides-requires-clause-named
short_sides-requires-clause-named c =
    let eqs = c.args.equations.now in
    let e = c.equation-item.result in
    let g = c.args.graph.now in
    let fs = c.args.firsts.now in
    let ahead = each_map_here eqs c.turns.equation-index e c.turns-test.true c.equation-item.is (IsWithin g) sides_of c.turns.invariant.ahead in
    let named = each_map_here eqs c.turns.equation-index e c.turns-test.true c.equation-item.is (HasStandIns g.names.endogenous g.terms fs) sides_of c.turns.invariant.named in
    stand_ins_still g c.turns.graph fs (sides_of e) c.turns.invariant.kept ahead.0 named.0

pub turns-preserved : goal.turns-preserved
turns-preserved c =
    let eqs = c.args.equations.now in
    let e = c.equation-item.result in
    let i = c.turns.equation-index in
    let g = c.args.graph.now in
    let now = c.turns.graph in
    let next = c.short_sides.new.graph in
    let stand = stand_by c.args.firsts.now in
    let step = map_here eqs i e c.turns-test.true c.equation-item.is sides_of in
    let ahead = each_map_here eqs i e c.turns-test.true c.equation-item.is (IsWithin g) sides_of c.turns.invariant.ahead in
    let room = each_map_here eqs i e c.turns-test.true c.equation-item.is (HasRoom (length c.turns.images)) sides_of c.turns.invariant.room in
    let same : length c.turns.images ≡ length c.short_sides.new.images = omega (arith, c.short_sides.auto.images) in
    let k = c.short_sides.ensures.kept in
    let named = each_map_here eqs i e c.turns-test.true c.equation-item.is (HasStandIns g.names.endogenous g.terms c.args.firsts.now) sides_of c.turns.invariant.named in
    record {
      kept = keeps-trans g now next c.turns.invariant.kept k;
      within = within_more now next k (map sides_of c.turns.found.items) _ (sides_of c.in-Ok.short) c.turns.invariant.within c.in_ok-push.ensures c.in-Ok.ensures.within;
      ahead = ahead.1;
      named = named.1;
      room = subst (λ (n : ℕ). AllByRecursion (HasRoom n) (map sides_of (drop (i + 1) eqs))) same room.1;
      equations = equations_turn now next k (map sides_of c.turns.found.items) _ (sides_of c.in-Ok.short) c.turns.invariant.within c.in_ok-push.ensures
          (short_equation stand (equation_in g.terms (sides_of e)))
          (map (short_equation stand) (map (equation_in g.terms) (map sides_of (drop i eqs))))
          (map (short_equation stand) (map (equation_in g.terms) (map sides_of (drop (i + 1) eqs)))) _
          (c.in-Ok.ensures.equation ∙ ap (short_equation stand) (one_kept g now (sides_of e) c.turns.invariant.kept ahead.0))
          (ap (λ l. map (short_equation stand) (map (equation_in g.terms) l)) step)
          c.turns.invariant.equations;
    }
