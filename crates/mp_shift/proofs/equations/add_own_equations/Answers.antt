use Rattle.std.proofs.Common.{map, drop, ◌+◌, arith}
use Rattle.mp_graph.proofs.Kept.{keeps-trans}
use Rattle.mp_model_data.specs.Shown.{sides_of}
use Rattle.mp_shift.specs.Called.{Called, called_of}
use Rattle.mp_shift.specs.Equations.{own_equation, own_equations}
use Rattle.mp_shift.proofs.Sides.{within_more, equations_turn, own_turn, places_turn}
use Rattle.mp_shift.proofs.equations.add_own_equations.Goals as goal

pub own_sides-requires-clause-place : goal.own_sides-requires-clause-place
own_sides-requires-clause-place c =
    let h = places_turn c.args.variables c.turns.place c.args.auxiliaries.now (called_of c.get-called.result) c.get-called.ensures c.turns.invariant.places in
    let p = h.0 in
    omega arith

pub turns-preserved : goal.turns-preserved
turns-preserved c =
    let xs = c.args.auxiliaries.now in
    let n = c.args.variables in
    let i = c.turns.place in
    let x = called_of c.get-called.result in
    let now = c.turns.graph in
    let next = c.own_sides.new.graph in
    let k = c.own_sides.ensures.kept in
    record {
      kept = keeps-trans c.args.graph.now now next c.turns.invariant.kept k;
      within = within_more now next k (map sides_of c.turns.found.items) _ (sides_of c.in-Ok.equation) c.turns.invariant.within c.in_ok-push.ensures c.in-Ok.ensures.within;
      places = (places_turn n i xs x c.get-called.ensures c.turns.invariant.places).1;
      equations = equations_turn now next k (map sides_of c.turns.found.items) _ (sides_of c.in-Ok.equation) c.turns.invariant.within c.in_ok-push.ensures
          (own_equation (n + i) x.auxiliary)
          (own_equations (n + i) (map (λ (y : Called). y.auxiliary) (drop i xs)))
          (own_equations (n + (i + 1)) (map (λ (y : Called). y.auxiliary) (drop (i + 1) xs))) _
          c.in-Ok.ensures.equation
          (own_turn n i xs x c.get-called.ensures)
          c.turns.invariant.equations;
    }
