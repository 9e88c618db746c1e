use Rattle.std.proofs.Common.{max, map, drop, ◌+◌, ap, arith}
use Rattle.mp_model_data.specs.Shown.{sides_of, equation_in, IsWithin}
use Rattle.mp_solutions.specs.Auxiliaries.{equations_shift}
use Rattle.mp_shift.specs.Reach.{reach_at}
use Rattle.mp_shift.proofs.Ahead.{each_map_here, map_here}
use Rattle.mp_shift.proofs.Shifts.{raised_equation}
use Rattle.mp_shift.proofs.reach.raise_by_equations.Goals as goal

pub raise_by_side-requires-clause-within : goal.raise_by_side-requires-clause-within
raise_by_side-requires-clause-within c =
    (each_map_here c.args.equations.now c.turns.equation-index c.equation-item.result c.turns-test.true c.equation-item.is (IsWithin c.args.graph.now) sides_of c.turns.invariant.within).0.left

pub raise_by_side-requires-in-turns-clause-within : goal.raise_by_side-requires-in-turns-clause-within
raise_by_side-requires-in-turns-clause-within c =
    (each_map_here c.args.equations.now c.turns.equation-index c.equation-item.result c.turns-test.true c.equation-item.is (IsWithin c.args.graph.now) sides_of c.turns.invariant.within).0.right

pub turns-preserved : goal.turns-preserved
turns-preserved c =
    let eqs = c.args.equations.now in
    let e = c.equation-item.result in
    let g = c.args.graph.now in
    record {
      count = omega (arith, c.turns.invariant.count, c.in_ok-raise_by_side.ensures.count, c.in_ok-raise_by_side-2.ensures.count);
      within = (each_map_here eqs c.turns.equation-index e c.turns-test.true c.equation-item.is (IsWithin g) sides_of c.turns.invariant.within).1;
      each = raised_equation g.terms _ _ _ (sides_of e) (map (equation_in g.terms) (map sides_of (drop (c.turns.equation-index + 1) eqs))) (map (equation_in g.terms) (map sides_of (drop c.turns.equation-index eqs)))
          (λ d v. max (reach_at c.args.found.now.items d v) (equations_shift d v (map (equation_in g.terms) (map sides_of eqs))))
          (ap (map (equation_in g.terms)) (map_here eqs c.turns.equation-index e c.turns-test.true c.equation-item.is sides_of))
          c.turns.invariant.each c.in_ok-raise_by_side.ensures c.in_ok-raise_by_side-2.ensures;
    }
