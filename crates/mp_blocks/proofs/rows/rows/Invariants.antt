use Rattle.std.proofs.Common.{map, take}
use Rattle.mp_model_data.specs.Shown.{equation_in, sides_of}
use Rattle.mp_blocks.specs.Rows.{AreRowsOf}
use Rattle.mp_blocks.proofs.rows.rows.Given as goal

abbrev pub invariant-equations : goal.invariant-equations
invariant-equations l = AreRowsOf l.variables (map (λ x. equation_in l.fn.model.graph.terms (sides_of x)) (take l.i l.equations)) l.rows.items
