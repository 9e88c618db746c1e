-- The transformed model: long leads and lags are replaced by auxiliary variables (Dynare manual, "Auxiliary variables").
use Rattle.std.specs.Prelude.{pos, negsuc, suc, zero, None, [], ◌++◌, map}
use Rattle.mp_semantics.specs.Term.{endogenous, exogenous, Leaf, number, parameter, variable, steady_state, Term, leaf}
use Rattle.mp_semantics.specs.Model.{Model, Equation}
use Rattle.mp_semantics.specs.Shifted.{with_leaves}
use Rattle.mp_solutions.specs.Auxiliaries.{lead, lag, shift_by, Auxiliary, StandIns, auxiliaries_of, stand_in_of, auxiliary_name}

-- an endogenous shift beyond one is read one period on from its stand-in
abbrev pub short_leaf : StandIns → Leaf → Leaf
short_leaf stand (number m s) = number m s
short_leaf stand (parameter p) = parameter p
short_leaf stand (variable (endogenous v) (pos zero)) = variable (endogenous v) (pos 0)
short_leaf stand (variable (endogenous v) (pos (suc k))) = variable (endogenous (stand v lead k)) (pos 1)
short_leaf stand (variable (endogenous v) (negsuc k)) = variable (endogenous (stand v lag k)) (negsuc 0)
short_leaf stand (variable (exogenous v) k) = variable (exogenous v) k
short_leaf stand (steady_state v) = steady_state v

-- the term with each leaf so
abbrev pub short : StandIns → Term → Term
short stand e = with_leaves (short_leaf stand) e

-- the equation with both sides so; its tags stay
abbrev pub short_equation : StandIns → Equation → Equation
short_equation stand e = record {
  left = short stand e.left;
  right = short stand e.right;
  name = e.name;
  pair = e.pair;
  bind = e.bind;
  relax = e.relax;
}

-- an auxiliary is the one before it, one period on; the first is its variable, one period on
abbrev pub auxiliary_equation : StandIns → Auxiliary → Equation
auxiliary_equation stand a = record {
  left = leaf (variable (endogenous (stand a.place a.direction (suc a.index))) (pos 0));
  right = leaf (variable (endogenous (stand a.place a.direction a.index)) (shift_by a.direction 1));
  name = None;
  pair = None;
  bind = [];
  relax = [];
}

-- the source's names, then those of the auxiliaries; its equations in short form, then those of the auxiliaries; all else stays
abbrev pub transformed : Model → Model
transformed M = record {
  endogenous_names = M.endogenous_names ++ map (auxiliary_name M.endogenous_names) (auxiliaries_of M);
  exogenous_names = M.exogenous_names;
  parameters = M.parameters;
  equations = map (short_equation (stand_in_of M)) M.equations ++ map (auxiliary_equation (stand_in_of M)) (auxiliaries_of M);
  constraints = M.constraints;
}
