-- Which leaves read names that there are.
use Rattle.std.specs.Prelude.{◌<◌, length}
use Rattle.mp_semantics.specs.Term.{Leaf, number, parameter, variable, endogenous, exogenous, steady_state}
use Rattle.mp_values.specs.Names.{Names}

-- what it reads is one of these names
abbrev pub IsNamedLeaf : Names → Leaf → Type 0
IsNamedLeaf ns (number m s) = Unit {0}
IsNamedLeaf ns (parameter p) = p < length ns.parameters
IsNamedLeaf ns (variable (endogenous v) k) = v < length ns.endogenous
IsNamedLeaf ns (variable (exogenous v) k) = v < length ns.exogenous
IsNamedLeaf ns (steady_state v) = v < length ns.endogenous
