-- Names by their numbers, from 1.
use Rattle.std.specs.Prelude.{ℕ, ℤ, ◌+◌, ◌-◌, List, option_map, Option}
use Rattle.std.specs.Option.{option_or}
use Rattle.mp_semantics.specs.Term.{Term, leaf, variable, endogenous, exogenous, parameter}
use Rattle.mp_values.specs.Names.{Names, place_of}
use Rattle.mp_names.specs.declared.names.NameId.{NameId}
use Rattle.mp_names.specs.declared.names.NameId.TheVariants.{Endo, Exo, Param}

-- the kind and the number of a name, if it is there
abbrev pub id_of : Names → List ℕ → Option NameId
id_of ns name =
    option_or (option_map (λ p. Endo (p + 1)) (place_of ns.endogenous name)) (option_or (option_map (λ p. Exo (p + 1)) (place_of ns.exogenous name)) (option_map (λ p. Param (p + 1)) (place_of ns.parameters name)))

-- the variable of this number, shifted, or the parameter
abbrev pub term_by : ℤ → NameId → Term
term_by shift (Endo n) = leaf (variable (endogenous (n - 1)) shift)
term_by shift (Exo n) = leaf (variable (exogenous (n - 1)) shift)
term_by shift (Param n) = leaf (parameter (n - 1))
