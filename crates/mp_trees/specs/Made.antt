-- What the items of a model have made so far, and what is still to be made.
use Rattle.std.specs.Prelude.{◌≡◌, ℤ, List, ◌++◌, map, Result, Ok, Err}
use Rattle.std.specs.List.{AllByRecursion}
use Rattle.mp_statements.specs.Statements.{Item}
use Rattle.mp_semantics.specs.Model as m
use Rattle.mp_semantics.specs.Shifted.{earlier}
use Rattle.mp_values.specs.Names.{Names}
use Rattle.mp_values.specs.ModelOf.{Locals}
use Rattle.mp_values.specs.From.{Taken, items_from}
use Rattle.mp_graph.specs.Images.{AreImages}
use Rattle.mp_graph.specs.Shared.{Shared}
use Rattle.mp_model_data.specs.Shown.{equation_in, sides_of, IsWithin}
use Rattle.mp_trees.specs.declared.fault.ModelFault.{ModelFault}
use Rattle.mp_trees.specs.declared.made.Made.{Made}
use Rattle.mp_trees.specs.Earlier.{ItemsHaveDifferences}
use Rattle.mp_trees.specs.Gives.{Fails}
use Rattle.mp_trees.specs.Locals.{locals_in, AreNodes, AreAlike}
use Rattle.mp_trees.specs.Parts.{after_taken}

abbrev pub Equations : Type 0
Equations = List m.Equation

-- the equations that were made
abbrev pub equations_made : Shared → Made → Equations
equations_made g made = map (equation_in g.terms) (map sides_of made.equations.items)

-- what was made stands in the graph, and with what these items and exponents give it is the whole
pub record IsRest (ns : Names) (whole : Taken Equations) (g : Shared) (made : Made) (items : List Item) (ks : List ℤ) : Type 0 where
  pub named : g.names ≡ ns
  pub images : AreImages g made.images earlier
  pub nodes : AreNodes g.terms made.locals
  pub within : AllByRecursion (IsWithin g) (map sides_of made.equations.items)
  pub locals : Locals
  pub alike : AreAlike (locals_in g.terms made.locals) locals
  pub given : after_taken (equations_made g made) (items_from ns locals items ks) ≡ whole
  pub shifts : ItemsHaveDifferences ns locals items

-- these items are the next of some that are to be made
abbrev pub AreNext : Shared → Made → List Item → List ℤ → Type 0
AreNext g made items ks =
    (ns : Names) × (whole : Taken Equations) × (more : List Item) × IsRest ns whole g made (items ++ more) ks

-- where one graph was to make some items and more, the other is to make more, or the whole fails
abbrev pub Makes : {X : Type 0} → Result X ModelFault → Shared → Made → List ℤ → List Item → Shared → Made → List ℤ → Type 0
Makes (Ok _) g made ks items h new js =
    (ns : Names) (whole : Taken Equations) (more : List Item) → IsRest ns whole g made (items ++ more) ks → IsRest ns whole h new more js
Makes (Err e) g made ks items h new js =
    (ns : Names) (whole : Taken Equations) (more : List Item) → IsRest ns whole g made (items ++ more) ks → Fails e whole
