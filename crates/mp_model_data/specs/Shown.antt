-- A model as the definitions see it.
use Rattle.std.specs.Prelude.{◌≡◌, ◌<◌, ◌≤◌, ℕ, List, [], Option, option_map, length, map, take, refl}
use Rattle.std.specs.List.{AllByRecursion}
use Rattle.std.specs.Coded.{Coded, code_by, coded×, coded_ℕ, coded_list, coded_option}
use Rattle.mp_rational.specs.Fraction.{Fraction}
use Rattle.mp_semantics.specs.Term.{Term}
use Rattle.mp_semantics.specs.Model as m
use Rattle.mp_values.specs.ModelOf.{equation_named}
use Rattle.mp_frac.specs.Value.{value_of}
use Rattle.mp_names.specs.Coded.{fraction_code}
use Rattle.mp_graph.specs.Shared.{Shared, shared_code, term_at}
use Rattle.mp_model_data.specs.declared.parts.Equation.{Equation}
use Rattle.mp_model_data.specs.declared.parts.Parameter.{Parameter}

-- an equation by its name, if it has one, and the numbers of its sides
pub record Sides : Type 0 where
  pub name : Option (List ℕ)
  pub left : ℕ
  pub right : ℕ

-- a graph, parameters with their values, and equations, whose sides are nodes of the graph; beside them the equations of the source, and how many endogenous variables it has
pub record Held : Type 0 where
  pub graph : Shared
  pub parameters : List m.Parameter
  pub equations : List Sides
  pub source : List Sides
  pub variables : ℕ

abbrev pub parameter_code : Coded m.Parameter
parameter_code =
    code_by (List ℕ × Fraction) (coded× (coded_list coded_ℕ) fraction_code) (λ p. (p.name, p.value)) (λ p. record { name = p.0; value = p.1 }) (λ _. refl)

abbrev pub sides_code : Coded Sides
sides_code =
    code_by (Option (List ℕ) × (ℕ × ℕ)) (coded× (coded_option (coded_list coded_ℕ)) (coded× coded_ℕ coded_ℕ)) (λ x. (x.name, (x.left, x.right))) (λ p. record { name = p.0; left = p.1.0; right = p.1.1 }) (λ _. refl)

abbrev pub held_code : Coded Held
held_code =
    code_by (Shared × (List m.Parameter × (List Sides × (List Sides × ℕ)))) (coded× shared_code (coded× (coded_list parameter_code) (coded× (coded_list sides_code) (coded× (coded_list sides_code) coded_ℕ)))) (λ h. (h.graph, (h.parameters, (h.equations, (h.source, h.variables))))) (λ p. record { graph = p.0; parameters = p.1.0; equations = p.1.1.0; source = p.1.1.1.0; variables = p.1.1.1.1 }) (λ _. refl)

-- both sides are nodes of the graph
pub record IsWithin (g : Shared) (x : Sides) : Type 0 where
  pub left : x.left < length g.terms
  pub right : x.right < length g.terms

-- the parameters are those that the graph names, each side is a node of it, and the source's variables are the first that it names
pub record IsWhole (h : Held) : Type 0 where
  pub named : map (λ p. p.name) h.parameters ≡ h.graph.names.parameters
  pub within : AllByRecursion (IsWithin h.graph) h.equations
  pub source_within : AllByRecursion (IsWithin h.graph) h.source
  pub few : h.variables ≤ length h.graph.names.endogenous

-- a parameter with its value
abbrev pub parameter_of : Parameter → m.Parameter
parameter_of p = record { name = p.name.now; value = value_of p.value }

-- an equation with its name
abbrev pub sides_of : Equation → Sides
sides_of x = record { name = option_map (λ n. n.now) x.name; left = x.left; right = x.right }

-- an equation of these terms that is in force in each regime
abbrev pub equation_in : List Term → Sides → m.Equation
equation_in ts x = equation_named x.name (term_at ts x.left) (term_at ts x.right)

-- the model of these names, parameters and equations, without constraints
abbrev pub model_data : Held → m.Model
model_data h = record {
  endogenous_names = h.graph.names.endogenous;
  exogenous_names = h.graph.names.exogenous;
  parameters = h.parameters;
  equations = map (equation_in h.graph.terms) h.equations;
  constraints = [];
}

-- the source: the model of the first names and of its own equations
abbrev pub source_data : Held → m.Model
source_data h = record {
  endogenous_names = take h.variables h.graph.names.endogenous;
  exogenous_names = h.graph.names.exogenous;
  parameters = h.parameters;
  equations = map (equation_in h.graph.terms) h.source;
  constraints = [];
}
