-- A list of nodes as a list of terms.
use Rattle.std.specs.Prelude.{◌≡◌, ◌<◌, ℕ, List, [], ◌∷◌, ◌++◌, length, slice_get, Some, fold}
use Rattle.std.specs.List.{AllByRecursion}
use Rattle.mp_semantics.specs.Term.{Term}
use Rattle.mp_graph.specs.declared.graph.Node.{Node}
use Rattle.mp_values.specs.Names.{Names}
use Rattle.mp_graph.specs.Op.{arity, IsLawful, over}

-- the terms of nodes in order, each over those before it
abbrev pub terms_of : List Node → List Term
terms_of nodes = fold (λ before n. before ++ over before n.op n.kids ∷ []) [] nodes

-- a node that may stand at place i
pub record FitsAt (names : Names) (i : ℕ) (n : Node) : Type 0 where
  pub lawful : IsLawful names n.op
  pub count : length n.kids ≡ arity n.op
  pub below : AllByRecursion (λ k. k < i) n.kids

abbrev pub IsSound : Names → List Node → Type 0
IsSound names nodes = (i : ℕ) (n : Node) → slice_get nodes i ≡ Some n → FitsAt names i n
