-- Local variables, each with the node of its expression.
use Rattle.std.specs.Prelude.{◌≡◌, ◌<◌, ℕ, List, [], ◌∷◌, map, length, Option, Some, None, if◌then◌else◌}
use Rattle.std.specs.Str.{bytes_eq}
use Rattle.mp_semantics.specs.Term.{Term}
use Rattle.mp_values.specs.ModelOf.{Locals, local_in}
use Rattle.mp_graph.specs.Shared.{term_at}

-- the node of a local variable
abbrev pub node_in : List (List ℕ × ℕ) → List ℕ → Option ℕ
node_in [] name = None
node_in (l ∷ ls) name = if bytes_eq name l.0 then Some l.1 else node_in ls name

-- local variables with their expressions
abbrev pub locals_in : List Term → List (List ℕ × ℕ) → Locals
locals_in ts ls = map (λ l. (l.0, term_at ts l.1)) ls

-- the node of each local variable is one of these
pub record AreNodes (ts : List Term) (ls : List (List ℕ × ℕ)) : Type 0 where
  pub within : (name : List ℕ) (id : ℕ) → node_in ls name ≡ Some id → id < length ts

-- each name stands for the same in both
abbrev pub AreAlike : Locals → Locals → Type 0
AreAlike ls ks = (name : List ℕ) → local_in ls name ≡ local_in ks name
