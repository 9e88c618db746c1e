-- What a boundary has for so many names.
use Rattle.std.specs.Prelude.{◌<◌, ℕ, ℤ, false, ◌≡◌, IsSome, IsTrue}
use Rattle.mp_semantics.specs.Term.{endogenous, exogenous}
use Rattle.mp_semantics.specs.Solves.{is_inside, is_near}
use Rattle.mp_path.specs.Edges.{Edges, edge_of, parameter_of}

-- a value for each of the first p parameters, and for each of the first e endogenous and x exogenous variables beside the path
pub record IsFull (b : Edges) (p e x : ℕ) : Type 0 where
  pub parameters : (n : ℕ) → n < p → IsSome (parameter_of b n)
  pub endogenous : (v : ℕ) (t : ℤ) → v < e → IsTrue (is_near b.periods t) → is_inside b.periods t ≡ false → IsSome (edge_of b (endogenous v) t)
  pub exogenous : (v : ℕ) (t : ℤ) → v < x → IsTrue (is_near b.periods t) → IsSome (edge_of b (exogenous v) t)
