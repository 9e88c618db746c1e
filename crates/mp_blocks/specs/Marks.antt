-- Rows of marks on the way to a row of variables.
use Rattle.std.specs.Prelude.{◌≡◌, ◌<◌, ◌⊎◌, ◌↔◌, ℕ, Bool, true, false, List, length, slice_index, slice_index_or}
use Rattle.mp_semantics.specs.Term.{Term, leaf, negative, binary, power_of, pick}
use Rattle.mp_graph.specs.Shared.{term_at}
use Rattle.mp_blocks.specs.Rows.{IsOf}

-- the term is itself this variable
abbrev pub IsVariable : ℕ → Term → Type 0
IsVariable v (leaf l) = IsOf v l
IsVariable v (negative a) = ⊥
IsVariable v (binary o a b) = ⊥
IsVariable v (power_of a k) = ⊥
IsVariable v (pick a b c d) = ⊥

-- the same marks and those of the numbers for which P holds, and no others
pub record AddsMarks (P : ℕ → Type 0) (old new : List Bool) : Type 0 where
  pub size : length new ≡ length old
  pub each : (v : ℕ) → v < length old → (slice_index_or new v false ≡ true) ↔ ((slice_index_or old v false ≡ true) ⊎ P v)

-- the variable is one of the first k of these nodes
abbrev pub IsAmong : List Term → List ℕ → ℕ → ℕ → Type 0
IsAmong ts ids k v = (j : ℕ) × (j < k) × IsVariable v (term_at ts (slice_index ids j))
