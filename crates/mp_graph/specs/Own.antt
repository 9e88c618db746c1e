-- The nodes that stand in one node.
use Rattle.std.specs.Prelude.{◌≡◌, ◌<◌, ◌-◌, ◌⊎◌, ℕ, List, length, slice_index}
use Rattle.std.specs.List.{Contains}
use Rattle.mp_semantics.specs.Term.{Term}
use Rattle.mp_graph.specs.Shared.{term_at}
use Rattle.mp_graph.specs.Part.{IsPart, IsIn}

-- the numbers of all that stands in the node of this number, rising; it is the last one
pub record AreOwn (ts : List Term) (root : ℕ) (ids : List ℕ) : Type 0 where
  pub some : 0 < length ids
  pub last : slice_index ids (length ids - 1) ≡ root
  pub rising : (k m : ℕ) → k < m → m < length ids → slice_index ids k < slice_index ids m
  pub closed : (k : ℕ) (t : Term) → k < length ids → IsPart t (term_at ts (slice_index ids k)) → (m : ℕ) × (m < k) × (term_at ts (slice_index ids m) ≡ t)
  pub only : (k : ℕ) → k < length ids → IsIn (term_at ts (slice_index ids k)) (term_at ts root)

-- the new list has the old numbers and these, and no others
pub record AddsEach (kids old new : List ℕ) : Type 0 where
  pub each : (q : ℕ) → Contains kids q → Contains new q
  pub stay : (q : ℕ) → Contains old q → Contains new q
  pub only : (q : ℕ) → Contains new q → Contains old q ⊎ Contains kids q

-- the same, falling from it
pub record AreFalling (ts : List Term) (root : ℕ) (ids : List ℕ) : Type 0 where
  pub some : 0 < length ids
  pub first : slice_index ids 0 ≡ root
  pub falling : (k m : ℕ) → k < m → m < length ids → slice_index ids m < slice_index ids k
  pub closed : (k : ℕ) (t : Term) → k < length ids → IsPart t (term_at ts (slice_index ids k)) → (m : ℕ) × (k < m) × (m < length ids) × (term_at ts (slice_index ids m) ≡ t)
  pub only : (k : ℕ) → k < length ids → IsIn (term_at ts (slice_index ids k)) (term_at ts root)
