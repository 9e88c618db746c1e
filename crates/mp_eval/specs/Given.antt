-- What an evaluation asks of terms.
use Rattle.std.specs.Prelude.{ℕ, ◌<◌, ◌+◌, ◌^◌, Bool, false, if◌then◌else◌, zero, suc, List, length, slice_index, slice_index_or, Option, IsSome, IsTrue, Contains}
use Rattle.mp_semantics.specs.Term.{Leaf, Term, leaf, negative, binary, power_of, pick}
use Rattle.mp_walk.specs.Cells.{Cell}
use Rattle.mp_walk.specs.Walk.{size}
use Rattle.mp_graph.specs.Shared.{term_at}
use Rattle.mp_graph.specs.Part.{IsPart, IsIn}

-- something stands for each leaf
abbrev pub IsGiven : (Leaf → Option Cell) → Term → Type 0
IsGiven read (leaf l) = IsSome (read l)
IsGiven read (negative a) = IsGiven read a
IsGiven read (binary o a b) = IsGiven read a × IsGiven read b
IsGiven read (power_of a k) = IsGiven read a
IsGiven read (pick a b c d) = IsGiven read a × IsGiven read b × IsGiven read c × IsGiven read d

-- whether the node of a number is marked
abbrev pub is_marked : List Bool → ℕ → Bool
is_marked marks k = slice_index_or marks k false

-- how many of the first n nodes are
abbrev pub marked_of : List Bool → ℕ → ℕ
marked_of marks zero = 0
marked_of marks (suc n) = marked_of marks n + (if is_marked marks n then 1 else 0)

-- with a node its kids are marked, something stands for its leaves, and its term is small
pub record AreMarked (read : Leaf → Option Cell) (ts : List Term) (marks : List Bool) : Type 0 where
  pub closed : (k j : ℕ) → k < length ts → j < k → IsTrue (is_marked marks k) → IsPart (term_at ts j) (term_at ts k) → IsTrue (is_marked marks j)
  pub given : (k : ℕ) → k < length ts → IsTrue (is_marked marks k) → IsGiven read (term_at ts k)
  pub small : (k : ℕ) → k < length ts → IsTrue (is_marked marks k) → size (term_at ts k) < 2 ^ 32

-- the roots are marked, with a node its kids, and nothing but what stands in a root
pub record AreReached (ts : List Term) (roots : List ℕ) (marks : List Bool) : Type 0 where
  pub root : (r : ℕ) → r < length roots → IsTrue (is_marked marks (slice_index roots r))
  pub closed : (k j : ℕ) → k < length ts → j < k → IsTrue (is_marked marks k) → IsPart (term_at ts j) (term_at ts k) → IsTrue (is_marked marks j)
  pub only : (k : ℕ) → k < length ts → IsTrue (is_marked marks k) → (r : ℕ) × (r < length roots) × IsIn (term_at ts k) (term_at ts (slice_index roots r))

-- all that stands in a root is marked
abbrev pub HoldAll : List Term → List ℕ → List Bool → Type 0
HoldAll ts roots marks = (k r : ℕ) → k < length ts → r < length roots → IsIn (term_at ts k) (term_at ts (slice_index roots r)) → IsTrue (is_marked marks k)

-- each term that stands in a root is in this list
abbrev pub HasAll : List Term → List ℕ → List Term → Type 0
HasAll ts roots list = (t : Term) (r : ℕ) → r < length roots → IsIn t (term_at ts (slice_index roots r)) → Contains list t
