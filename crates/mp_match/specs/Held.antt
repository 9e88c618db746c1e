-- Which variable each equation holds, while some hold none that occurs in them.
use Rattle.std.specs.Prelude.{◌≡◌, ◌≢◌, ◌<◌, ◌≤◌, ◌+◌, ◌⊎◌, ℕ, Bool, true, false, List, length, slice_index, Option, MatchOption}
use Rattle.mp_pairing.specs.Lists.{Has, IsOnce}
use Rattle.mp_incidence.specs.Links.{MayTake}
use Rattle.mp_pairing.specs.Pairing.{AgreeBefore}
use Rattle.mp_incidence.specs.Tables.{cell}

-- all numbers below n, each once
pub record IsAll (f : List ℕ) (n : ℕ) : Type 0 where
  pub count : length f ≡ n
  pub below : (k : ℕ) → k < n → slice_index f k < n
  pub once : IsOnce f

-- the number at each place is its place
pub record IsNumbered (n : ℕ) (xs : List ℕ) : Type 0 where
  pub count : length xs ≡ n
  pub each : (k : ℕ) → k < n → slice_index xs k ≡ k

-- places that each have an earlier one
pub record IsTree (n : ℕ) (nodes via : List ℕ) : Type 0 where
  pub some : 0 < length nodes
  pub count : length via ≡ length nodes
  pub within : (j : ℕ) → j < length nodes → slice_index nodes j < n
  pub once : IsOnce nodes
  pub earlier : (j : ℕ) → 0 < j → j < length nodes → slice_index via j < j

-- node i holds what it held, or what the node that it links to held
abbrev pub IsHandedOn : List ℕ → List ℕ → List ℕ → List ℕ → ℕ → Type 0
IsHandedOn nodes via f g i = (slice_index g (slice_index nodes i) ≡ slice_index f (slice_index nodes i)) ⊎ (slice_index g (slice_index nodes i) ≡ slice_index f (slice_index nodes (slice_index via i)))

-- g is f, but that the first node holds what the last one held, and nodes have handed on theirs
pub record IsRotated (nodes via : List ℕ) (last : ℕ) (f g : List ℕ) : Type 0 where
  pub first : slice_index g (slice_index nodes 0) ≡ slice_index f (slice_index nodes last)
  pub rest : (i : ℕ) → 0 < i → i < length nodes → IsHandedOn nodes via f g i
  pub other : (e : ℕ) → (Has nodes e → ⊥) → slice_index g e ≡ slice_index f e

-- the same on the way, where the node at `at` holds it
pub record IsRotating (nodes via : List ℕ) (last at : ℕ) (f g : List ℕ) : Type 0 where
  pub within : at < length nodes
  pub all : IsAll g (length f)
  pub here : slice_index g (slice_index nodes at) ≡ slice_index f (slice_index nodes last)
  pub before : (i : ℕ) → i < at → slice_index g (slice_index nodes i) ≡ slice_index f (slice_index nodes i)
  pub rest : (i : ℕ) → 0 < i → i < length nodes → i ≢ at → IsHandedOn nodes via f g i
  pub other : (e : ℕ) → (Has nodes e → ⊥) → slice_index g e ≡ slice_index f e

-- of the first m nodes, the one whose variable is the least of those that occur in equation k
abbrev pub IsChosen : List (List Bool) → List ℕ → List ℕ → ℕ → ℕ → Option ℕ → Type 0
IsChosen t f nodes k m best =
    MatchOption best ((i : ℕ) → i < m → cell t k (slice_index f (slice_index nodes i)) ≡ false)
    (λ b. (b < m) × (cell t k (slice_index f (slice_index nodes b)) ≡ true)
    × ((i : ℕ) → i < m → cell t k (slice_index f (slice_index nodes i)) ≡ true → slice_index f (slice_index nodes b) ≤ slice_index f (slice_index nodes i)))

-- each of the first equations holds a variable that occurs in it
abbrev pub HoldsBefore : List (List Bool) → ℕ → List ℕ → Type 0
HoldsBefore t high f = (e : ℕ) → e < high → cell t e (slice_index f e) ≡ true

abbrev pub HoldsButOne : List (List Bool) → ℕ → ℕ → List ℕ → Type 0
HoldsButOne t high k f = (e : ℕ) → e < high → e ≢ k → cell t e (slice_index f e) ≡ true

-- equation k has the least variable that it can have beside what those before `low` hold
pub record IsSettled (t : List (List Bool)) (low high k : ℕ) (f g : List ℕ) : Type 0 where
  pub all : IsAll g (length t)
  pub kept : (e : ℕ) → e < low → slice_index g e ≡ slice_index f e
  pub holds : HoldsBefore t high g
  pub least : (h : List ℕ) → IsAll h (length t) → HoldsBefore t high h → AgreeBefore low f h → slice_index g k ≤ slice_index h k

-- nothing that may hand on to equation k holds a variable that occurs in it
pub record IsStuck (t : List (List Bool)) (low high k : ℕ) (f : List ℕ) : Type 0 where
  pub nodes : List ℕ
  pub root : Has nodes k
  pub closed : (a b : ℕ) → a < length t → Has nodes b → MayTake t f low high a b → Has nodes a
  pub none : (b : ℕ) → Has nodes b → cell t k (slice_index f b) ≡ false

pub record IsPaired (t : List (List Bool)) (i : ℕ) (f : List ℕ) : Type 0 where
  pub all : IsAll f (length t)
  pub holds : HoldsBefore t i f

pub record IsStuckAt (t : List (List Bool)) (i : ℕ) (f : List ℕ) : Type 0 where
  pub within : i < length t
  pub paired : IsPaired t i f
  pub stuck : IsStuck t 0 (i + 1) i f

-- each of the first k equations has the least variable that it can have beside those before it
pub record IsLeastUpto (t : List (List Bool)) (k : ℕ) (f : List ℕ) : Type 0 where
  pub paired : IsPaired t (length t) f
  pub least : (g : List ℕ) → IsPaired t (length t) g → (e : ℕ) → e < k → AgreeBefore e f g → slice_index f e ≤ slice_index g e

-- v occurs in one of these equations
abbrev pub Touches : List (List Bool) → List ℕ → ℕ → Type 0
Touches t nodes v = (i : ℕ) × (i < length nodes) × (cell t (slice_index nodes i) v ≡ true)
