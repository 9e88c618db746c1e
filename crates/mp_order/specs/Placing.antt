-- How blocks are placed, by a table of what reaches what: b's row has all that reach b.
use Rattle.std.specs.Prelude.{◌≡◌, ◌<◌, ◌≤◌, ◌↔◌, ◌⊎◌, ℕ, Bool, true, false, List, length, slice_index, slice_index_or, Option, MatchOption}
use Rattle.mp_pairing.specs.Lists.{Has, IsRising}
use Rattle.mp_pairing.specs.Blocks.{Steps, block, IsPlaced}
use Rattle.mp_incidence.specs.Tables.{cell}

pub record IsLinked (t : List (List Bool)) (a b : ℕ) : Type 0 where
  pub from : a < length t
  pub to : b < length t
  pub set : cell t a b ≡ true

abbrev pub ReachesBack : List (List Bool) → ℕ → ℕ → Type 0
ReachesBack t b a = Steps (IsLinked t) a b

-- all reach themselves, and what reaches what reaches c, reaches c
pub record IsPreorder (t : List (List Bool)) : Type 0 where
  pub itself : (a : ℕ) → a < length t → cell t a a ≡ true
  pub along : (a b c : ℕ) → a < length t → b < length t → c < length t → cell t b a ≡ true → cell t c b ≡ true → cell t c a ≡ true

abbrev pub EachOther : List (List Bool) → ℕ → ℕ → Type 0
EachOther t e d = (cell t e d ≡ true) × (cell t d e ≡ true)

-- all that e reaches is placed, or reaches e
abbrev pub IsReady : List (List Bool) → List Bool → ℕ → ℕ → Type 0
IsReady t placed n e = (b : ℕ) → b < n → cell t b e ≡ true → (slice_index_or placed b false ≡ true) ⊎ (cell t e b ≡ true)

-- e reaches one that is not placed and does not reach e
pub record IsHeld (t : List (List Bool)) (placed : List Bool) (n e : ℕ) : Type 0 where
  pub by : ℕ
  pub within : by < n
  pub reached : cell t by e ≡ true
  pub open' : slice_index_or placed by false ≡ false
  pub apart : cell t e by ≡ false

-- each of the equations before m is placed, or waits
abbrev pub NoneBefore : List (List Bool) → List Bool → ℕ → ℕ → Type 0
NoneBefore t placed n m = (d : ℕ) → d < m → (slice_index_or placed d false ≡ true) ⊎ IsHeld t placed n d

-- the first that is not placed and is ready
abbrev pub IsNext : List (List Bool) → List Bool → ℕ → Option ℕ → Type 0
IsNext t placed n r =
    MatchOption r (NoneBefore t placed n n)
    (λ e. (e < n) × (slice_index_or placed e false ≡ false) × IsReady t placed n e × NoneBefore t placed n e)

pub record AddsMarked (class : List Bool) (m : ℕ) (old new : List Bool) : Type 0 where
  pub size : length new ≡ length old
  pub each : (d : ℕ) → d < length old → (slice_index_or new d false ≡ true) ↔ ((slice_index_or old d false ≡ true) ⊎ ((d < m) × (slice_index_or class d false ≡ true)))

-- all that reach this one and are reached from it, rising
pub record IsClass (t : List (List Bool)) (n : ℕ) (xs : List ℕ) : Type 0 where
  pub root : ℕ
  pub within : root < n
  pub rising : IsRising xs
  pub only : (d : ℕ) → Has xs d → (d < n) × EachOther t root d
  pub each : (d : ℕ) → d < n → EachOther t root d → Has xs d

-- all that e reaches is placed before p, or reaches e
abbrev pub IsClear : List (List Bool) → ℕ → List (List ℕ) → ℕ → ℕ → Type 0
IsClear t n bs p e = (b : ℕ) → b < n → cell t b e ≡ true → IsPlaced bs p b ⊎ (cell t e b ≡ true)

pub record IsOrdered (t : List (List Bool)) (n : ℕ) (bs : List (List ℕ)) : Type 0 where
  pub blocks : (p : ℕ) → p < length bs → IsClass t n (block bs p)
  pub once : (p e : ℕ) → p < length bs → Has (block bs p) e → IsPlaced bs p e → ⊥
  pub clear : (p e : ℕ) → p < length bs → Has (block bs p) e → IsClear t n bs p e
  pub smallest : (p e : ℕ) → p < length bs → e < n → (IsPlaced bs p e → ⊥) → IsClear t n bs p e → slice_index (block bs p) 0 ≤ e

pub record IsArranged (t : List (List Bool)) (n p : ℕ) (placed : List Bool) (bs : List (List ℕ)) : Type 0 where
  pub count : length bs ≡ p
  pub size : length placed ≡ n
  pub marks : (e : ℕ) → e < n → (slice_index_or placed e false ≡ true) ↔ IsPlaced bs (length bs) e
  pub ordered : IsOrdered t n bs

-- the same, with all equations
pub record IsWhole (t : List (List Bool)) (n : ℕ) (bs : List (List ℕ)) : Type 0 where
  pub ordered : IsOrdered t n bs
  pub all : (e : ℕ) → e < n → IsPlaced bs (length bs) e
