-- Blocks of equations, and their order.
use Rattle.std.specs.Prelude.{◌≡◌, ◌<◌, ◌≤◌, ◌+◌, ◌⊎◌, ℕ, List, [], length, slice_index, slice_index_or}
use Rattle.mp_pairing.specs.Lists.{Has, IsRising}
use Rattle.mp_pairing.specs.Pairing.{Occurs}

-- equation a needs equation b: b's variable occurs in a
pub record Needs (rows : List (List ℕ)) (f : List ℕ) (a b : ℕ) : Type 0 where
  pub from : a < length rows
  pub to : b < length rows
  pub occurs : Occurs rows a (slice_index f b)

-- through any number of steps
pub data Steps (E : ℕ → ℕ → Type 0) : ℕ → ℕ → Type 0 where
  none : (a : ℕ) → Steps E a a
  more : (a b c : ℕ) → E a b → Steps E b c → Steps E a c

abbrev pub Reaches : List (List ℕ) → List ℕ → ℕ → ℕ → Type 0
Reaches rows f a b = Steps (Needs rows f) a b

abbrev pub NeedEachOther : List (List ℕ) → List ℕ → ℕ → ℕ → Type 0
NeedEachOther rows f a b = Reaches rows f a b × Reaches rows f b a

-- a class of equations that need each other, rising
pub record IsBlock (rows : List (List ℕ)) (f : List ℕ) (b : List ℕ) : Type 0 where
  pub some : 0 < length b
  pub rising : IsRising b
  pub within : (e : ℕ) → Has b e → e < length rows
  pub one : (d e : ℕ) → Has b d → Has b e → NeedEachOther rows f d e
  pub whole : (d e : ℕ) → Has b d → e < length rows → NeedEachOther rows f d e → Has b e

abbrev pub block : List (List ℕ) → ℕ → List ℕ
block bs p = slice_index_or bs p []

-- it stands in a block before the place p
abbrev pub IsPlaced : List (List ℕ) → ℕ → ℕ → Type 0
IsPlaced bs p e = (q : ℕ) × (q < p) × Has (block bs q) e

-- e's block may be placed at p: every block that it needs is placed before
abbrev pub MayCome : List (List ℕ) → List ℕ → List (List ℕ) → ℕ → ℕ → Type 0
MayCome rows f bs p e = (a b : ℕ) → NeedEachOther rows f e a → Needs rows f a b → IsPlaced bs p b ⊎ NeedEachOther rows f e b

-- all blocks, each once; of those that may be placed, the one with the smallest equation number comes next
pub record IsOrder (rows : List (List ℕ)) (f : List ℕ) (bs : List (List ℕ)) : Type 0 where
  pub blocks : (p : ℕ) → p < length bs → IsBlock rows f (block bs p)
  pub all : (e : ℕ) → e < length rows → IsPlaced bs (length bs) e
  pub once : (p e : ℕ) → p < length bs → Has (block bs p) e → IsPlaced bs p e → ⊥
  pub may : (p e : ℕ) → p < length bs → Has (block bs p) e → MayCome rows f bs p e
  pub smallest : (p e : ℕ) → p < length bs → e < length rows → (IsPlaced bs p e → ⊥) → MayCome rows f bs p e → slice_index (block bs p) 0 ≤ e

-- the equations of a block read only variables of this and earlier blocks
abbrev pub ReadsPlaced : List (List ℕ) → List ℕ → List (List ℕ) → Type 0
ReadsPlaced rows f bs = (p e v : ℕ) → p < length bs → Has (block bs p) e → Occurs rows e v → (d : ℕ) × IsPlaced bs (p + 1) d × (slice_index f d ≡ v)
