-- Pairings of equations and variables, both numbered from 0. A list of rows has the variables of each equation.
use Rattle.std.specs.Prelude.{◌≡◌, ◌<◌, ◌≤◌, ℕ, List, [], length, slice_index, slice_index_or}
use Rattle.mp_pairing.specs.Lists.{Has, IsOnce, IsRising}

-- the variable v occurs in equation e
abbrev pub Occurs : List (List ℕ) → ℕ → ℕ → Type 0
Occurs rows e v = Has (slice_index_or rows e []) v

-- as many variables as equations
abbrev pub IsWithin : List (List ℕ) → Type 0
IsWithin rows = (e v : ℕ) → Occurs rows e v → v < length rows

-- a variable for each of the first m equations, which occurs in it, and none twice
pub record IsMatching (rows : List (List ℕ)) (m : ℕ) (f : List ℕ) : Type 0 where
  pub count : length f ≡ m
  pub incident : (e : ℕ) → e < m → Occurs rows e (slice_index f e)
  pub once : IsOnce f

abbrev pub HasMatching : List (List ℕ) → ℕ → Type 0
HasMatching rows m = (f : List ℕ) × IsMatching rows m f

-- the variables of the equations before e are the same
abbrev pub AgreeBefore : ℕ → List ℕ → List ℕ → Type 0
AgreeBefore e f g = (d : ℕ) → d < e → slice_index f d ≡ slice_index g d

-- the first matching of all equations, in the order that compares the variable of the first equation, then of the second, and so on
pub record IsLeast (rows : List (List ℕ)) (f : List ℕ) : Type 0 where
  pub matching : IsMatching rows (length rows) f
  pub least : (g : List ℕ) → IsMatching rows (length rows) g → (e : ℕ) → e < length rows → AgreeBefore e f g → slice_index f e ≤ slice_index g e

-- the first i equations have no matching, and i is the first such number
pub record IsFirstWithout (rows : List (List ℕ)) (i : ℕ) : Type 0 where
  pub within : i ≤ length rows
  pub none : HasMatching rows i → ⊥
  pub before : (j : ℕ) → j < i → HasMatching rows j

-- the variables that occur in these equations, rising
pub record AreVariables (rows : List (List ℕ)) (es vs : List ℕ) : Type 0 where
  pub rising : IsRising vs
  pub only : (v : ℕ) → Has vs v → (e : ℕ) × Has es e × Occurs rows e v
  pub each : (e v : ℕ) → Has es e → Occurs rows e v → Has vs v

-- some of the first i equations, rising, with fewer variables than members
pub record IsDeficient (rows : List (List ℕ)) (i : ℕ) (es vs : List ℕ) : Type 0 where
  pub rising : IsRising es
  pub below : (e : ℕ) → Has es e → e < i
  pub variables : AreVariables rows es vs
  pub fewer : length vs < length es

-- the least set, by inclusion, of the first equations without a matching that has fewer variables than members
pub record IsShortSet (rows : List (List ℕ)) (es vs : List ℕ) : Type 0 where
  pub upto : ℕ
  pub first : IsFirstWithout rows upto
  pub deficient : IsDeficient rows upto es vs
  pub least : (ts us : List ℕ) → IsDeficient rows upto ts us → (e : ℕ) → Has es e → Has ts e
