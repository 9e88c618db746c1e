-- The least and the greatest of several shifts.
use Rattle.std.specs.Prelude.{◌≡◌, ◌≤◌, ◌<◌, ◌^◌, ◌⊎◌, ℕ, suc, ℤ, pos, negsuc, neg_ℤ, ◌≤ℤ◌, min, unsigned_abs, List, [], ◌∷◌, Option, Some, None, Result, Ok, Err}
use Rattle.mp_values.specs.Shifts.{greatest_shift}
use Rattle.mp_local.specs.declared.ends.Ends.{Ends}

-- a shift that is told up to 2^124 periods either way
abbrev pub stopped : ℤ → ℤ
stopped (pos n) = pos (min n (2 ^ 124))
stopped (negsuc n) = neg_ℤ (pos (min (suc n) (2 ^ 124)))

-- it is one of these
abbrev pub IsAmong : ℤ → List ℤ → Type 0
IsAmong k [] = ⊥
IsAmong k (x ∷ xs) = (k ≡ x) ⊎ IsAmong k xs

-- both are among these, and each of these lies from one to the other
pub record AreEnds (least greatest : ℤ) (ks : List ℤ) : Type 0 where
  pub least_in : IsAmong least ks
  pub greatest_in : IsAmong greatest ks
  pub within : (k : ℤ) → IsAmong k ks → (least ≤ℤ k) × (k ≤ℤ greatest)

-- the ends of these shifts, if there are any
abbrev pub Spans : Option Ends → List ℤ → Type 0
Spans None ks = ks ≡ []
Spans (Some e) ks = AreEnds e.least e.greatest ks

-- some of these shifts, and the greatest end, go further than is told
abbrev pub IsBeyond : Option Ends → List ℤ → Type 0
IsBeyond None ks = ⊥
IsBeyond (Some e) ks = (2 ^ 124 ≤ unsigned_abs e.greatest) × (2 ^ 124 ≤ greatest_shift ks)

-- the ends of these shifts, if there are any, unless they go further than is told
abbrev pub Tells : Option Ends → List ℤ → Type 0
Tells ends ks = Spans ends ks ⊎ IsBeyond ends ks

-- the ends of these shifts, none of which is beyond the limit; or the greatest of them
abbrev pub Leads : ℕ → Result Ends ℕ → List ℤ → Type 0
Leads limit (Ok e) ks = (greatest_shift ks ≤ limit) × AreEnds e.least e.greatest ks
Leads limit (Err n) ks = (limit < greatest_shift ks) × (n ≡ min (greatest_shift ks) (2 ^ 124))
