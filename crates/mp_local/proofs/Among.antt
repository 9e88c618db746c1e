-- What is among several shifts.
use Rattle.std.proofs.Common.{◌≡◌, ◌⊎◌, inl, inr, ℤ, List, [], ◌∷◌, ◌++◌, map, ap}
use Rattle.mp_local.specs.Ends.{IsAmong}

pub among_left : (k : ℤ) (ks js : List ℤ) → IsAmong k ks → IsAmong k (ks ++ js)
among_left k [] js h = absurd h
among_left k (x ∷ ks) js (inl e) = inl e
among_left k (x ∷ ks) js (inr h) = inr (among_left k ks js h)

pub among_right : (k : ℤ) (ks js : List ℤ) → IsAmong k js → IsAmong k (ks ++ js)
among_right k [] js h = h
among_right k (x ∷ ks) js h = inr (among_right k ks js h)

pub among_cases : (k : ℤ) (ks js : List ℤ) → IsAmong k (ks ++ js) → IsAmong k ks ⊎ IsAmong k js
among_cases k [] js h = inr h
among_cases k (x ∷ ks) js (inl e) = inl (inl e)
among_cases k (x ∷ ks) js (inr h) = elim (among_cases k ks js h) [
  | inl g ↦ inl (inr g)
  | inr g ↦ inr g
]

pub among_map : (f : ℤ → ℤ) (k : ℤ) (ks : List ℤ) → IsAmong k ks → IsAmong (f k) (map f ks)
among_map f k [] h = absurd h
among_map f k (x ∷ ks) (inl e) = inl (ap f e)
among_map f k (x ∷ ks) (inr h) = inr (among_map f k ks h)

pub among_mapped : (f : ℤ → ℤ) (k : ℤ) (ks : List ℤ) → IsAmong k (map f ks) → (j : ℤ) × IsAmong j ks × (k ≡ f j)
among_mapped f k [] h = absurd h
among_mapped f k (x ∷ ks) (inl e) = let refl_x : IsAmong x (x ∷ ks) = inl (λ i. x) in (x, refl_x, e)
among_mapped f k (x ∷ ks) (inr h) = let further = among_mapped f k ks h in (further.0, inr further.1, further.2)
