-- Keys that are distinct as their bytes are.
use Rattle.std.proofs.Common.{◌≡◌, List, [], ◌∷◌, map, Bool, false}
use Rattle.std.specs.List.{IsDistinct, AllByRecursion}

module _ {K Y : Type 0} (f : K → Y) (e : Y → Y → Bool) where
  apart_map : (x : K) (ks : List K) → AllByRecursion (λ k. e (f x) (f k) ≡ false) ks → AllByRecursion (λ y. e (f x) y ≡ false) (map f ks)
  apart_map x [] h = tt
  apart_map x (k ∷ ks) h = (h.0, apart_map x ks h.1)

  pub distinct_map : (ks : List K) → IsDistinct (λ j k. e (f j) (f k)) ks → IsDistinct e (map f ks)
  unfolding IsDistinct
  distinct_map [] h = tt
  distinct_map (k ∷ ks) h = (apart_map k ks h.0, distinct_map ks h.1)
