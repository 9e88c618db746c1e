-- What holds of the elements of a list that are still ahead.
use Rattle.std.proofs.Common.{◌≡◌, ℕ, ◌+◌, ◌<◌, List, ◌∷◌, map, drop, length, get_or, sym, ap, ◌∙◌, subst}
use Rattle.std.specs.Prelude.{slice_get, Some}
use Rattle.std.specs.List.{AllByRecursion}
use Rattle.std.proofs.lemmas.Option.{slice_get_within, get_or_from_slice_get}
use Rattle.std.proofs.lemmas.List.{drop_more}

-- what is got at a place is read there
pub got_at : {X : Type 0} (xs : List X) (i : ℕ) (x : X) → slice_get xs i ≡ Some x → (i < length xs) × (x ≡ get_or xs i x)
got_at xs i x e = (slice_get_within xs i x e, sym (get_or_from_slice_get xs i x x e))

module _ {X : Type 0} (xs : List X) (i : ℕ) (x : X) (within : i < length xs) (is : x ≡ get_or xs i x) where
  pub here : drop i xs ≡ x ∷ drop (i + 1) xs
  here = drop_more xs i x within ∙ ap (λ y. y ∷ drop (i + 1) xs) (sym is)

  pub each_here : (P : X → Type 0) → AllByRecursion P (drop i xs) → P x × AllByRecursion P (drop (i + 1) xs)
  each_here P h = subst (λ l. AllByRecursion P l) here h

  pub map_here : {Y : Type 0} (f : X → Y) → map f (drop i xs) ≡ f x ∷ map f (drop (i + 1) xs)
  map_here f = ap (map f) here

  pub each_map_here : {Y : Type 0} (P : Y → Type 0) (f : X → Y) → AllByRecursion P (map f (drop i xs)) → P (f x) × AllByRecursion P (map f (drop (i + 1) xs))
  each_map_here P f h = subst (λ l. AllByRecursion P l) (map_here f) h
