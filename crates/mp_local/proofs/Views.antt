-- The parts of a list, by a loop over the list.
use Rattle.std.proofs.Common.{◌≡◌, ℕ, ◌+◌, ◌<◌, length, take, drop, get_or, List, [], ◌∷◌, ◌++◌, map, sym, ap, ◌∙◌, append-nil}
use Rattle.std.specs.List.{flat_map}
use Rattle.std.proofs.lemmas.List.{take_more, map-append, take-append-drop}
use Rattle.std.proofs.lemmas.Grind.{flat_map-append}

-- the views of the first elements, and of one more
pub views_more : {X Y : Type 0} (view : X → Y) (xs : List X) (i : ℕ) (x d : X) → i < length xs → x ≡ get_or xs i d → map view (take (i + 1) xs) ≡ map view (take i xs) ++ view x ∷ []
views_more view xs i x d within is =
    ap (map view) (take_more xs i d within ∙ ap (λ y. take i xs ++ y ∷ []) (sym is)) ∙ map-append view (take i xs) (x ∷ [])

-- the views of the first elements, and of all others
pub views_rest : {X Y : Type 0} (view : X → Y) (xs : List X) (i : ℕ) → map view xs ≡ map view (take i xs) ++ map view (drop i xs)
views_rest view xs i = ap (map view) (sym (take-append-drop i xs)) ∙ map-append view (take i xs) (drop i xs)

-- what is in the first elements, and in one more
pub parts_more : {X Y Z : Type 0} (parts : Y → List Z) (view : X → Y) (xs : List X) (i : ℕ) (x d : X) → i < length xs → x ≡ get_or xs i d → flat_map parts (map view (take (i + 1) xs)) ≡ flat_map parts (map view (take i xs)) ++ parts (view x)
parts_more parts view xs i x d within is =
    ap (flat_map parts) (views_more view xs i x d within is)
    ∙ flat_map-append parts (map view (take i xs)) (view x ∷ [])
    ∙ ap (λ l. flat_map parts (map view (take i xs)) ++ l) (append-nil (parts (view x)))

-- what is in the first elements, and in all others
pub parts_rest : {X Y Z : Type 0} (parts : Y → List Z) (view : X → Y) (xs : List X) (i : ℕ) → flat_map parts (map view xs) ≡ flat_map parts (map view (take i xs)) ++ flat_map parts (map view (drop i xs))
parts_rest parts view xs i = ap (flat_map parts) (views_rest view xs i) ∙ flat_map-append parts (map view (take i xs)) (map view (drop i xs))
