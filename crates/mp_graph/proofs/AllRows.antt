-- Rows of all terms of a list.
use Rattle.std.proofs.Common.{◌≡◌, ℕ, zero, suc, ◌+◌, ◌<◌, ◌≤◌, List, [], ◌∷◌, ◌++◌, map, length, take, get_or, slice_get, Some, ap, sym, ◌∙◌, refl, subst, arith}
use Rattle.std.specs.List.{AllZip, All}
use Rattle.std.proofs.lemmas.List.{take_more, get_or-take, length-take-le}
use Rattle.std.proofs.lemmas.List.Elements.{All-head, All-tail}
use Rattle.mp_semantics.specs.Term.{Term, number, leaf}
use Rattle.mp_graph.specs.Images.{HasRows}

-- what a table has at a place is the row of the element there
zip_at : {A R : Type 0} (is_row : A → R → Type 0) (xs : List A) (rows : List R) (i : ℕ) (d : A) (r : R) → AllZip is_row xs rows → slice_get rows i ≡ Some r → is_row (get_or xs i d) r
zip_at is_row [] [] i d r h g = cc
zip_at is_row [] (y ∷ ys) i d r h g = absurd h
zip_at is_row (x ∷ xs) [] i d r h g = absurd h
zip_at is_row (x ∷ xs) (y ∷ ys) zero d r h g = let e : y ≡ r = cc in subst (is_row x) e h.0
zip_at is_row (x ∷ xs) (y ∷ ys) (suc i) d r h g = zip_at is_row xs ys i d r h.1 g

pub zip_length : {A R : Type 0} (is_row : A → R → Type 0) (xs : List A) (rows : List R) → AllZip is_row xs rows → length rows ≡ length xs
zip_length is_row [] [] h = refl
zip_length is_row [] (y ∷ ys) h = absurd h
zip_length is_row (x ∷ xs) [] h = absurd h
zip_length is_row (x ∷ xs) (y ∷ ys) h = ap suc (zip_length is_row xs ys h.1)

zip_push : {A R : Type 0} (is_row : A → R → Type 0) (xs : List A) (rows : List R) (x : A) (r : R) → AllZip is_row xs rows → is_row x r → AllZip is_row (xs ++ x ∷ []) (rows ++ r ∷ [])
zip_push is_row [] [] x r h p = (p, tt)
zip_push is_row [] (y ∷ ys) x r h p = absurd h
zip_push is_row (z ∷ xs) [] x r h p = absurd h
zip_push is_row (z ∷ xs) (y ∷ ys) x r h p = (h.0, zip_push is_row xs ys x r h.1 p)

module _ {R : Type 0} (is_row : Term → R → Type 0) (ts : List Term) (rows : List R) (n : ℕ) (zip : AllZip is_row (take n ts) rows) where
  pub zip_count : n ≤ length ts → length rows ≡ n
  zip_count within = zip_length is_row (take n ts) rows zip ∙ length-take-le n ts within

  pub zip_rows : (id : ℕ) → id ≡ n → HasRows ts rows id is_row
  zip_rows id is i r below got part =
      let d = leaf (number 0 0) in
      subst (λ (t : Term). is_row t r) (get_or-take n ts i d (omega arith)) (zip_at is_row (take n ts) rows i d r zip got)

  pub zip_more : (id : ℕ) (r : R) → id ≡ n → n < length ts → is_row (get_or ts id (leaf (number 0 0))) r → AllZip is_row (take (n + 1) ts) (rows ++ r ∷ [])
  zip_more id r is within here =
      let d = leaf (number 0 0) in
      subst (λ (xs : List Term). AllZip is_row xs (rows ++ r ∷ [])) (sym (take_more ts n d within))
      (zip_push is_row (take n ts) rows (get_or ts n d) r zip (subst (λ (i : ℕ). is_row (get_or ts i d) r) is here))

-- rows that are all told by a function
pub zip_map : {A R : Type 0} (f : A → R) (xs : List A) (rows : List R) → AllZip (λ x r. r ≡ f x) xs rows → rows ≡ map f xs
zip_map f [] [] h = refl
zip_map f [] (y ∷ ys) h = absurd h
zip_map f (x ∷ xs) [] h = absurd h
zip_map f (x ∷ xs) (y ∷ ys) h = cc (h.0, zip_map f xs ys h.1)

pub map_same : {A R : Type 0} (f g : A → R) (xs : List A) → All (λ x. f x ≡ g x) xs → map f xs ≡ map g xs
map_same f g [] h = refl
map_same f g (x ∷ xs) h = cc (All-head (λ x. f x ≡ g x) x xs h, map_same f g xs (All-tail (λ x. f x ≡ g x) x xs h))
