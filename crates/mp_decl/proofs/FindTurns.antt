-- A loop that seeks a point, turn by turn.
use Rattle.std.proofs.Common.{◌≡◌, ℕ, ◌+◌, ◌<◌, ◌≤◌, List, [], ◌∷◌, ◌++◌, length, drop, get_or, Bool, true, false, cond, ◌||◌, option_map, Option, Some, None, is_some, refl, sym, ap, ◌∙◌}
use Rattle.std.specs.Prelude.{find}
use Rattle.std.specs.List.{list_any}
use Rattle.std.specs.Option.{option_or}
use Rattle.std.proofs.Math.ListN.{drop_of_length-le}
use Rattle.std.proofs.lemmas.List.{drop_more}
use Rattle.std.proofs.lemmas.List.Folds.{find-append}

-- among two lists, the first has none
pub find-after : {X : Type 0} (test : X → Bool) (xs ys : List X) → find test xs ≡ None → find test (xs ++ ys) ≡ find test ys
find-after test xs ys none = find-append test xs ys ∙ ap (λ r. option_or r (find test ys)) none

-- or it has one
pub find-before : {X : Type 0} (test : X → Bool) (xs ys : List X) (p : X) → Some p ≡ find test xs → Some p ≡ find test (xs ++ ys)
find-before test xs ys p some = ap (λ r. option_or r (find test ys)) some ∙ sym (find-append test xs ys)

module _ {X S : Type 0} (points : S → List X) (all : List S → List X) (more : (x : S) (xs : List S) → all (x ∷ xs) ≡ points x ++ all xs)
    (test : X → Bool) (xs : List S) (i : ℕ) (x d : S) (whole : Option X) (within : i < length xs) (is : x ≡ get_or xs i d) (so_far : find test (all (drop i xs)) ≡ whole) where
  here : all (drop i xs) ≡ points x ++ all (drop (i + 1) xs)
  here = ap all (drop_more xs i d within ∙ ap (λ y. y ∷ drop (i + 1) xs) (sym is)) ∙ more x (drop (i + 1) xs)

  pub turn_none : None ≡ find test (points x) → find test (all (drop (i + 1) xs)) ≡ whole
  turn_none none = sym (find-after test (points x) (all (drop (i + 1) xs)) (sym none)) ∙ ap (find test) (sym here) ∙ so_far

  pub turn_some : (p : X) → Some p ≡ find test (points x) → Some p ≡ whole
  turn_some p some = find-before test (points x) (all (drop (i + 1) xs)) p some ∙ ap (find test) (sym here) ∙ so_far

pub turns_end : {X S : Type 0} (all : List S → List X) (test : X → Bool) (xs : List S) (i : ℕ) (whole : Option X) → all [] ≡ [] → length xs ≤ i → find test (all (drop i xs)) ≡ whole → None ≡ whole
turns_end all test xs i whole none past so_far = sym (ap (λ l. find test (all l)) (drop_of_length-le xs past) ∙ ap (find test) none) ∙ so_far

-- what is found among two lists
pub pair_found : {X : Type 0} (test : X → Bool) (all xs ys : List X) (r p q : Option X) → all ≡ xs ++ ys → p ≡ find test xs → q ≡ find test ys → r ≡ option_or p q → r ≡ find test all
pair_found test all xs ys r p q two first second is =
    is ∙ ap (λ u. option_or u q) first ∙ ap (option_or (find test xs)) second ∙ sym (find-append test xs ys) ∙ ap (find test) (sym two)

-- there is one exactly where one is found
pub is_some-find : {X : Type 0} (test : X → Bool) (xs : List X) → is_some (find test xs) ≡ list_any test xs
is_some-find test [] = refl
is_some-find test (x ∷ xs) = by (test x) (is_some-find test xs)
  where
    by : (b : Bool) → is_some (find test xs) ≡ list_any test xs → is_some (cond b (Some x) (find test xs)) ≡ (b || list_any test xs)
    by true further = refl
    by false further = further

pub is_some-map : {X Y : Type 0} (view : X → Y) (r : Option X) → is_some r ≡ is_some (option_map view r)
is_some-map view None = refl
is_some-map view (Some x) = refl
