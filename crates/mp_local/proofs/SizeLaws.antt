-- Rows of the sides of equations, and how high and how large a model is.
use Rattle.std.proofs.Common.{◌≡◌, ℕ, zero, suc, ◌+◌, ◌<◌, ◌≤◌, min, max, length, take, get_or, slice_get, List, [], ◌∷◌, ◌++◌, map, Some, refl, sym, ap, subst, ◌∙◌, arith}
use Rattle.std.specs.Prelude.{sum, slice_index}
use Rattle.std.specs.List.{All, AllByRecursion}
use Rattle.std.proofs.lemmas.List.{get_or-map}
use Rattle.std.proofs.lemmas.List.Sums.{sum_by-cons, sum_by-append}
use Rattle.std.proofs.lemmas.List.Elements.{All-map, All-from_get_or}
use Rattle.mp_semantics.specs.Term.{Term, number, leaf}
use Rattle.mp_graph.specs.Shared.{Shared, term_at}
use Rattle.mp_model_data.specs.declared.parts.Equation.{Equation}
use Rattle.mp_model_data.specs.Shown as shown
use Rattle.mp_model_data.specs.Shown.{Sides, IsWithin, equation_in}
use Rattle.mp_local.specs.Sizes.{sides_of, greatest, side_rows}
use Rattle.mp_local.proofs.Views.{parts_more}

-- what all of a list have, one has
pub one_has : {X Y : Type 0} (P : Y → Type 0) (view : X → Y) (xs : List X) (i : ℕ) (x d : X) → AllByRecursion P (map view xs) → i < length xs → x ≡ get_or xs i d → P (view x)
one_has P view [] i x d all within is = absurd (omega arith)
one_has P view (y ∷ xs) zero x d all within is = subst (λ z. P (view z)) (sym is) all.0
one_has P view (y ∷ xs) (suc i) x d all within is = one_has P view xs i x d all.1 (omega arith) is

-- a row that was read stands at its place
pub row_is : (rows : List ℕ) (i r : ℕ) → slice_get rows i ≡ Some r → slice_index rows i ≡ r
row_is [] i r got = absurd cc
row_is (x ∷ rows) zero r got = let e : x ≡ r = cc in e
row_is (x ∷ rows) (suc i) r got = row_is rows i r got

pub row_below : (rows : List ℕ) (i r most : ℕ) → All (λ n. n ≤ most) rows → i < length rows → slice_get rows i ≡ Some r → r ≤ most
row_below rows i r most all within got = subst (λ (n : ℕ). n ≤ most) (row_is rows i r got) (all i 0 within)

greatest-append : (ns ms : List ℕ) → greatest (ns ++ ms) ≡ max (greatest ns) (greatest ms)
greatest-append [] ms = omega arith
greatest-append (n ∷ ns) ms = omega (arith, greatest-append ns ms)

sum-cons : (n : ℕ) (ns : List ℕ) → sum (n ∷ ns) ≡ n + sum ns
sum-cons n ns = sum_by-cons (λ m. m) n ns

sum-append : (ns ms : List ℕ) → sum (ns ++ ms) ≡ sum ns + sum ms
sum-append ns ms = sum_by-append (λ m. m) ns ms

sum-two : (a b : ℕ) → sum (a ∷ b ∷ []) ≡ a + b
sum-two a b = omega (arith, sum-cons a (b ∷ []), sum-cons b [])

-- the rows of one equation more
module _ (rows : List ℕ) (xs : List Equation) (i : ℕ) (x : Equation) (within : i < length xs) (is : x ≡ get_or xs i x) (a b : ℕ) (left : slice_get rows x.left ≡ Some a) (right : slice_get rows x.right ≡ Some b) where
  more : side_rows rows (map shown.sides_of (take (i + 1) xs)) ≡ side_rows rows (map shown.sides_of (take i xs)) ++ (a ∷ b ∷ [])
  more =
      parts_more (λ y. slice_index rows y.left ∷ slice_index rows y.right ∷ []) shown.sides_of xs i x x within is
      ∙ ap (λ (n : ℕ). side_rows rows (map shown.sides_of (take i xs)) ++ (n ∷ slice_index rows x.right ∷ [])) (row_is rows x.left a left)
      ∙ ap (λ (n : ℕ). side_rows rows (map shown.sides_of (take i xs)) ++ (a ∷ n ∷ [])) (row_is rows x.right b right)

  pub greatest_turn : (most next : ℕ) → most ≡ greatest (side_rows rows (map shown.sides_of (take i xs))) → next ≡ max (max a b) most → next ≡ greatest (side_rows rows (map shown.sides_of (take (i + 1) xs)))
  greatest_turn most next so_far now =
      omega (arith, so_far, now, ap greatest more, greatest-append (side_rows rows (map shown.sides_of (take i xs))) (a ∷ b ∷ []))

  pub sum_turn : (limit total next : ℕ) → total ≡ min (sum (side_rows rows (map shown.sides_of (take i xs)))) limit → next ≡ min (total + (a + b)) limit → next ≡ min (sum (side_rows rows (map shown.sides_of (take (i + 1) xs)))) limit
  sum_turn limit total next so_far now =
      omega (arith, so_far, now, ap sum more, sum-append (side_rows rows (map shown.sides_of (take i xs))) (a ∷ b ∷ []), sum-two a b)

-- ---- rows that are told by a function of terms

pub rows_told : (f : Term → ℕ) (g : Shared) (rows : List ℕ) (xs : List Sides) → rows ≡ map f g.terms → AllByRecursion (IsWithin g) xs → side_rows rows xs ≡ map f (sides_of (map (equation_in g.terms) xs))
rows_told f g rows [] is within = refl
rows_told f g rows (x ∷ xs) is within =
    let d = leaf (number 0 0) in
    let left : slice_index rows x.left ≡ f (term_at g.terms x.left) = ap (λ (l : List ℕ). slice_index l x.left) is ∙ get_or-map f g.terms x.left d 0 within.0.left in
    let right : slice_index rows x.right ≡ f (term_at g.terms x.right) = ap (λ (l : List ℕ). slice_index l x.right) is ∙ get_or-map f g.terms x.right d 0 within.0.right in
    cc (left, right, rows_told f g rows xs is within.1)

pub stopped_rows : (f : Term → ℕ) (limit : ℕ) (ts : List Term) (rows : List ℕ) → rows ≡ map (λ t. min (f t) limit) ts → All (λ n. n ≤ limit) rows
stopped_rows f limit ts rows is =
    subst (All (λ n. n ≤ limit)) (sym is) (All-map (λ n. n ≤ limit) (λ t. min (f t) limit) ts (All-from_get_or (λ t. min (f t) limit ≤ limit) ts (leaf (number 0 0)) (λ i within. omega arith)))

-- a sum that stops is told by counts that stop
pub stopped_sum : (f : Term → ℕ) (limit : ℕ) (ts : List Term) → min (sum (map (λ t. min (f t) limit) ts)) limit ≡ min (sum (map f ts)) limit
stopped_sum f limit [] = refl
stopped_sum f limit (t ∷ ts) =
    omega (arith, stopped_sum f limit ts, sum-cons (min (f t) limit) (map (λ u. min (f u) limit) ts), sum-cons (f t) (map f ts))
