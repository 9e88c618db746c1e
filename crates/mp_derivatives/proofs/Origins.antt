-- From which equations and places the derivatives of a model come.
use Rattle.std.proofs.Common.{◌≡◌, inl, inr, ℕ, zero, suc, ◌+◌, List, [], ◌∷◌, ◌++◌, map, Some, refl, sym, subst, arith}
use Rattle.std.specs.List.{AllByRecursion, Contains}
use Rattle.std.specs.Prelude.{slice_get}
use Rattle.std.proofs.lemmas.List.Elements.{recursion_from_All, All-from_recursion, All-contains, All-contains_itself, Contains-append_left, Contains-append_right}
use Rattle.mp_semantics.specs.Model.{Equation}
use Rattle.mp_slopes.specs.Derivative.{derivative_of}
use Rattle.mp_slopes.specs.Places.{Place, places}
use Rattle.mp_slopes.proofs.Sorted.{first_in, later_in, in_cases}
use Rattle.mp_derivatives.specs.Derivatives.{residual, Derivative, derivatives_from}
use Rattle.mp_derivatives.specs.Listed.{HasDerivativeAt}
use Rattle.mp_derivatives.proofs.Order.{derivative_at}

all-append : {X : Type 0} (P : X → Type 0) (xs ys : List X) → AllByRecursion P xs → AllByRecursion P ys → AllByRecursion P (xs ++ ys)
all-append P [] ys h g = g
all-append P (x ∷ xs) ys h g = (h.0, all-append P xs ys h.1 g)

all-map : {X Y : Type 0} (P : X → Type 0) (Q : Y → Type 0) (f : X → Y) → ((x : X) → P x → Q (f x)) → (xs : List X) → AllByRecursion P xs → AllByRecursion Q (map f xs)
all-map P Q f one [] h = tt
all-map P Q f one (x ∷ xs) h = (one x h.0, all-map P Q f one xs h.1)

pub all-weaker : {X : Type 0} (P Q : X → Type 0) → ((x : X) → P x → Q x) → (xs : List X) → AllByRecursion P xs → AllByRecursion Q xs
all-weaker P Q one [] h = tt
all-weaker P Q one (x ∷ xs) h = (one x h.0, all-weaker P Q one xs h.1)

-- what holds of all holds of the one that stands there
pub all-got : {X : Type 0} (P : X → Type 0) (xs : List X) (n : ℕ) (x : X) → AllByRecursion P xs → slice_get xs n ≡ Some x → P x
all-got P [] n x h e = absurd cc
all-got P (y ∷ xs) zero x h e = let same : y ≡ x = cc in subst P same h.0
all-got P (y ∷ xs) (suc n) x h e = all-got P xs n x h.1 e

contains-map : {X Y : Type 0} (f : X → Y) (xs : List X) (x : X) → Contains xs x → Contains (map f xs) (f x)
contains-map f [] x h = absurd (omega (arith, h.1))
contains-map f (y ∷ xs) x h = elim (in_cases y xs x h) [
  | inl same ↦ subst (λ z. Contains (f y ∷ map f xs) (f z)) same (first_in (f y) (map f xs))
  | inr more ↦ later_in (f y) (map f xs) (f x) (contains-map f xs x more)
]

-- it is of one of these equations, which stand after so many others, by a place that its residual has
pub record ComesFrom (before : ℕ) (es : List Equation) (d : Derivative) : Type 0 where
  pub e : Equation
  pub n : ℕ
  pub number : d.equation ≡ before + n + 1
  pub got : slice_get es n ≡ Some e
  pub place : Contains (places (residual e)) d.place
  pub term : d.term ≡ derivative_of (residual e) d.place.x d.place.shift

pub all-come : (before : ℕ) (es : List Equation) → AllByRecursion (ComesFrom before es) (derivatives_from (suc before) es)
all-come before [] = tt
all-come before (e ∷ es) =
    let F = residual e in
    all-append (ComesFrom before (e ∷ es)) (map (derivative_at (suc before) F) (places F)) (derivatives_from (suc (suc before)) es) (all-map (Contains (places F)) (ComesFrom before (e ∷ es)) (derivative_at (suc before) F) here (places F) (recursion_from_All (Contains (places F)) (places F) (All-contains_itself (places F)))) (all-weaker (ComesFrom (suc before) es) (ComesFrom before (e ∷ es)) later (derivatives_from (suc (suc before)) es) (all-come (suc before) es))
  where
    here : (p : Place) → Contains (places (residual e)) p → ComesFrom before (e ∷ es) (derivative_at (suc before) (residual e) p)
    here p h = record { e = e; n = 0; number = omega arith; got = refl; place = h; term = refl }

    later : (d : Derivative) → ComesFrom (suc before) es d → ComesFrom before (e ∷ es) d
    later d h = record { e = h.e; n = suc h.n; number = omega (arith, h.number); got = h.got; place = h.place; term = h.term }

pub come-contained : (before : ℕ) (es : List Equation) (d : Derivative) → Contains (derivatives_from (suc before) es) d → ComesFrom before es d
come-contained before es d h =
    let ds = derivatives_from (suc before) es in
    All-contains (ComesFrom before es) ds d (All-from_recursion (ComesFrom before es) ds (all-come before es)) h

-- each place of each residual has a derivative
pub all-have : (before n : ℕ) (es : List Equation) (e : Equation) (p : Place) → slice_get es n ≡ Some e → Contains (places (residual e)) p → HasDerivativeAt (derivatives_from (suc before) es) (before + n + 1) p
all-have before n [] e p got h = absurd cc
all-have before zero (x ∷ es) e p got h =
    let same : x ≡ e = cc in
    let F = residual x in
    let at = derivative_at (suc before) F in
    let here : Contains (places F) p = subst (λ (y : Equation). Contains (places (residual y)) p) (sym same) h in
    (at p, Contains-append_left (map at (places F)) (derivatives_from (suc (suc before)) es) (at p) (contains-map at (places F) p here), omega arith, refl)
all-have before (suc n) (x ∷ es) e p got h =
    let F = residual x in
    let q = all-have (suc before) n es e p got h in
    (q.0, Contains-append_right (map (derivative_at (suc before) F) (places F)) (derivatives_from (suc (suc before)) es) q.0 q.1, omega (arith, q.2), q.3)
