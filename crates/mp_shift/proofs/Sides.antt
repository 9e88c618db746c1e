-- Equations of a graph that grows, and those of auxiliaries by their places.
use Rattle.std.proofs.Common.{◌≡◌, ℕ, zero, suc, pos, negsuc, ◌+◌, ◌-◌, ◌<◌, List, [], ◌∷◌, ◌++◌, map, drop, Some, cond, append_assoc, refl, ap, sym, ◌∙◌, subst, arith}
use Rattle.std.specs.Prelude.{slice_get}
use borrow.Author.Tests.{ne_eqb}
use Rattle.std.specs.List.{AllByRecursion}
use Rattle.std.proofs.lemmas.List.{map-append}
use Rattle.mp_semantics.specs.Model as m
use Rattle.mp_semantics.specs.Term.{variable, endogenous, exogenous, number, parameter, steady_state, leaf, Leaf, Term}
use Rattle.mp_values.specs.ModelOf.{equation}
use Rattle.mp_graph.specs.Shared.{Shared, Keeps}
use Rattle.mp_model_data.specs.Shown.{Sides, IsWithin, equation_in}
use Rattle.mp_solutions.specs.Auxiliaries.{Direction, lead, lag, shift_by, width, lengths, Auxiliary, Lengths, auxiliaries_of, stand_in, stand_in_of, own_place}
use Rattle.mp_solutions.specs.Leaves.{AllLeaves, AllEquationLeaves}
use Rattle.mp_solutions.specs.Transformed.{short, short_leaf, short_equation, auxiliary_equation}
use Rattle.mp_solutions.specs.Laws.{IsDeclaredLeaf}
use Rattle.mp_solutions.proofs.Leaves.{all_leaves, with_equal_leaves}
use Rattle.mp_solutions.proofs.Values.{declared_below}
use Rattle.mp_solutions.proofs.Which.{has_places}
use Rattle.mp_shift.specs.declared.first.First.{First}
use Rattle.mp_shift.specs.Stand.{stand_by, AreFirst}
use Rattle.mp_shift.specs.Called.{Called}
use Rattle.mp_shift.specs.Equations.{place_before, own_equation, own_equations}
use Rattle.std.proofs.lemmas.List.{drop_more}
use Rattle.std.proofs.lemmas.Option.{slice_get_within, get_or_from_slice_get}

-- ---- a graph that grew

pub one_kept : (old new : Shared) (x : Sides) → Keeps old new → IsWithin old x → equation_in new.terms x ≡ equation_in old.terms x
one_kept old new x k h =
    let p = k.each x.left h.left in
    let q = k.each x.right h.right in cc (p, q)

pub one_within : (old new : Shared) (x : Sides) → Keeps old new → IsWithin old x → IsWithin new x
one_within old new x k h = record { left = omega (arith, h.left, k.longer); right = omega (arith, h.right, k.longer) }

pub all_kept : (old new : Shared) (xs : List Sides) → Keeps old new → AllByRecursion (IsWithin old) xs → map (equation_in new.terms) xs ≡ map (equation_in old.terms) xs
all_kept old new [] k h = refl
all_kept old new (x ∷ xs) k h =
    ap (λ e. e ∷ map (equation_in new.terms) xs) (one_kept old new x k h.0) ∙ ap (λ l. equation_in old.terms x ∷ l) (all_kept old new xs k h.1)

pub all_within : (old new : Shared) (xs : List Sides) → Keeps old new → AllByRecursion (IsWithin old) xs → AllByRecursion (IsWithin new) xs
all_within old new [] k h = tt
all_within old new (x ∷ xs) k h = (one_within old new x k h.0, all_within old new xs k h.1)

within_push : (g : Shared) (xs : List Sides) (x : Sides) → AllByRecursion (IsWithin g) xs → IsWithin g x → AllByRecursion (IsWithin g) (xs ++ x ∷ [])
within_push g [] x h w = (w, tt)
within_push g (y ∷ xs) x h w = (h.0, within_push g xs x h.1 w)

module _ (old new : Shared) (k : Keeps old new) (xs more : List Sides) (x : Sides) (h : AllByRecursion (IsWithin old) xs) (is : more ≡ xs ++ x ∷ []) where
  pub within_more : IsWithin new x → AllByRecursion (IsWithin new) more
  within_more w = subst (λ l. AllByRecursion (IsWithin new) l) (sym is) (within_push new xs x (all_within old new xs k h) w)

  pub equations_more : map (equation_in new.terms) more ≡ map (equation_in old.terms) xs ++ equation_in new.terms x ∷ []
  equations_more =
      ap (map (equation_in new.terms)) is
      ∙ map-append (equation_in new.terms) xs (x ∷ [])
      ∙ ap (λ l. l ++ equation_in new.terms x ∷ []) (all_kept old new xs k h)

  -- one more equation, which stood first among those to come
  pub equations_turn : (e : m.Equation) (next rest whole : List m.Equation) → equation_in new.terms x ≡ e → next ≡ e ∷ rest
      → map (equation_in old.terms) xs ++ next ≡ whole → map (equation_in new.terms) more ++ rest ≡ whole
  equations_turn e next rest whole p q so_far =
      ap (λ l. l ++ rest) (equations_more ∙ ap (λ y. map (equation_in old.terms) xs ++ y ∷ []) p)
      ∙ append_assoc (map (equation_in old.terms) xs) (e ∷ []) rest
      ∙ ap (λ l. map (equation_in old.terms) xs ++ l) (sym q)
      ∙ so_far

-- ---- the equations of auxiliaries

next_in_chain : (len : Lengths) (n v : ℕ) (d : Direction) (k : ℕ) → stand_in len n v d (suc k) ≡ stand_in len n v d (suc (suc k)) - 1
next_in_chain len n v lead k = omega arith
next_in_chain len n v lag k = omega arith

equation_by : (p q : ℕ) (d : Direction) (r s : ℕ) → p ≡ r → q ≡ s
    → equation (leaf (variable (endogenous p) (pos 0))) (leaf (variable (endogenous q) (shift_by d 1))) ≡ equation (leaf (variable (endogenous r) (pos 0))) (leaf (variable (endogenous s) (shift_by d 1)))
equation_by p q d r s e f =
    ap (λ (x : ℕ). equation (leaf (variable (endogenous x) (pos 0))) (leaf (variable (endogenous q) (shift_by d 1)))) e
    ∙ ap (λ (x : ℕ). equation (leaf (variable (endogenous r) (pos 0))) (leaf (variable (endogenous x) (shift_by d 1)))) f

-- the one that comes next
ahead : (xs : List Called) (i : ℕ) (x : Called) → slice_get xs i ≡ Some x → drop i xs ≡ x ∷ drop (i + 1) xs
ahead xs i x is = drop_more xs i x (slice_get_within xs i x is) ∙ ap (λ (y : Called). y ∷ drop (i + 1) xs) (get_or_from_slice_get xs i x x is)

pub own_turn : (n i : ℕ) (xs : List Called) (x : Called) → slice_get xs i ≡ Some x
    → own_equations (n + i) (map (λ (y : Called). y.auxiliary) (drop i xs)) ≡ own_equation (n + i) x.auxiliary ∷ own_equations (n + (i + 1)) (map (λ (y : Called). y.auxiliary) (drop (i + 1) xs))
own_turn n i xs x is =
    let e : suc (n + i) ≡ n + (i + 1) = omega arith in
    ap (λ l. own_equations (n + i) (map (λ (y : Called). y.auxiliary) l)) (ahead xs i x is)
    ∙ ap (λ (k : ℕ). own_equation (n + i) x.auxiliary ∷ own_equations k (map (λ (y : Called). y.auxiliary) (drop (i + 1) xs))) e

pub places_turn : (n i : ℕ) (xs : List Called) (x : Called) → slice_get xs i ≡ Some x → AllByRecursion (λ (y : Called). y.auxiliary.place < n) (drop i xs) → (x.auxiliary.place < n) × AllByRecursion (λ (y : Called). y.auxiliary.place < n) (drop (i + 1) xs)
places_turn n i xs x is h = subst (λ l. AllByRecursion (λ (y : Called). y.auxiliary.place < n) l) (ahead xs i x is) h

module _ (M : m.Model) where
  before_is : (own v : ℕ) (d : Direction) (k : ℕ) → stand_in_of M v d (suc k) ≡ own → place_before own (record { place = v; direction = d; index = k }) ≡ stand_in_of M v d k
  before_is own v d zero e = refl
  before_is own v d (suc k) e =
      ap (λ t. cond t v (own - 1)) (ne_eqb (suc k) 0 (λ z. omega (arith, z))) ∙ ap (λ (n : ℕ). n - 1) (sym e) ∙ sym (next_in_chain (lengths M) (width M) v d k)

  one_is : (own : ℕ) (a : Auxiliary) → own_place M a ≡ own → own_equation own a ≡ auxiliary_equation (stand_in_of M) a
  one_is own a e = equation_by own (place_before own a) a.direction (own_place M a) (stand_in_of M a.place a.direction a.index) (sym e) (before_is own a.place a.direction a.index e)

  from : (xs : List Auxiliary) (i : ℕ) → ((j : ℕ) (a : Auxiliary) → slice_get xs j ≡ Some a → own_place M a ≡ i + j) → own_equations i xs ≡ map (auxiliary_equation (stand_in_of M)) xs
  from [] i h = refl
  from (a ∷ xs) i h =
      ap (λ e. e ∷ own_equations (suc i) xs) (one_is i a (h 0 a refl ∙ omega arith))
      ∙ ap (λ l. auxiliary_equation (stand_in_of M) a ∷ l) (from xs (suc i) (λ j b e. h (suc j) b e ∙ omega arith))

  pub own_equations_are : own_equations (width M) (auxiliaries_of M) ≡ map (auxiliary_equation (stand_in_of M)) (auxiliaries_of M)
  own_equations_are = from (auxiliaries_of M) (width M) (has_places M)

  -- ---- the short forms of equations

  module _ (fs : List First) (f : AreFirst M fs) where
    same_leaf : (l : Leaf) → IsDeclaredLeaf M l → short_leaf (stand_by fs) l ≡ short_leaf (stand_in_of M) l
    same_leaf (number n s) h = refl
    same_leaf (parameter p) h = refl
    same_leaf (variable (endogenous v) (pos zero)) h = refl
    same_leaf (variable (endogenous v) (pos (suc k))) h = ap (λ (u : ℕ). variable (endogenous u) (pos 1)) (f.each v lead k (declared_below M v h))
    same_leaf (variable (endogenous v) (negsuc k)) h = ap (λ (u : ℕ). variable (endogenous u) (negsuc 0)) (f.each v lag k (declared_below M v h))
    same_leaf (variable (exogenous v) k) h = refl
    same_leaf (steady_state v) h = refl

    pub same_side : (e : Term) → AllLeaves (IsDeclaredLeaf M) e → short (stand_by fs) e ≡ short (stand_in_of M) e
    same_side e h = with_equal_leaves (short_leaf (stand_by fs)) (short_leaf (stand_in_of M)) e (all_leaves (IsDeclaredLeaf M) (λ l. short_leaf (stand_by fs) l ≡ short_leaf (stand_in_of M) l) same_leaf e h)

    same_one : (e : m.Equation) → AllEquationLeaves (IsDeclaredLeaf M) e → short_equation (stand_by fs) e ≡ short_equation (stand_in_of M) e
    same_one e h =
        let p = same_side e.left h.0 in
        let q = same_side e.right h.1 in cc (p, q)

    pub same_short : (es : List m.Equation) → AllByRecursion (AllEquationLeaves (IsDeclaredLeaf M)) es → map (short_equation (stand_by fs)) es ≡ map (short_equation (stand_in_of M)) es
    same_short [] h = refl
    same_short (e ∷ es) h = ap (λ x. x ∷ map (short_equation (stand_by fs)) es) (same_one e h.0) ∙ ap (λ l. short_equation (stand_in_of M) e ∷ l) (same_short es h.1)
