-- Which auxiliaries there are, in which order, where they are read, and what they have at their rims.
use Rattle.std.proofs.Common.{◌≡◌, ℕ, suc, zero, pos, negsuc, ◌-◌, ◌<◌, ◌≤◌, ◌↔◌, Some, List, ◌++◌, map, option_map, slice_get, Contains, refl, ap, sym, ◌∙◌, subst, arith, inl, inr}
use Rattle.std.specs.List.{AllByRecursion as Each}
use Rattle.std.proofs.lemmas.Bool.{ltb-false}
use Rattle.std.proofs.lemmas.Option.{none-some, same_Some, slice_get_within, slice_get-map, slice_get-get_or, get_or_from_slice_get}
use Rattle.mp_semantics.specs.Term.{Leaf, number, parameter, variable, steady_state, endogenous, exogenous}
use Rattle.mp_semantics.specs.Model.{Model}
use Rattle.mp_semantics.specs.Solves.{Boundary}
use Rattle.mp_solutions.specs.Leaves.{AllModelLeaves}
use Rattle.mp_solutions.specs.Auxiliaries.{Direction, lead, lag, shift_by, width, Auxiliary, Lengths, lengths, chain, auxiliaries, auxiliaries_of, stand_in_of, auxiliary_name, IsNeeded}
use Rattle.mp_solutions.specs.Transformed.{short_leaf, transformed}
use Rattle.mp_solutions.specs.Extension.{rim, extended_boundary, HasRim, HasRims}
use Rattle.mp_solutions.specs.Laws.{IsClosed, IsReadOwnWay, IsBefore, IsInOrder, HasPlaces, HasName}
use Rattle.mp_solutions.proofs.Lists.{each_get, get_split, get_right}
use Rattle.mp_solutions.proofs.Numbering.{auxiliary, block, chain_at, stand_in_get, stand_in_above, stand_in_at, each_auxiliary}
use Rattle.mp_solutions.proofs.Periods.{same_period}
use Rattle.mp_solutions.proofs.Values.{own, declared_below, IsFit, each_fits}
use Rattle.mp_solutions.proofs.Shape.{transformed_leaves}

-- ---- which there are

-- the variable is declared, and its chain is long enough
abbrev pub IsWithinChains : Model → Auxiliary → Type 0
IsWithinChains M a = (a.place < width M) × (a.index < lengths M a.direction a.place)

pub each_within : (M : Model) → Each (IsWithinChains M) (auxiliaries_of M)
each_within M = each_auxiliary (IsWithinChains M) (lengths M) (width M) (λ v d k below near. (below, near))

needed_if_there : (M : Model) (a : Auxiliary) → Contains (auxiliaries_of M) a → IsNeeded M a
needed_if_there M a c =
    let e = slice_get-get_or (auxiliaries_of M) c.0 a c.1 ∙ ap Some c.2 in
    let w = each_get (IsWithinChains M) (auxiliaries_of M) c.0 a (each_within M) e in
    let near = w.1 in
    (w.0, omega arith)

there_if_needed : (M : Model) (a : Auxiliary) → IsNeeded M a → Contains (auxiliaries_of M) a
there_if_needed M a n =
    let m = n.1 in
    let e = stand_in_get (lengths M) (width M) a.place a.direction a.index n.0 (omega arith) in
    let i = stand_in_of M a.place a.direction (suc a.index) - width M in
    (i, slice_get_within (auxiliaries_of M) i a e, get_or_from_slice_get (auxiliaries_of M) i a a e)

pub needed : (M : Model) (a : Auxiliary) → Contains (auxiliaries_of M) a ↔ IsNeeded M a
needed M a = (needed_if_there M a, there_if_needed M a)

-- ---- their order

in_order-append : (xs ys : List Auxiliary) → IsInOrder xs → IsInOrder ys
    → ((i j : ℕ) (a b : Auxiliary) → slice_get xs i ≡ Some a → slice_get ys j ≡ Some b → IsBefore a b) → IsInOrder (xs ++ ys)
in_order-append xs ys h k c i j a b l e f = elim (get_split xs ys i a e) [
  | inl p ↦ elim (get_split xs ys j b f) [
    | inl r ↦ h i j a b l p r
    | inr r ↦ c i r.0 a b p r.2
  ]
  | inr p ↦ elim (get_split xs ys j b f) [
    | inl r ↦ let w = slice_get_within xs j b r in let x = p.1 in absurd (omega arith)
    | inr r ↦ k p.0 r.0 a b (let x = p.1 in let y = r.1 in omega arith) p.2 r.2
  ]
]

-- two auxiliaries that are these
both_are : (a b x y : Auxiliary) → a ≡ x → b ≡ y → IsBefore x y → IsBefore a b
both_are a b x y e f h = subst (λ z. IsBefore z b) (sym e) (subst (λ z. IsBefore x z) (sym f) h)

chain_in_order : (v : ℕ) (d : Direction) (n : ℕ) → IsInOrder (chain v d n)
chain_in_order v d n i j a b l e f = both_are a b (auxiliary v d i) (auxiliary v d j) (chain_at v d n i a e) (chain_at v d n j b f) (inr (refl, inr (refl, l)))

block_in_order : (len : Lengths) (v : ℕ) → IsInOrder (block len v)
block_in_order len v =
    in_order-append (chain v lead (len lead v)) (chain v lag (len lag v)) (chain_in_order v lead (len lead v)) (chain_in_order v lag (len lag v))
    (λ i j a b e f. both_are a b (auxiliary v lead i) (auxiliary v lag j) (chain_at v lead (len lead v) i a e) (chain_at v lag (len lag v) j b f) (inr (refl, inl (refl, refl))))

block_place : (len : Lengths) (v k : ℕ) (a : Auxiliary) → slice_get (block len v) k ≡ Some a → a.place ≡ v
block_place len v k a e = elim (get_split (chain v lead (len lead v)) (chain v lag (len lag v)) k a e) [
  | inl p ↦ ap (λ (z : Auxiliary). z.place) (chain_at v lead (len lead v) k a p)
  | inr p ↦ ap (λ (z : Auxiliary). z.place) (chain_at v lag (len lag v) p.0 a p.2)
]

auxiliaries_in_order : (len : Lengths) (n : ℕ) → IsInOrder (auxiliaries len n)
auxiliaries_in_order len zero = λ i j a b l e f. absurd (none-some a e)
auxiliaries_in_order len (suc n) =
    in_order-append (auxiliaries len n) (block len n) (auxiliaries_in_order len n) (block_in_order len n)
    (λ i j a b e f.
    let w = each_get (λ (z : Auxiliary). z.place < n) (auxiliaries len n) i a (each_auxiliary (λ (z : Auxiliary). z.place < n) len n (λ v d k below near. below)) e in
    inl (omega (arith, block_place len n j b f)))

pub in_order : (M : Model) → IsInOrder (auxiliaries_of M)
in_order M = auxiliaries_in_order (lengths M) (width M)

-- ---- their places and names

pub has_places : (M : Model) → HasPlaces M
has_places M = stand_in_at (lengths M) (width M)

pub has_names : (M : Model) → Each (HasName M) (auxiliaries_of M)
has_names M =
    each_auxiliary
    (HasName M)
    (lengths M) (width M)
    (λ v d k below near.
    let above = ltb-false _ _ (stand_in_above (lengths M) (width M) v d k) in
    get_right M.endogenous_names (map (auxiliary_name M.endogenous_names) (auxiliaries_of M)) (stand_in_of M v d (suc k)) (stand_in_of M v d (suc k) - width M) (omega arith)
    ∙ slice_get-map (auxiliary_name M.endogenous_names) (auxiliaries_of M) (stand_in_of M v d (suc k) - width M)
    ∙ ap (option_map (auxiliary_name M.endogenous_names)) (stand_in_get (lengths M) (width M) v d k below near))

-- ---- where they are read

pub read_own_way : (M : Model) → IsClosed M → AllModelLeaves (IsReadOwnWay M) (transformed M)
read_own_way M c = transformed_leaves M (IsFit M) (IsReadOwnWay M) (each_fits M c) at (λ v d k below near. (λ a above e. inl refl, one v d k below (omega arith)))
  where
    one : (v : ℕ) (d : Direction) (k : ℕ) → v < width M → k ≤ lengths M d v → IsReadOwnWay M (variable (endogenous (stand_in_of M v d k)) (shift_by d 1))
    one v d zero h l a above e = absurd (omega arith)
    one v d (suc k) h l a above e =
        let s : auxiliary v d k ≡ a = same_Some _ _ (sym (stand_in_get (lengths M) (width M) v d k h (omega arith)) ∙ e) in
        inr (ap (λ (a : Auxiliary). shift_by a.direction 1) s)

    at : (l : Leaf) → IsFit M l → IsReadOwnWay M (short_leaf (stand_in_of M) l)
    at (number m s) f = tt
    at (parameter p) f = tt
    at (variable (endogenous v) (pos zero)) f = λ a above e. inl refl
    at (variable (endogenous v) (pos (suc k))) f = one v lead k (declared_below M v f.0) (let e = own lead v (pos (suc k)) _ (f.1 lead v) in omega arith)
    at (variable (endogenous v) (negsuc k)) f = one v lag k (declared_below M v f.0) (let e = own lag v (negsuc k) _ (f.1 lag v) in omega arith)
    at (variable (exogenous v) k) f = tt
    at (steady_state v) f = declared_below M v f.0

-- ---- what they have at their rims

pub has_rims : (M : Model) (T : ℕ) (b : Boundary) → HasRims M T b (extended_boundary M T b)
has_rims M T b =
    each_auxiliary
    (HasRim M T b (extended_boundary M T b))
    (lengths M) (width M)
    (λ v d k below near. rw (stand_in_above (lengths M) (width M) v d k, stand_in_get (lengths M) (width M) v d k below near, same_period (rim T d)) refl)
