-- The places that the own nodes of an expression are are its places.
use Rattle.std.proofs.Common.{◌≡◌, ◌⊎◌, ℕ, suc, zero, ◌-◌, ◌<◌, ◌≤◌, ℤ, Bool, true, false, List, [], ◌∷◌, ◌++◌, map, length, slice_index, refl, sym, ap, ◌∙◌, subst, inl, inr, arith}
use Rattle.std.proofs.lemmas.Bool.{cases_lt}
use Rattle.std.specs.BTreeSet.{insert_key}
use Rattle.std.specs.List.{Contains}
use Rattle.std.specs.List.Sorted.{IsStrictlySortedBy}
use Rattle.std.specs.Ordering.{match_ordering, nat_cmp, int_cmp, bool_cmp, ordering_then}
use Rattle.std.specs.declared.cmp.Ordering.{Ordering}
use Rattle.std.specs.declared.cmp.Ordering.TheVariants.{Less, Equal, Greater}
use Rattle.mp_semantics.specs.Term.{variable, Term, leaf, negative, binary, power_of, pick}
use Rattle.mp_graph.specs.Own.{AreOwn}
use Rattle.mp_graph.specs.Part.{IsPart, IsIn, whole, part}
use Rattle.mp_graph.specs.Shared.{term_at}
use Rattle.mp_slopes.specs.Places.{Place, place_cmp, places, Occurs}
use Rattle.mp_slopes.proofs.Places.{with_sorted, with_old, with_new, with_only, places_unique}
use Rattle.mp_diff.specs.declared.places.Place as code
use Rattle.mp_diff.specs.Places.{place_shown, with_place, with_nodes}

abbrev at_place : Place → Term
at_place p = leaf (variable p.x p.shift)

-- ---- the order of the code

pub same_order : (e g : Bool) (m n : ℕ) (i j : ℤ)
    → ordering_then (bool_cmp e g) (ordering_then (nat_cmp m n) (int_cmp i j)) ≡ place_cmp (place_shown record { exogenous = e; number = m; shift = i }) (place_shown record { exogenous = g; number = n; shift = j })
same_order false false m n i j = refl
same_order false true m n i j = refl
same_order true false m n i j = refl
same_order true true m n i j = refl

unfoldable pub place_order : code.Place → code.Place → Ordering
place_order p q = ordering_then (bool_cmp p.exogenous q.exogenous) (ordering_then (nat_cmp p.number q.number) (int_cmp p.shift q.shift))

pub inserted : (R : code.Place → code.Place → Ordering) → ((p q : code.Place) → R p q ≡ place_cmp (place_shown p) (place_shown q))
    → (ks : List code.Place) (k : code.Place) → map place_shown (insert_key R ks k) ≡ insert_key place_cmp (map place_shown ks) (place_shown k)
inserted R same [] k = refl
inserted R same (x ∷ xs) k = by (inserted R same xs k) (R k x) ∙ ap (λ r. match_ordering r (place_shown k ∷ place_shown x ∷ map place_shown xs) (place_shown x ∷ map place_shown xs) (place_shown x ∷ insert_key place_cmp (map place_shown xs) (place_shown k))) (same k x)
  where
    by : map place_shown (insert_key R xs k) ≡ insert_key place_cmp (map place_shown xs) (place_shown k) → (r : Ordering)
        → map place_shown (match_ordering r (k ∷ x ∷ xs) (x ∷ xs) (x ∷ insert_key R xs k))
        ≡ match_ordering r (place_shown k ∷ place_shown x ∷ map place_shown xs) (place_shown x ∷ map place_shown xs) (place_shown x ∷ insert_key place_cmp (map place_shown xs) (place_shown k))
    by more Less = refl
    by more Equal = refl
    by more Greater = ap (λ l. place_shown x ∷ l) more

-- ---- one node

node_sorted : (t : Term) (ps : List Place) → IsStrictlySortedBy place_cmp ps → IsStrictlySortedBy place_cmp (with_place t ps)
node_sorted (leaf l) ps h = with_sorted (leaf l) ps h
node_sorted (negative a) ps h = h
node_sorted (binary op a b) ps h = h
node_sorted (power_of a k) ps h = h
node_sorted (pick a b c d) ps h = h

node_old : (t : Term) (ps : List Place) (p : Place) → Contains ps p → Contains (with_place t ps) p
node_old (leaf l) ps p h = with_old (leaf l) ps p h
node_old (negative a) ps p h = h
node_old (binary op a b) ps p h = h
node_old (power_of a k) ps p h = h
node_old (pick a b c d) ps p h = h

node_new : (t : Term) (ps : List Place) (p : Place) → t ≡ at_place p → Contains (with_place t ps) p
node_new t ps p e = subst (λ u. Contains (with_place u ps) p) (sym e) (with_new (at_place p) ps p refl)

node_only : (t : Term) (ps : List Place) (p : Place) → Contains (with_place t ps) p → Contains ps p ⊎ (t ≡ at_place p)
node_only (leaf l) ps p h = elim (with_only (leaf l) ps p h) [
  | inl a ↦ inl a
  | inr a ↦ inr (ap leaf a)
]
node_only (negative a) ps p h = inl h
node_only (binary op a b) ps p h = inl h
node_only (power_of a k) ps p h = inl h
node_only (pick a b c d) ps p h = inl h

-- ---- a list of nodes

module _ (ts : List Term) where
  pub with_nodes-push : (ps : List Place) (ids : List ℕ) (id : ℕ) → with_nodes ts ps (ids ++ id ∷ []) ≡ with_place (term_at ts id) (with_nodes ts ps ids)
  with_nodes-push ps [] id = refl
  with_nodes-push ps (j ∷ ids) id = with_nodes-push (with_place (term_at ts j) ps) ids id

  nodes_sorted : (ps : List Place) (ids : List ℕ) → IsStrictlySortedBy place_cmp ps → IsStrictlySortedBy place_cmp (with_nodes ts ps ids)
  nodes_sorted ps [] h = h
  nodes_sorted ps (id ∷ ids) h = nodes_sorted (with_place (term_at ts id) ps) ids (node_sorted (term_at ts id) ps h)

  nodes_old : (ps : List Place) (ids : List ℕ) (p : Place) → Contains ps p → Contains (with_nodes ts ps ids) p
  nodes_old ps [] p h = h
  nodes_old ps (id ∷ ids) p h = nodes_old (with_place (term_at ts id) ps) ids p (node_old (term_at ts id) ps p h)

  nodes_new : (ps : List Place) (ids : List ℕ) (p : Place) (k : ℕ) → k < length ids → term_at ts (slice_index ids k) ≡ at_place p → Contains (with_nodes ts ps ids) p
  nodes_new ps [] p k l e = absurd (omega arith)
  nodes_new ps (id ∷ ids) p zero l e = nodes_old (with_place (term_at ts id) ps) ids p (node_new (term_at ts id) ps p e)
  nodes_new ps (id ∷ ids) p (suc k) l e = nodes_new (with_place (term_at ts id) ps) ids p k (omega arith) e

  nodes_only : (ps : List Place) (ids : List ℕ) (p : Place) → Contains (with_nodes ts ps ids) p
      → Contains ps p ⊎ ((k : ℕ) × (k < length ids) × (term_at ts (slice_index ids k) ≡ at_place p))
  nodes_only ps [] p h = inl h
  nodes_only ps (id ∷ ids) p h = elim (nodes_only (with_place (term_at ts id) ps) ids p h) [
    | inl a ↦ elim (node_only (term_at ts id) ps p a) [
      | inl b ↦ inl b
      | inr b ↦ inr (0, omega arith, b)
    ]
    | inr a ↦ inr (suc a.0, omega (arith, a.1), a.2)
  ]

-- ---- what stands in an expression

either_occurs : (p : Place) (u a b : Term) → (u ≡ a) ⊎ (u ≡ b) → Occurs p u → Occurs p a ⊎ Occurs p b
either_occurs p u a b (inl e) h = inl (subst (λ t. Occurs p t) e h)
either_occurs p u a b (inr e) h = inr (subst (λ t. Occurs p t) e h)

part_occurs : (p : Place) (u v : Term) → IsPart u v → Occurs p u → Occurs p v
part_occurs p u (leaf l) q h = absurd q
part_occurs p u (negative a) q h = subst (λ t. Occurs p t) q h
part_occurs p u (binary op a b) q h = either_occurs p u a b q h
part_occurs p u (power_of a k) q h = subst (λ t. Occurs p t) q h
part_occurs p u (pick a b c d) (inl q) h = inl (either_occurs p u a b q h)
part_occurs p u (pick a b c d) (inr q) h = inr (either_occurs p u c d q h)

in_occurs : (p : Place) (t u : Term) → IsIn t u → t ≡ at_place p → Occurs p u
in_occurs p _ _ (whole t) e = subst (λ u. Occurs p u) (sym e) refl
in_occurs p _ _ (part t u v q h) e = part_occurs p u v q (in_occurs p t u h e)

occurs_in : (p : Place) (t : Term) → Occurs p t → IsIn (at_place p) t
occurs_in p (leaf l) h = subst (λ m. IsIn (at_place p) (leaf m)) (sym h) (whole (at_place p))
occurs_in p (negative a) h = part (at_place p) a (negative a) refl (occurs_in p a h)
occurs_in p (binary op a b) (inl h) = part (at_place p) a (binary op a b) (inl refl) (occurs_in p a h)
occurs_in p (binary op a b) (inr h) = part (at_place p) b (binary op a b) (inr refl) (occurs_in p b h)
occurs_in p (power_of a k) h = part (at_place p) a (power_of a k) refl (occurs_in p a h)
occurs_in p (pick a b c d) (inl (inl h)) = part (at_place p) a (pick a b c d) (inl (inl refl)) (occurs_in p a h)
occurs_in p (pick a b c d) (inl (inr h)) = part (at_place p) b (pick a b c d) (inl (inr refl)) (occurs_in p b h)
occurs_in p (pick a b c d) (inr (inl h)) = part (at_place p) c (pick a b c d) (inr (inl refl)) (occurs_in p c h)
occurs_in p (pick a b c d) (inr (inr h)) = part (at_place p) d (pick a b c d) (inr (inr refl)) (occurs_in p d h)

-- ---- own nodes

module _ (ts : List Term) (root : ℕ) (ids : List ℕ) (own : AreOwn ts root ids) where
  pub own_low : (k : ℕ) → k < length ids → slice_index ids k ≤ root
  own_low k l = elim (cases_lt k (length ids - 1)) [
    | inl a ↦ omega (arith, own.rising k (length ids - 1) a (omega (arith, own.some)), own.last)
    | inr a ↦
        let e : k ≡ length ids - 1 = omega arith in
        subst (λ (n : ℕ). slice_index ids n ≤ root) (sym e) (omega (arith, own.last))
  ]

  pub noted_are : ((t : Term) → IsIn t (term_at ts root) → (k : ℕ) × (k < length ids) × (term_at ts (slice_index ids k) ≡ t)) → with_nodes ts [] ids ≡ places (term_at ts root)
  unfolding IsStrictlySortedBy
  noted_are all =
      places_unique (term_at ts root) (with_nodes ts [] ids) (nodes_sorted ts [] ids tt) only
      (λ p h. let a = all (at_place p) (occurs_in p (term_at ts root) h) in nodes_new ts [] ids p a.0 a.1 a.2)
    where
      only : (p : Place) → Contains (with_nodes ts [] ids) p → Occurs p (term_at ts root)
      only p h = elim (nodes_only ts [] ids p h) [
        | inl a ↦ absurd (omega (arith, a.1))
        | inr a ↦ in_occurs p (term_at ts (slice_index ids a.0)) (term_at ts root) (own.only a.0 a.1) a.2
      ]
