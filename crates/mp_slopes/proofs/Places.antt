-- The places of an expression are those that occur in it, in order.
use Rattle.std.proofs.Common.{◌≡◌, ◌⊎◌, ℤ, List, [], refl, ap, subst, inl, inr, arith}
use Rattle.std.proofs.lemmas.Cmp.{nat_cmp_total, int_cmp_total, on_total, then_total}
use Rattle.std.proofs.lemmas.Map.Lookups.{CmpEqualImpliesEq, exact_unsigned, exact_signed}
use Rattle.std.specs.Cmp.{IsTotalOrder}
use Rattle.std.specs.List.{Contains}
use Rattle.std.specs.List.Sorted.{IsStrictlySortedBy}
use Rattle.std.specs.Ordering.{int_cmp, ordering_then, ordering_reverse}
use Rattle.std.specs.declared.cmp.Ordering.{Ordering}
use Rattle.std.specs.declared.cmp.Ordering.TheVariants.{Less, Equal, Greater}
use Rattle.mp_semantics.specs.Term.{Variable, endogenous, exogenous, number, parameter, variable, steady_state, Term, leaf, negative, binary, power_of, pick}
use Rattle.mp_slopes.specs.Places.{Place, variable_cmp, place_cmp, with_places, places, Occurs}
use Rattle.mp_slopes.proofs.Sorted.{insert_sorted, insert_only, insert_old, insert_new, same_keys}

-- ---- the order

antisymm : (x y : Variable) → variable_cmp x y ≡ ordering_reverse (variable_cmp y x)
antisymm (endogenous m) (endogenous n) = nat_cmp_total.antisymm m n
antisymm (endogenous m) (exogenous n) = refl
antisymm (exogenous m) (endogenous n) = refl
antisymm (exogenous m) (exogenous n) = nat_cmp_total.antisymm m n

trans : (x y z : Variable) → variable_cmp x y ≡ Less → variable_cmp y z ≡ Less → variable_cmp x z ≡ Less
trans (endogenous l) (endogenous m) (endogenous n) h k = nat_cmp_total.trans l m n h k
trans (endogenous l) (endogenous m) (exogenous n) h k = refl
trans (endogenous l) (exogenous m) (endogenous n) h k = cc
trans (endogenous l) (exogenous m) (exogenous n) h k = refl
trans (exogenous l) (endogenous m) z h k = cc
trans (exogenous l) (exogenous m) (endogenous n) h k = cc
trans (exogenous l) (exogenous m) (exogenous n) h k = nat_cmp_total.trans l m n h k

congr : (x y z : Variable) → variable_cmp x y ≡ Equal → variable_cmp x z ≡ variable_cmp y z
congr (endogenous l) (endogenous m) (endogenous n) h = nat_cmp_total.congr l m n h
congr (endogenous l) (endogenous m) (exogenous n) h = refl
congr (endogenous l) (exogenous m) z h = cc
congr (exogenous l) (endogenous m) z h = cc
congr (exogenous l) (exogenous m) (endogenous n) h = refl
congr (exogenous l) (exogenous m) (exogenous n) h = nat_cmp_total.congr l m n h

variable_total : IsTotalOrder variable_cmp
variable_total = record { antisymm = antisymm; trans = trans; congr = congr }

pub place_total : IsTotalOrder place_cmp
place_total = then_total (on_total (λ (p : Place). p.x) variable_total) (on_total (λ (p : Place). p.shift) int_cmp_total)

variable_exact : CmpEqualImpliesEq variable_cmp
variable_exact (endogenous m) (endogenous n) h = ap endogenous (exact_unsigned m n h)
variable_exact (endogenous m) (exogenous n) h = cc
variable_exact (exogenous m) (endogenous n) h = cc
variable_exact (exogenous m) (exogenous n) h = ap exogenous (exact_unsigned m n h)

pub place_exact : CmpEqualImpliesEq place_cmp
place_exact p q h = by (variable_cmp p.x q.x) refl h
  where
    by : (r : Ordering) → variable_cmp p.x q.x ≡ r → ordering_then r (int_cmp p.shift q.shift) ≡ Equal → p ≡ q
    by Less e h = cc
    by Equal e h =
        let a = variable_exact p.x q.x e in
        let b = exact_signed p.shift q.shift h in
        λ i. record { x = a i; shift = b i }
    by Greater e h = cc

-- ---- the places

pub with_sorted : (t : Term) (ps : List Place) → IsStrictlySortedBy place_cmp ps → IsStrictlySortedBy place_cmp (with_places t ps)
with_sorted (leaf (number m s)) ps h = h
with_sorted (leaf (parameter p)) ps h = h
with_sorted (leaf (variable y j)) ps h = insert_sorted place_total ps record { x = y; shift = j } h
with_sorted (leaf (steady_state y)) ps h = h
with_sorted (negative a) ps h = with_sorted a ps h
with_sorted (binary op a b) ps h = with_sorted b _ (with_sorted a ps h)
with_sorted (power_of a k) ps h = with_sorted a ps h
with_sorted (pick a b c d) ps h = with_sorted d _ (with_sorted c _ (with_sorted b _ (with_sorted a ps h)))

pub with_old : (t : Term) (ps : List Place) (p : Place) → Contains ps p → Contains (with_places t ps) p
with_old (leaf (number m s)) ps p h = h
with_old (leaf (parameter q)) ps p h = h
with_old (leaf (variable y j)) ps p h = insert_old place_total ps record { x = y; shift = j } p h
with_old (leaf (steady_state y)) ps p h = h
with_old (negative a) ps p h = with_old a ps p h
with_old (binary op a b) ps p h = with_old b _ p (with_old a ps p h)
with_old (power_of a k) ps p h = with_old a ps p h
with_old (pick a b c d) ps p h = with_old d _ p (with_old c _ p (with_old b _ p (with_old a ps p h)))

placed : (y : Variable) (j : ℤ) (p : Place) → variable y j ≡ variable p.x p.shift → record { x = y; shift = j } ≡ p
placed y j p e =
    let a : y ≡ p.x = cc in
    let b : j ≡ p.shift = cc in
    λ i. record { x = a i; shift = b i }

pub with_new : (t : Term) (ps : List Place) (p : Place) → Occurs p t → Contains (with_places t ps) p
with_new (leaf (number m s)) ps p h = absurd cc
with_new (leaf (parameter q)) ps p h = absurd cc
with_new (leaf (variable y j)) ps p h =
    subst (λ q. Contains (with_places (leaf (variable y j)) ps) q) (placed y j p h) (insert_new place_total place_exact ps record { x = y; shift = j })
with_new (leaf (steady_state y)) ps p h = absurd cc
with_new (negative a) ps p h = with_new a ps p h
with_new (binary op a b) ps p (inl h) = with_old b _ p (with_new a ps p h)
with_new (binary op a b) ps p (inr h) = with_new b _ p h
with_new (power_of a k) ps p h = with_new a ps p h
with_new (pick a b c d) ps p (inl (inl h)) = with_old d _ p (with_old c _ p (with_old b _ p (with_new a ps p h)))
with_new (pick a b c d) ps p (inl (inr h)) = with_old d _ p (with_old c _ p (with_new b _ p h))
with_new (pick a b c d) ps p (inr (inl h)) = with_old d _ p (with_new c _ p h)
with_new (pick a b c d) ps p (inr (inr h)) = with_new d _ p h

pub with_only : (t : Term) (ps : List Place) (p : Place) → Contains (with_places t ps) p → Contains ps p ⊎ Occurs p t
with_only (leaf (number m s)) ps p h = inl h
with_only (leaf (parameter q)) ps p h = inl h
with_only (leaf (variable y j)) ps p h = elim (insert_only place_total ps record { x = y; shift = j } p h) [
  | inl a ↦ inl a
  | inr a ↦ inr (ap (λ (q : Place). variable q.x q.shift) a)
]
with_only (leaf (steady_state y)) ps p h = inl h
with_only (negative a) ps p h = with_only a ps p h
with_only (binary op a b) ps p h = elim (with_only b _ p h) [
  | inl m ↦ elim (with_only a ps p m) [
    | inl n ↦ inl n
    | inr n ↦ inr (inl n)
  ]
  | inr m ↦ inr (inr m)
]
with_only (power_of a k) ps p h = with_only a ps p h
with_only (pick a b c d) ps p h = elim (with_only d _ p h) [
  | inl m ↦ elim (with_only c _ p m) [
    | inl n ↦ elim (with_only b _ p n) [
      | inl u ↦ elim (with_only a ps p u) [
        | inl w ↦ inl w
        | inr w ↦ inr (inl (inl w))
      ]
      | inr u ↦ inr (inl (inr u))
    ]
    | inr n ↦ inr (inr (inl n))
  ]
  | inr m ↦ inr (inr (inr m))
]

pub places_only : (t : Term) (p : Place) → Contains (places t) p → Occurs p t
places_only t p h = elim (with_only t [] p h) [
  | inl m ↦ absurd (omega (arith, m.1))
  | inr m ↦ m
]

pub places_all : (t : Term) (p : Place) → Occurs p t → Contains (places t) p
places_all t p h = with_new t [] p h

pub places_sorted : (t : Term) → IsStrictlySortedBy place_cmp (places t)
unfolding IsStrictlySortedBy
places_sorted t = with_sorted t [] tt

pub places_unique : (t : Term) (ps : List Place) → IsStrictlySortedBy place_cmp ps → ((p : Place) → Contains ps p → Occurs p t) → ((p : Place) → Occurs p t → Contains ps p) → ps ≡ places t
places_unique t ps h f g =
    same_keys place_total place_exact ps (places t) h (places_sorted t) (λ p m. places_all t p (f p m)) (λ p m. g p (places_only t p m))
