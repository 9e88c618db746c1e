-- Keys put into a list in order, and lists in order with the same keys.
use Rattle.std.proofs.Common.{◌≡◌, ◌⊎◌, ◌↔◌, Bool, true, false, IsTrue, List, [], ◌∷◌, refl, sym, ap, ◌∙◌, subst, inl, inr, arith}
use Rattle.std.proofs.lemmas.List.Elements.{All-from_recursion, recursion_from_All, All-weaker, All-contains, All-contains_itself, Contains-append_left, Contains-append_right, Contains-append_cases, Contains-push, Contains-push_cases}
use Rattle.std.proofs.lemmas.Map.Lookups.{CmpEqualImpliesEq, btree_set_from_contains}
use Rattle.std.proofs.lemmas.Map.Views.{All-insert_key, btree_set_contains_iff}
use Rattle.std.specs.BTreeSet.{BTreeSet, insert_key, contains}
use Rattle.std.specs.Cmp.{IsTotalOrder}
use Rattle.std.specs.List.{AllByRecursion, Contains}
use Rattle.std.specs.List.Sorted.{IsStrictlySortedBy}
use Rattle.std.specs.Ordering.{match_ordering, ordering_reverse}
use Rattle.std.specs.declared.cmp.Ordering.{Ordering}
use Rattle.std.specs.declared.cmp.Ordering.TheVariants.{Less, Equal, Greater}

same_answer : (b c : Bool) → (b ≡ true → c ≡ true) → (c ≡ true → b ≡ true) → b ≡ c
same_answer true c f g = sym (f refl)
same_answer false true f g = g refl
same_answer false false f g = refl

module _ {K : Type 0} where
  pub first_in : (x : K) (xs : List K) → Contains (x ∷ xs) x
  first_in x xs = Contains-append_left (x ∷ []) xs x (Contains-push [] x)

  pub later_in : (x : K) (xs : List K) (q : K) → Contains xs q → Contains (x ∷ xs) q
  later_in x xs q h = Contains-append_right (x ∷ []) xs q h

  none_in : (q : K) → Contains [] q → ⊥
  none_in q h = omega (arith, h.1)

  pub in_cases : (x : K) (xs : List K) (q : K) → Contains (x ∷ xs) q → (x ≡ q) ⊎ Contains xs q
  in_cases x xs q h = elim (Contains-append_cases (x ∷ []) xs q h) [
    | inl a ↦ elim (Contains-push_cases [] x q a) [
      | inl b ↦ absurd (none_in q b)
      | inr b ↦ inl b
    ]
    | inr a ↦ inr a
  ]

  module _ {R : K → K → Ordering} (o : IsTotalOrder R) where
    below_more : (k x : K) → R k x ≡ Less → (xs : List K) → AllByRecursion (λ y. R x y ≡ Less) xs → AllByRecursion (λ y. R k y ≡ Less) xs
    below_more k x e [] h = tt
    below_more k x e (y ∷ ys) h = (o.trans k x y e h.0, below_more k x e ys h.1)

    pub insert_sorted : (ks : List K) (k : K) → IsStrictlySortedBy R ks → IsStrictlySortedBy R (insert_key R ks k)
    unfolding IsStrictlySortedBy
    insert_sorted [] k h = (tt, tt)
    insert_sorted (x ∷ xs) k h = by (insert_sorted xs k h.1) (R k x) refl
      where
        by : IsStrictlySortedBy R (insert_key R xs k) → (r : Ordering) → R k x ≡ r → IsStrictlySortedBy R (match_ordering r (k ∷ x ∷ xs) (x ∷ xs) (x ∷ insert_key R xs k))
        by more Less e = ((e, below_more k x e xs h.0), h)
        by more Equal e = h
        by more Greater e =
            let P = λ (y : K). R x y ≡ Less in (
              recursion_from_All P (insert_key R xs k) (All-insert_key R k P xs (All-from_recursion P xs h.0) (o.antisymm x k ∙ ap ordering_reverse e)),
              more,
            )

    pub insert_only : (ks : List K) (k q : K) → Contains (insert_key R ks k) q → Contains ks q ⊎ (k ≡ q)
    insert_only ks k q h =
        let P = λ (y : K). Contains ks y ⊎ (k ≡ y) in
        All-contains P (insert_key R ks k) q (All-insert_key R k P ks (All-weaker (Contains ks) P (λ y m. inl m) ks (All-contains_itself ks)) (inr refl)) h

    pub insert_old : (ks : List K) (k q : K) → Contains ks q → Contains (insert_key R ks k) q
    insert_old [] k q h = absurd (none_in q h)
    insert_old (x ∷ xs) k q h = by (λ a. insert_old xs k q a) (R k x)
      where
        by : (Contains xs q → Contains (insert_key R xs k) q) → (r : Ordering) → Contains (match_ordering r (k ∷ x ∷ xs) (x ∷ xs) (x ∷ insert_key R xs k)) q
        by more Less = later_in k (x ∷ xs) q h
        by more Equal = h
        by more Greater = elim (in_cases x xs q h) [
          | inl a ↦ subst (λ y. Contains (x ∷ insert_key R xs k) y) a (first_in x (insert_key R xs k))
          | inr a ↦ later_in x (insert_key R xs k) q (more a)
        ]

    module _ (exact : CmpEqualImpliesEq R) where
      pub insert_new : (ks : List K) (k : K) → Contains (insert_key R ks k) k
      insert_new [] k = first_in k []
      insert_new (x ∷ xs) k = by (insert_new xs k) (R k x) refl
        where
          by : Contains (insert_key R xs k) k → (r : Ordering) → R k x ≡ r → Contains (match_ordering r (k ∷ x ∷ xs) (x ∷ xs) (x ∷ insert_key R xs k)) k
          by more Less e = first_in k (x ∷ xs)
          by more Equal e = subst (λ y. Contains (x ∷ xs) y) (sym (exact k x e)) (first_in x xs)
          by more Greater e = later_in x (insert_key R xs k) k more

      pub same_keys : (ks js : List K) → IsStrictlySortedBy R ks → IsStrictlySortedBy R js → ((q : K) → Contains ks q → Contains js q) → ((q : K) → Contains js q → Contains ks q) → ks ≡ js
      same_keys ks js a b f g =
          let s : BTreeSet K = record { keys = ks } in
          let u : BTreeSet K = record { keys = js } in
          btree_set_from_contains o s u a b
          (λ q. same_answer (contains R s q) (contains R u q) (λ e. (has u q).1 (f q ((has s q).0 e))) (λ e. (has s q).1 (g q ((has u q).0 e)))) exact
        where
          has : (s : BTreeSet K) (q : K) → IsTrue (contains R s q) ↔ Contains s.keys q
          has s q = btree_set_contains_iff o exact s q
