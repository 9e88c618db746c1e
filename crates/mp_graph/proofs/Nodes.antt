-- The terms of nodes in order.
use Rattle.std.proofs.Common.{◌≡◌, ◌⊎◌, ℕ, suc, zero, ◌+◌, ◌<◌, List, [], ◌∷◌, ◌++◌, length, get_or, slice_get, Some, fold, ap, arith, sym, ◌∙◌, refl, subst, inl, inr}
use Rattle.std.proofs.lemmas.Grind.{common_steps, fold-append}
use Rattle.std.specs.List.{AllByRecursion, AllZip}
use Rattle.mp_semantics.specs.Term.{Term, number, leaf, negative, power_of}
use Rattle.mp_graph.specs.declared.op.NodeOp.{NodeOp}
use Rattle.mp_graph.specs.declared.op.NodeOp.TheVariants.{Leaf, Neg, Binary, Pow, Pick}
use Rattle.mp_graph.specs.declared.graph.Node.{Node}
use Rattle.mp_values.specs.Names.{Names}
use Rattle.mp_graph.specs.Op.{arity, over, kid}
use Rattle.mp_graph.specs.Nodes.{terms_of, FitsAt, IsSound}
use Rattle.mp_graph.specs.Shared.{term_at}

abbrev none : Term
none = leaf (number 0 0)

abbrev step : List Term → Node → List Term
step before n = before ++ over before n.op n.kids ∷ []

pub terms_of-push : (ns : List Node) (n : Node) → terms_of (ns ++ n ∷ []) ≡ terms_of ns ++ over (terms_of ns) n.op n.kids ∷ []
terms_of-push ns n = fold-append step [] ns (n ∷ [])

length_from : (acc : List Term) (ns : List Node) → length (fold step acc ns) ≡ length acc + length ns
length_from acc [] = omega arith
length_from acc (n ∷ ns) = length_from (step acc n) ns ∙ grind (arith, common_steps)

pub length-terms_of : (ns : List Node) → length (terms_of ns) ≡ length ns
length-terms_of ns = length_from [] ns ∙ omega arith

kept_from : (acc : List Term) (ns : List Node) (i : ℕ) → i < length acc → get_or (fold step acc ns) i none ≡ get_or acc i none
kept_from acc [] i h = refl
kept_from acc (n ∷ ns) i h = kept_from (step acc n) ns i (grind (arith, common_steps)) ∙ grind (arith, common_steps)

-- a kid's number lies below
pub kid_below : (m : ℕ) (kids : List ℕ) (j : ℕ) → AllByRecursion (λ k. k < m) kids → j < length kids → get_or kids j 0 < m
kid_below m [] j h l = absurd (omega arith)
kid_below m (k ∷ kids) zero h l = h.0
kid_below m (k ∷ kids) (suc j) h l = kid_below m kids j h.1 (omega arith)

module _ (xs ys : List Term) (m : ℕ) (e : (k : ℕ) → k < m → term_at xs k ≡ term_at ys k) (kids : List ℕ) (h : AllByRecursion (λ k. k < m) kids) where
  kid_same : (j : ℕ) → j < length kids → kid xs kids j ≡ kid ys kids j
  kid_same j l = e (get_or kids j 0) (kid_below m kids j h l)

  pub over_same : (op : NodeOp) → length kids ≡ arity op → over xs op kids ≡ over ys op kids
  over_same (Leaf l) c = refl
  over_same Neg c = ap negative (kid_same 0 (omega arith))
  over_same (Binary o) c = let p = kid_same 0 (omega arith) in let q = kid_same 1 (omega arith) in cc (p, q)
  over_same (Pow k) c = ap (λ a. power_of a k) (kid_same 0 (omega arith))
  over_same Pick c =
      let p = kid_same 0 (omega arith) in let q = kid_same 1 (omega arith) in let r = kid_same 2 (omega arith) in let s = kid_same 3 (omega arith) in cc (p, q, r, s)

get_push : (ns : List Node) (n : Node) (i : ℕ) (x : Node) → slice_get (ns ++ n ∷ []) i ≡ Some x → (slice_get ns i ≡ Some x) ⊎ ((i ≡ length ns) × (n ≡ x))
get_push [] n zero x h = inr (omega arith, cc)
get_push [] n (suc i) x h = cc
get_push (m ∷ ns) n zero x h = inl h
get_push (m ∷ ns) n (suc i) x h = elim (get_push ns n i x h) [
  | inl p ↦ inl p
  | inr p ↦ inr (grind (arith, p.0), p.1)
]

module _ (names : Names) where
  node_from : (acc : List Term) (ns : List Node) (i : ℕ) (x : Node) → slice_get ns i ≡ Some x → FitsAt names (length acc + i) x
      → get_or (fold step acc ns) (length acc + i) none ≡ over (fold step acc ns) x.op x.kids
  node_from acc [] i x g k = cc
  node_from acc (n ∷ ns) zero x g k =
      let same : n ≡ x = cc in
      kept_from (step acc n) ns (length acc + 0) (grind (arith, common_steps))
      ∙ grind (arith, common_steps)
      ∙ ap (λ (y : Node). over acc y.op y.kids) same
      ∙ over_same acc (fold step (step acc n) ns) (length acc)
      (λ j l. grind (arith, common_steps) ∙ sym (kept_from (step acc n) ns j (grind (arith, common_steps))))
      x.kids (subst (λ (m : ℕ). AllByRecursion (λ (k : ℕ). k < m) x.kids) (omega arith) k.below) x.op k.count
  node_from acc (n ∷ ns) (suc i) x g k =
      let p : length (step acc n) + i ≡ length acc + suc i = grind (arith, common_steps) in
      subst (λ (m : ℕ). get_or (fold step (step acc n) ns) m none ≡ over (fold step (step acc n) ns) x.op x.kids) p
      (node_from (step acc n) ns i x g (subst (λ (m : ℕ). FitsAt names m x) (sym p) k))

  pub node_term : (ns : List Node) → IsSound names ns → (i : ℕ) (x : Node) → slice_get ns i ≡ Some x → term_at (terms_of ns) i ≡ over (terms_of ns) x.op x.kids
  node_term ns o i x g =
      let e : 0 + i ≡ i = omega arith in
      subst (λ (m : ℕ). get_or (terms_of ns) m none ≡ over (terms_of ns) x.op x.kids) e
      (node_from [] ns i x g (subst (λ (m : ℕ). FitsAt names m x) (sym e) (o i x g)))

  pub IsSound-push : (ns : List Node) (n : Node) → IsSound names ns → FitsAt names (length ns) n → IsSound names (ns ++ n ∷ [])
  IsSound-push ns n o f i x h = elim (get_push ns n i x h) [
    | inl p ↦ o i x p
    | inr p ↦ subst (λ (y : Node). FitsAt names i y) p.1 (subst (λ (m : ℕ). FitsAt names m n) (sym p.0) f)
  ]

pub get_at : (ns : List Node) (i : ℕ) (x : Node) → slice_get ns i ≡ Some x → i < length ns
get_at [] i x h = cc
get_at (n ∷ ns) zero x h = grind arith
get_at (n ∷ ns) (suc i) x h = let r = get_at ns i x h in grind arith

pub got : (ns : List Node) (i : ℕ) → i < length ns → (x : Node) × (slice_get ns i ≡ Some x)
got [] i h = absurd (omega arith)
got (n ∷ ns) zero h = (n, refl)
got (n ∷ ns) (suc i) h = got ns i (omega arith)

-- a list of the same nodes
pub zip_same : (xs ys : List Node) → AllZip (λ x y. y ≡ x) xs ys → ys ≡ xs
zip_same [] [] h = refl
zip_same [] (y ∷ ys) h = absurd h
zip_same (x ∷ xs) [] h = absurd h
zip_same (x ∷ xs) (y ∷ ys) h = let p = h.0 in let q = zip_same xs ys h.1 in cc (p, q)
