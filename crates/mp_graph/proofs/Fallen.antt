-- The nodes that stand in one node, from it down.
use Rattle.std.proofs.Common.{◌≡◌, ◌⊎◌, ◌↔◌, ℕ, zero, suc, ◌+◌, ◌-◌, ◌<◌, ◌≤◌, Bool, true, false, cond, max, List, [], ◌∷◌, ◌++◌, length, get_or, reverse, ap, sym, ◌∙◌, refl, subst, inl, inr, arith}
use Rattle.std.proofs.lemmas.Grind.{common_steps}
use Rattle.std.proofs.lemmas.Bool.{cases_lt}
use Rattle.std.proofs.lemmas.Cmp.{nat_cmp_total}
use Rattle.std.proofs.lemmas.List.{get_or-reverse}
use Rattle.std.proofs.lemmas.List.Elements.{All-contains, Contains-push, Contains-push_cases, Contains-append_left}
use Rattle.std.proofs.lemmas.Map.Lookups.{exact_unsigned}
use Rattle.std.proofs.lemmas.Map.Views.{btree_set_contains_iff, tells_apart}
use Rattle.std.proofs.Math.ListN.{get_or-append}
use Rattle.std.proofs.Math.Seq.{get_or-append_seam}
use Rattle.std.specs.BTreeMap.Range.{IsLtBy}
use Rattle.std.specs.BTreeSet.{BTreeSet, Updates, contains}
use Rattle.std.specs.List.{Contains}
use Rattle.std.specs.Cmp.{nat_cmp_is}
use Rattle.std.specs.Ordering.{nat_cmp, eq_by_cmp}
use Rattle.std.specs.declared.cmp.Ordering.TheVariants.{Less, Equal, Greater}
use Rattle.mp_semantics.specs.Term.{Term}
use Rattle.mp_graph.specs.declared.op.NodeOp.{NodeOp}
use Rattle.mp_graph.specs.Op.{arity, over}
use Rattle.mp_graph.specs.Own.{AreOwn, AreFalling, AddsEach}
use Rattle.mp_graph.specs.Part.{IsPart, IsIn, whole}
use Rattle.mp_graph.specs.Shared.{term_at}
use Rattle.mp_graph.proofs.Parts.{part_kid, kid_part, in_part}

-- ---- a number more in the set
module _ (s n : BTreeSet ℕ) (k : ℕ) (u : Updates nat_cmp s n k true) where
  has : (t : BTreeSet ℕ) (q : ℕ) → contains nat_cmp t q ≡ true ↔ Contains t.keys q
  has t q = btree_set_contains_iff nat_cmp_total exact_unsigned t q

  put_in : Contains n.keys k
  put_in = (has n k).0 u.1

  put_stays : (q : ℕ) → Contains s.keys q → Contains n.keys q
  put_stays q h = (has n q).0 (u.0 q ∙ by (eq_by_cmp nat_cmp k q))
    where
      by : (b : Bool) → cond b true (contains nat_cmp s q) ≡ true
      by true = refl
      by false = (has s q).1 h

  put_only : (q : ℕ) → Contains n.keys q → Contains s.keys q ⊎ (k ≡ q)
  put_only q h = by (eq_by_cmp nat_cmp k q) refl (sym (u.0 q) ∙ (has n q).1 h)
    where
      by : (b : Bool) → eq_by_cmp nat_cmp k q ≡ b → cond b true (contains nat_cmp s q) ≡ true → Contains s.keys q ⊎ (k ≡ q)
      by true e m = inr (tells_apart exact_unsigned k q e)
      by false e m = inl ((has s q).0 m)

-- one more of the kids is in
pub adds_more : (kids more : List ℕ) (old : List ℕ) (s n : BTreeSet ℕ) (k : ℕ) → more ≡ kids ++ k ∷ [] → Updates nat_cmp s n k true → AddsEach kids old s.keys → AddsEach more old n.keys
adds_more kids more old s n k e u a = record {
  each = λ q h. elim (Contains-push_cases kids k q (subst (λ l. Contains l q) e h)) [
    | inl o ↦ put_stays s n k u q (a.each q o)
    | inr o ↦ subst (λ (x : ℕ). Contains n.keys x) o (put_in s n k u)
  ];
  stay = λ q h. put_stays s n k u q (a.stay q h);
  only = λ q h. elim (put_only s n k u q h) [
    | inl o ↦ elim (a.only q o) [
      | inl p ↦ inl p
      | inr p ↦ inr (subst (λ l. Contains l q) (sym e) (Contains-append_left kids (k ∷ []) q p))
    ]
    | inr o ↦ inr (subst (λ l. Contains l q) (sym e) (subst (λ (x : ℕ). Contains (kids ++ k ∷ []) x) o (Contains-push kids k)))
  ];
}

pub adds_none : (old : List ℕ) → AddsEach [] old old
adds_none old = record { each = λ q h. absurd (omega (arith, h.1)); stay = λ q h. h; only = λ q h. inl h }

pub less_under : (x y : ℕ) → nat_cmp x y ≡ Less → x < y
less_under x y h = elim (cases_lt x y) [
  | inl a ↦ a
  | inr a ↦ elim (cases_lt y x) [
    | inl b ↦ let e = nat_cmp_is x y Greater b in cc (e, h)
    | inr b ↦ let e = nat_cmp_is x y Equal (omega arith) in cc (e, h)
  ]
]

-- what stands before the last one is below it
pub under : (rest : List ℕ) (q : ℕ) → ((k : ℕ) (d : ℕ) → k < length rest → IsLtBy nat_cmp (get_or rest k d) q) → (x : ℕ) → Contains rest x → x < q
under rest q all x h = less_under x q (All-contains (λ y. IsLtBy nat_cmp y q) rest x all h)

pub none_left : (ks : List ℕ) → (0 < length ks → false ≡ true) → ks ≡ []
none_left [] h = refl
none_left (k ∷ ks) h = let e = h (grind arith) in cc

-- ---- one more than the greatest
pub top : List ℕ → ℕ
top [] = 0
top (k ∷ ks) = max (k + 1) (top ks)

pub below_top : (ks : List ℕ) (q : ℕ) → Contains ks q → q < top ks
unfolding top
below_top [] q h = absurd (omega (arith, h.1))
below_top (k ∷ ks) q (zero, l, e) = omega (arith, e)
below_top (k ∷ ks) q (suc i, l, e) = let r = below_top ks q (i, omega arith, e) in omega (arith, r)

pub top_within : (ks : List ℕ) (b : ℕ) → ((q : ℕ) → Contains ks q → q < b) → top ks ≤ b
unfolding top
top_within [] b h = omega arith
top_within (k ∷ ks) b h =
    let r = top_within ks b (λ q m. h q (suc m.0, (let l = m.1 in grind arith), m.2)) in
    let s = h k (0, grind arith, refl) in omega (arith, r, s)

-- ---- the nodes so far, from the root down, and those that wait
pub record Falling (ts : List Term) (root : ℕ) (ks ids : List ℕ) : Type 0 where
  pub start : ((ids ≡ []) × (ks ≡ root ∷ [])) ⊎ ((0 < length ids) × (get_or ids 0 0 ≡ root))
  pub within : (q : ℕ) → Contains ks q → q < length ts
  pub lower : (q k : ℕ) → Contains ks q → k < length ids → q < get_or ids k 0
  pub waiting : (q : ℕ) → Contains ks q → IsIn (term_at ts q) (term_at ts root)
  pub falling : (k m : ℕ) → k < m → m < length ids → get_or ids m 0 < get_or ids k 0
  pub closed : (k : ℕ) (t : Term) → k < length ids → IsPart t (term_at ts (get_or ids k 0)) → ((q : ℕ) × Contains ks q × (term_at ts q ≡ t)) ⊎ ((m : ℕ) × (k < m) × (m < length ids) × (term_at ts (get_or ids m 0) ≡ t))
  pub only : (k : ℕ) → k < length ids → IsIn (term_at ts (get_or ids k 0)) (term_at ts root)

alone : (root q : ℕ) → Contains (root ∷ []) q → q ≡ root
alone root q (zero, l, e) = sym e
alone root q (suc i, l, e) = absurd (omega arith)

pub falling_first : (ts : List Term) (root : ℕ) → root < length ts → Falling ts root (root ∷ []) []
falling_first ts root l = record {
  start = inl (refl, refl);
  within = λ q h. omega (arith, alone root q h);
  lower = λ q k h m. absurd (omega arith);
  waiting = λ q h. subst (λ (n : ℕ). IsIn (term_at ts n) (term_at ts root)) (sym (alone root q h)) (whole (term_at ts root));
  falling = λ k m a b. absurd (omega arith);
  closed = λ k t a p. absurd (omega arith);
  only = λ k a. absurd (omega arith);
}

module _ (ts : List Term) (root : ℕ) (old rest new ids : List ℕ) (q : ℕ) (op : NodeOp) (kids : List ℕ) (f : Falling ts root old ids)
    (split : old ≡ rest ++ q ∷ []) (under : (x : ℕ) → Contains rest x → x < q) (added : AddsEach kids rest new)
    (e : term_at ts q ≡ over ts op kids) (c : length kids ≡ arity op) (below : (n : ℕ) → n < length kids → get_or kids n 0 < q) where
  was : (x : ℕ) → Contains rest x → Contains old x
  was x h = subst (λ l. Contains l x) (sym split) (Contains-append_left rest (q ∷ []) x h)

  here : Contains old q
  here = subst (λ l. Contains l q) (sym split) (Contains-push rest q)

  kid_low : (x : ℕ) → Contains kids x → x < q
  kid_low x h = let l = below h.0 h.1 in omega (arith, l, read kids h.0 x h.2 h.1)
    where
      read : (xs : List ℕ) (i x : ℕ) → get_or xs i x ≡ x → i < length xs → get_or xs i 0 ≡ x
      read [] i x e l = absurd (omega arith)
      read (y ∷ xs) zero x e l = e
      read (y ∷ xs) (suc i) x e l = read xs i x e (omega arith)

  pub new_low : (x : ℕ) → Contains new x → x < q
  new_low x h = elim (added.only x h) [ inl o ↦ under x o | inr o ↦ kid_low x o ]

  seam : get_or (ids ++ q ∷ []) (length ids) 0 ≡ q
  seam = get_or-append_seam ids q [] 0

  before : (k : ℕ) → k < length ids → get_or (ids ++ q ∷ []) k 0 ≡ get_or ids k 0
  before k l = get_or-append ids (q ∷ []) 0 k l

  longer : length (ids ++ q ∷ []) ≡ length ids + 1
  longer = grind (arith, common_steps)

  kid_in : (n : ℕ) → n < length kids → Contains kids (get_or kids n 0)
  kid_in n l = (n, l, same kids n l)
    where
      same : (xs : List ℕ) (i : ℕ) → i < length xs → get_or xs i (get_or xs i 0) ≡ get_or xs i 0
      same [] i l = absurd (omega arith)
      same (y ∷ xs) zero l = refl
      same (y ∷ xs) (suc i) l = same xs i (omega arith)

  -- an operand of the node waits now
  kid_waits : (t : Term) → IsPart t (term_at ts q) → (x : ℕ) × Contains new x × (term_at ts x ≡ t)
  kid_waits t p =
      let k = part_kid ts kids op t c (subst (λ u. IsPart t u) e p) in
      (get_or kids k.0 0, added.each (get_or kids k.0 0) (kid_in k.0 k.1), sym k.2)

  kid_seen : (x : ℕ) → Contains kids x → IsIn (term_at ts x) (term_at ts root)
  kid_seen x h =
      in_part (term_at ts x) (term_at ts q) (term_at ts root) (f.waiting q here)
      (subst (λ u. IsPart (term_at ts x) u) (sym e) (subst (λ (n : ℕ). IsPart (term_at ts n) (over ts op kids)) (read kids h.0 x h.2 h.1) (kid_part ts kids op h.0 c h.1)))
    where
      read : (xs : List ℕ) (i x : ℕ) → get_or xs i x ≡ x → i < length xs → get_or xs i 0 ≡ x
      read [] i x e l = absurd (omega arith)
      read (y ∷ xs) zero x e l = e
      read (y ∷ xs) (suc i) x e l = read xs i x e (omega arith)

  one_of : (k : ℕ) → k < length (ids ++ q ∷ []) → (k < length ids) ⊎ (k ≡ length ids)
  one_of k l = elim (cases_lt k (length ids)) [ inl o ↦ inl o | inr o ↦ inr (omega (arith, longer)) ]

  first_is : ((ids ≡ []) × (old ≡ root ∷ [])) ⊎ ((0 < length ids) × (get_or ids 0 0 ≡ root)) → get_or (ids ++ q ∷ []) 0 0 ≡ root
  first_is (inl o) = subst (λ l. get_or (l ++ q ∷ []) 0 0 ≡ root) (sym o.0) (alone root q (subst (λ l. Contains l q) o.1 here))
  first_is (inr o) = before 0 o.0 ∙ o.1

  -- an operand waits, or stands later
  abbrev Found : ℕ → Term → Type 0
  Found k t =
      ((x : ℕ) × Contains new x × (term_at ts x ≡ t)) ⊎ ((m : ℕ) × (k < m) × (m < length (ids ++ q ∷ [])) × (term_at ts (get_or (ids ++ q ∷ []) m 0) ≡ t))

  pub falling_next : Falling ts root new (ids ++ q ∷ [])
  falling_next = record {
    start = inr (omega (arith, longer), first_is f.start);
    within = λ x h. let a = new_low x h in let b = f.within q here in omega (arith, a, b);
    lower = λ x k h l. elim (one_of k l) [
      | inl o ↦ let a = new_low x h in let b = f.lower q k here o in omega (arith, a, b, before k o)
      | inr o ↦ let a = new_low x h in omega (arith, a, subst (λ (n : ℕ). get_or (ids ++ q ∷ []) n 0 ≡ q) (sym o) seam)
    ];
    waiting = λ x h. elim (added.only x h) [ inl o ↦ f.waiting x (was x o) | inr o ↦ kid_seen x o ];
    falling = λ k m a l. elim (one_of m l) [
      | inl o ↦ let b = f.falling k m a o in omega (arith, b, before k (omega arith), before m o)
      | inr o ↦ let b = f.lower q k here (omega arith) in omega (arith, b, before k (omega arith), subst (λ (n : ℕ). get_or (ids ++ q ∷ []) n 0 ≡ q) (sym o) seam)
    ];
    closed = closed;
    only = λ k l. elim (one_of k l) [
      | inl o ↦ subst (λ (n : ℕ). IsIn (term_at ts n) (term_at ts root)) (sym (before k o)) (f.only k o)
      | inr o ↦ subst (λ (n : ℕ). IsIn (term_at ts n) (term_at ts root)) (sym (subst (λ (n : ℕ). get_or (ids ++ q ∷ []) n 0 ≡ q) (sym o) seam)) (f.waiting q here)
    ];
  }
    where
      waited : (k x : ℕ) (t : Term) → k < length ids → Contains old x → term_at ts x ≡ t → Found k t
      waited k x t l h g = elim (Contains-push_cases rest q x (subst (λ l. Contains l x) split h)) [
        | inl o ↦ inl (x, added.stay x o, g)
        | inr o ↦ inr (length ids, l, omega (arith, longer), ap (term_at ts) (seam ∙ o) ∙ g)
      ]

      closed : (k : ℕ) (t : Term) → k < length (ids ++ q ∷ []) → IsPart t (term_at ts (get_or (ids ++ q ∷ []) k 0)) → Found k t
      closed k t l p = elim (one_of k l) [
        | inl o ↦ elim (f.closed k t o (subst (λ (n : ℕ). IsPart t (term_at ts n)) (before k o) p)) [
          | inl w ↦ waited k w.0 t o w.1 w.2
          | inr w ↦ inr (w.0, w.1, omega (arith, w.2, longer), ap (term_at ts) (before w.0 w.2) ∙ w.3)
        ]
        | inr o ↦ inl (kid_waits t (subst (λ (n : ℕ). IsPart t (term_at ts n)) (subst (λ (n : ℕ). get_or (ids ++ q ∷ []) n 0 ≡ q) (sym o) seam) p))
      ]

pub falling_end : (ts : List Term) (root : ℕ) (ids : List ℕ) → Falling ts root [] ids → AreFalling ts root ids
falling_end ts root ids f = elim f.start [
  | inl o ↦ absurd (let e = o.1 in cc)
  | inr o ↦
      record {
        some = o.0;
        first = o.1;
        falling = f.falling;
        closed = λ k t l p. elim (f.closed k t l p) [ inl w ↦ absurd (omega (arith, w.1.1)) | inr w ↦ w ];
        only = f.only;
      }
]

-- ---- turned round
pub own_reversed : (ts : List Term) (root : ℕ) (ids own : List ℕ) → own ≡ reverse ids → AreFalling ts root ids → AreOwn ts root own
own_reversed ts root ids own e f = subst (λ l. AreOwn ts root l) (sym e) turned
  where
    same : length (reverse ids) ≡ length ids
    same = grind (arith, common_steps)

    at : (k : ℕ) → k < length ids → get_or (reverse ids) k 0 ≡ get_or ids (length ids - 1 - k) 0
    at k l = get_or-reverse ids k 0 l

    zeroth : length ids - 1 - (length ids - 1) ≡ 0
    zeroth = omega arith

    turned : AreOwn ts root (reverse ids)
    turned = record {
      some = omega (arith, same, f.some);
      last = ap (λ (n : ℕ). get_or (reverse ids) (n - 1) 0) same ∙ at (length ids - 1) (omega (arith, f.some)) ∙ ap (λ (n : ℕ). get_or ids n 0) zeroth ∙ f.first;
      rising = λ k m a b. omega (arith, at k (omega (arith, same)), at m (omega (arith, same)), f.falling (length ids - 1 - m) (length ids - 1 - k) (omega (arith, same)) (omega (arith, same)));
      closed = λ k t l p.
          let w = f.closed (length ids - 1 - k) t (omega (arith, same)) (subst (λ (n : ℕ). IsPart t (term_at ts n)) (at k (omega (arith, same))) p) in
          let back : length ids - 1 - (length ids - 1 - w.0) ≡ w.0 = omega (arith, w.2) in
          (length ids - 1 - w.0, omega (arith, w.1, w.2, same), ap (term_at ts) (at (length ids - 1 - w.0) (omega (arith, w.2)) ∙ ap (λ (n : ℕ). get_or ids n 0) back) ∙ w.3);
      only = λ k l. subst (λ (n : ℕ). IsIn (term_at ts n) (term_at ts root)) (sym (at k (omega (arith, same)))) (f.only (length ids - 1 - k) (omega (arith, same, f.some)));
    }
