-- The nodes that have to be known before a node is, and how they become known.
use Rattle.std.proofs.Common.{◌≡◌, ◌⊎◌, ℕ, zero, suc, ◌+◌, ◌<◌, Bool, true, false, List, [], ◌∷◌, ◌++◌, length, get_or, sym, ◌∙◌, refl, subst, inl, inr, arith}
use Rattle.std.proofs.lemmas.Grind.{common_steps}
use Rattle.std.proofs.lemmas.Bool.{cases_lt}
use Rattle.std.proofs.lemmas.List.Elements.{Contains-push, Contains-push_cases, Contains-append_left}
use Rattle.std.proofs.Math.ListN.{get_or-append}
use Rattle.std.proofs.Math.Seq.{get_or-append_seam}
use Rattle.std.specs.List.{Contains}
use Rattle.mp_semantics.specs.Term.{Term}
use Rattle.mp_graph.specs.declared.images.Images.{Images}
use Rattle.mp_graph.specs.Images.{IsKnown, IsUnknown, IsKid, AreImages, AreOpen}
use Rattle.mp_graph.specs.Own.{AddsEach}
use Rattle.mp_graph.specs.Part.{IsPart, IsIn, whole}
use Rattle.mp_graph.specs.Shared.{Shared, term_at, Says, Keeps}
use Rattle.mp_graph.proofs.Parts.{in_part, had_in}

-- ---- a list and one more
module _ (ids : List ℕ) (q : ℕ) where
  last_is : get_or (ids ++ q ∷ []) (length ids) 0 ≡ q
  last_is = get_or-append_seam ids q [] 0

  before : (k : ℕ) → k < length ids → get_or (ids ++ q ∷ []) k 0 ≡ get_or ids k 0
  before k l = get_or-append ids (q ∷ []) 0 k l

  longer : length (ids ++ q ∷ []) ≡ length ids + 1
  longer = grind (arith, common_steps)

  one_of : (k : ℕ) → k < length (ids ++ q ∷ []) → (k < length ids) ⊎ (k ≡ length ids)
  one_of k l = elim (cases_lt k (length ids)) [ inl o ↦ inl o | inr o ↦ inr (omega (arith, longer)) ]

  was : (x : ℕ) → Contains ids x → Contains (ids ++ q ∷ []) x
  was x h = Contains-append_left ids (q ∷ []) x h

alone : (root q : ℕ) → Contains (root ∷ []) q → q ≡ root
alone root q (zero, l, e) = sym e
alone root q (suc i, l, e) = absurd (omega arith)

-- ---- the nodes so far, and those that wait
pub record Opening (ts : List Term) (known : List Bool) (root : ℕ) (ks ids : List ℕ) : Type 0 where
  pub start : Contains ks root ⊎ Contains ids root
  pub within : (q : ℕ) → Contains ks q → q < length ts
  pub waiting : (q : ℕ) → Contains ks q → IsIn (term_at ts q) (term_at ts root)
  pub done : (q : ℕ) → Contains ids q → q < length ts
  pub only : (q : ℕ) → Contains ids q → IsIn (term_at ts q) (term_at ts root)
  pub closed : (k i : ℕ) → k < length ids → IsUnknown known (get_or ids k 0) → IsKid ts i (get_or ids k 0) → Contains ks i ⊎ ((m : ℕ) × (k < m) × (m < length ids) × (get_or ids m 0 ≡ i))

pub opening_first : (ts : List Term) (known : List Bool) (root : ℕ) → root < length ts → Opening ts known root (root ∷ []) []
opening_first ts known root l = record {
  start = inl (Contains-push [] root);
  within = λ q h. omega (arith, alone root q h);
  waiting = λ q h. subst (λ (n : ℕ). IsIn (term_at ts n) (term_at ts root)) (sym (alone root q h)) (whole (term_at ts root));
  done = λ q h. absurd (omega (arith, h.1));
  only = λ q h. absurd (omega (arith, h.1));
  closed = λ k i a u p. absurd (omega arith);
}

module _ (ts : List Term) (known : List Bool) (root : ℕ) (old rest new ids : List ℕ) (q : ℕ) (kids : List ℕ) (f : Opening ts known root old ids)
    (split : old ≡ rest ++ q ∷ []) (under : (x : ℕ) → Contains rest x → x < q) (added : AddsEach kids rest new)
    (each : IsUnknown known q → (i : ℕ) → IsKid ts i q → Contains kids i) (only : (i : ℕ) → Contains kids i → IsKid ts i q) where
  here : Contains old q
  here = subst (λ l. Contains l q) (sym split) (Contains-push rest q)

  waited : (x : ℕ) → Contains rest x → Contains old x
  waited x h = subst (λ l. Contains l x) (sym split) (was rest q x h)

  -- all that wait now are below
  pub new_below : (x : ℕ) → Contains new x → x < q
  new_below x h = elim (added.only x h) [ inl o ↦ under x o | inr o ↦ (only x o).below ]

  of_old : (x : ℕ) → Contains old x → Contains new x ⊎ (q ≡ x)
  of_old x h = elim (Contains-push_cases rest q x (subst (λ l. Contains l x) split h)) [ inl o ↦ inl (added.stay x o) | inr o ↦ inr o ]

  more : (x : ℕ) → Contains (ids ++ q ∷ []) x → Contains ids x ⊎ (q ≡ x)
  more x h = Contains-push_cases ids q x h

  abbrev Found : ℕ → ℕ → Type 0
  Found k i =
      Contains new i ⊎ ((m : ℕ) × (k < m) × (m < length (ids ++ q ∷ [])) × (get_or (ids ++ q ∷ []) m 0 ≡ i))

  found_old : (k i : ℕ) → k < length ids → Contains old i → Found k i
  found_old k i l h = elim (of_old i h) [
    | inl o ↦ inl o
    | inr o ↦ inr (length ids, l, omega (arith, longer ids q), last_is ids q ∙ o)
  ]

  pub opening_next : Opening ts known root new (ids ++ q ∷ [])
  opening_next = record {
    start = elim f.start [
      | inl o ↦ elim (of_old root o) [
        | inl p ↦ inl p
        | inr p ↦ inr (subst (λ (x : ℕ). Contains (ids ++ q ∷ []) x) p (Contains-push ids q))
      ]
      | inr o ↦ inr (was ids q root o)
    ];
    within = λ x h. omega (arith, new_below x h, f.within q here);
    waiting = λ x h. elim (added.only x h) [
      | inl o ↦ f.waiting x (waited x o)
      | inr o ↦ in_part (term_at ts x) (term_at ts q) (term_at ts root) (f.waiting q here) (only x o).part
    ];
    done = λ x h. elim (more x h) [ inl o ↦ f.done x o | inr o ↦ omega (arith, o, f.within q here) ];
    only = λ x h. elim (more x h) [
      | inl o ↦ f.only x o
      | inr o ↦ subst (λ (n : ℕ). IsIn (term_at ts n) (term_at ts root)) o (f.waiting q here)
    ];
    closed = closed;
  }
    where
      closed : (k i : ℕ) → k < length (ids ++ q ∷ []) → IsUnknown known (get_or (ids ++ q ∷ []) k 0) → IsKid ts i (get_or (ids ++ q ∷ []) k 0) → Found k i
      closed k i l u p = elim (one_of ids q k l) [
        | inl o ↦
            let e = before ids q k o in
            elim (f.closed k i o (subst (λ (n : ℕ). IsUnknown known n) e u) (subst (λ (n : ℕ). IsKid ts i n) e p)) [
              | inl w ↦ found_old k i o w
              | inr w ↦ inr (w.0, w.1, omega (arith, w.2, longer ids q), before ids q w.0 w.2 ∙ w.3)
            ]
        | inr o ↦
            let e = subst (λ (n : ℕ). get_or (ids ++ q ∷ []) n 0 ≡ q) (sym o) (last_is ids q) in
            inl (added.each i (each (subst (λ (n : ℕ). IsUnknown known n) e u) i (subst (λ (n : ℕ). IsKid ts i n) e p)))
      ]

pub opening_end : (ts : List Term) (known : List Bool) (root : ℕ) (ids : List ℕ) → Opening ts known root [] ids → AreOpen ts known root ids
opening_end ts known root ids f = record {
  start = elim f.start [ inl o ↦ absurd (omega (arith, o.1)) | inr o ↦ inr o ];
  within = f.done;
  only = f.only;
  closed = λ k i l u p. elim (f.closed k i l u p) [ inl w ↦ absurd (omega (arith, w.1)) | inr w ↦ inr w ];
}

-- ---- the last one becomes known
still_unknown : (old new : List Bool) (i : ℕ) → (IsKnown old i → IsKnown new i) → IsUnknown new i → IsUnknown old i
still_unknown old new i stay u = by (get_or old i false) refl
  where
    by : (b : Bool) → get_or old i false ≡ b → get_or old i false ≡ false
    by false e = e
    by true e = absurd (let s = stay e in let z : ⊥ = cc in z)

module _ (ts : List Term) (known : List Bool) (root : ℕ) (ids rest : List ℕ) (q : ℕ) (f : AreOpen ts known root ids) (split : ids ≡ rest ++ q ∷ []) where
  g : AreOpen ts known root (rest ++ q ∷ [])
  g = subst (λ l. AreOpen ts known root l) split f

  last_in : Contains (rest ++ q ∷ []) q
  last_in = Contains-push rest q

  pub last_within : q < length ts
  last_within = g.within q last_in

  pub last_only : IsIn (term_at ts q) (term_at ts root)
  last_only = g.only q last_in

  -- its kids are known
  pub kids_known : IsUnknown known q → (i : ℕ) → IsKid ts i q → IsKnown known i
  kids_known u i p =
      let e = sym (last_is rest q) in
      elim (g.closed (length rest) i (omega (arith, longer rest q)) (subst (λ (n : ℕ). IsUnknown known n) e u) (subst (λ (n : ℕ). IsKid ts i n) e p)) [
        | inl o ↦ o
        | inr o ↦ absurd (omega (arith, o.1, o.2, longer rest q))
      ]

  pub open_rest : (new : List Bool) → ((i : ℕ) → IsKnown known i → IsKnown new i) → IsKnown new q → AreOpen ts new root rest
  open_rest new stay last = record {
    start = elim g.start [
      | inl o ↦ inl (stay root o)
      | inr o ↦ elim (Contains-push_cases rest q root o) [
        | inl p ↦ inr p
        | inr p ↦ inl (subst (λ (n : ℕ). IsKnown new n) p last)
      ]
    ];
    within = λ x h. g.within x (was rest q x h);
    only = λ x h. g.only x (was rest q x h);
    closed = λ k i l u p.
        let e = sym (before rest q k l) in
        elim (g.closed k i (omega (arith, longer rest q)) (subst (λ (n : ℕ). IsUnknown known n) e (still_unknown known new (get_or rest k 0) (stay (get_or rest k 0)) u)) (subst (λ (n : ℕ). IsKid ts i n) e p)) [
          | inl o ↦ inl (stay i o)
          | inr o ↦ elim (one_of rest q o.0 o.2) [
            | inl a ↦ inr (o.0, o.1, a, sym (before rest q o.0 a) ∙ o.3)
            | inr a ↦
                let same : q ≡ i = sym (subst (λ (n : ℕ). get_or (rest ++ q ∷ []) n 0 ≡ q) (sym a) (last_is rest q)) ∙ o.3 in
                inl (subst (λ (n : ℕ). IsKnown new n) same last)
          ]
        ];
  }

pub none_open : (ts : List Term) (known : List Bool) (root : ℕ) → AreOpen ts known root [] → IsKnown known root
none_open ts known root f = elim f.start [ inl o ↦ o | inr o ↦ absurd (omega (arith, o.1)) ]

-- ---- while the graph grows
pub kid_was : (old new : Shared) (i id : ℕ) → Keeps old new → id < length old.terms → IsKid new.terms i id → IsKid old.terms i id
kid_was old new i id kept l k = record {
  below = k.below;
  part =
      subst (λ t. IsPart (term_at old.terms i) t) (kept.each id l)
      (subst (λ t. IsPart t (term_at new.terms id)) (kept.each i (omega (arith, k.below))) k.part);
}

-- what a rewriting takes, it takes in all that stands in it
pub still_takes : (takes : Term → Type 0) → ((t u : Term) → IsPart t u → takes u → takes t) → (old new : Shared) (q : ℕ) (root : Term) → Keeps old new → q < length old.terms → IsIn (term_at old.terms q) root → takes root → takes (term_at new.terms q)
still_takes takes parts old new q root kept l inside h =
    subst takes (sym (kept.each q l)) (had_in takes parts (term_at old.terms q) root inside h)

-- the image at a known number
pub known_says : (old now : Shared) (images : Images) (image : Term → Term) (root x : ℕ) → Keeps old now → root < length old.terms → AreImages now images image → IsKnown images.known.items root → x ≡ get_or images.table.items root 0 → Says now x (image (term_at old.terms root))
known_says old now images image root x kept l are known e =
    subst (λ (n : ℕ). Says now n (image (term_at old.terms root))) (sym e)
    (subst (λ t. Says now (get_or images.table.items root 0) (image t)) (kept.each root l) (are.says root known))
