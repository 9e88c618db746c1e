-- The equations that a stuck one needs are the short set.
use Rattle.std.proofs.Common.{◌≡◌, ◌≢◌, ◌<◌, ◌≤◌, ◌+◌, ◌⊎◌, inl, inr, ℕ, zero, suc, Bool, true, false, List, length, get_or, take, refl, sym, ap, ◌∙◌, subst, arith}
use Rattle.std.proofs.lemmas.Bool.{cases_eq, cases_lt, cases_order, true≢false}
use Rattle.std.proofs.lemmas.List.{length-take-le, get_or-take}
use Rattle.mp_pairing.specs.Lists.{Has, IsOnce, IsRising, IsMarked}
use Rattle.mp_incidence.specs.Links.{MayTake}
use Rattle.mp_pairing.specs.Pairing.{Occurs, IsWithin, HasMatching, AreVariables, IsDeficient, IsShortSet}
use Rattle.mp_incidence.specs.Search.{LeadTo}
use Rattle.mp_incidence.specs.Tables.{cell, IsRowFor, IsTableFor}
use Rattle.mp_incidence.proofs.Pigeon.{pigeon, has_or, onto}
use Rattle.mp_match.specs.Held.{IsAll, IsStuck, IsStuckAt, Touches}

-- what i needs, through any number of steps
pub record IsNeeded (t : List (List Bool)) (f : List ℕ) (i : ℕ) (nodes via : List ℕ) : Type 0 where
  pub some : 0 < length nodes
  pub first : get_or nodes 0 0 ≡ i
  pub within : (j : ℕ) → j < length nodes → get_or nodes j 0 < length t
  pub earlier : (j : ℕ) → 0 < j → j < length nodes → get_or via j 0 < j
  pub linked : (j : ℕ) → 0 < j → j < length nodes → MayTake t f 0 (i + 1) (get_or nodes (get_or via j 0) 0) (get_or nodes j 0)
  pub closed : (a b : ℕ) → b < length t → Has nodes a → MayTake t f 0 (i + 1) a b → Has nodes b

pub as_needed : (t links back : List (List Bool)) (f : List ℕ) (i : ℕ) (nodes via : List ℕ) → IsTableFor (MayTake t f 0 (i + 1)) (length t) (length t) links
    → IsTableFor (λ a b. cell links b a ≡ true) (length links) (length links) back → LeadTo back i nodes via → IsNeeded t f i nodes via
as_needed t links back f i nodes via table turned lead =
    let size = table.count in
    let other = turned.count in
    let within : (j : ℕ) → j < length nodes → get_or nodes j 0 < length t = λ j h. let w = lead.within j h in omega arith in
    record {
      some = lead.some;
      first = lead.first;
      within = within;
      earlier = lead.earlier;
      linked = λ j h l.
          let e = lead.earlier j h l in
          let b = get_or nodes j 0 in
          let a = get_or nodes (get_or via j 0) 0 in
          let hb = within j l in
          let ha = within (get_or via j 0) (omega arith) in
          ((table.rows a ha).each b hb).0 (((turned.rows b (omega arith)).each a (omega arith)).0 (lead.linked j h l));
      closed = λ a b h has may.
          let ha = within has.0 has.1 in
          let q = has.2 in
          lead.closed b has.0 (omega arith) has.1
          (subst (λ x. cell back b x ≡ true) (sym q)
          (((turned.rows b (omega arith)).each a (omega arith)).1 (((table.rows a (omega arith)).each b h).1 may)));
    }

-- no node but the first may lead to i
node_apart : (t : List (List Bool)) (f : List ℕ) (i : ℕ) (nodes via : List ℕ) → IsNeeded t f i nodes via → (s : IsStuck t 0 (i + 1) i f)
    → (m j : ℕ) → j < m → 0 < j → j < length nodes → Has s.nodes (get_or nodes j 0) → ⊥
node_apart t f i nodes via n s zero j h some l has = omega arith
node_apart t f i nodes via n s (suc m) j h some l has =
    let e = n.earlier j some l in
    let p = get_or via j 0 in
    let before = s.closed (get_or nodes p 0) (get_or nodes j 0) (n.within p (omega arith)) has (n.linked j some l) in
    elim (cases_eq p 0) [
      | inr ne ↦ node_apart t f i nodes via n s m p (omega arith) (omega arith) (omega arith) before
      | inl q ↦
          let is : get_or nodes p 0 ≡ i = ap (λ (k : ℕ). get_or nodes k 0) q ∙ n.first in
          elim (n.linked j some l).1 [
            | inl out ↦ omega arith
            | inr c ↦ true≢false (sym (subst (λ x. cell t x (get_or f (get_or nodes j 0) 0) ≡ true) is c) ∙ s.none (get_or nodes j 0) has)
          ]
    ]

-- the facts of the short set, by the variables of the equations
record Facts (rows : List (List ℕ)) (i : ℕ) (f nodes via : List ℕ) : Type 0 where
  small : i < length rows
  all : IsAll f (length rows)
  holds : (e : ℕ) → e < i → Occurs rows e (get_or f e 0)
  some : 0 < length nodes
  first : get_or nodes 0 0 ≡ i
  earlier : (j : ℕ) → 0 < j → j < length nodes → get_or via j 0 < j
  below : (e : ℕ) → Has nodes e → e ≢ i → e < i
  reads : (j : ℕ) → 0 < j → j < length nodes → Occurs rows (get_or nodes (get_or via j 0) 0) (get_or f (get_or nodes j 0) 0)
  only : (j : ℕ) → 0 < j → j < length nodes → get_or nodes j 0 ≢ i
  owner : (e v : ℕ) → Has nodes e → Occurs rows e v → (d : ℕ) × Has nodes d × (d ≢ i) × (get_or f d 0 ≡ v)

facts : (rows : List (List ℕ)) (t : List (List Bool)) (f : List ℕ) (i : ℕ) (nodes via : List ℕ) → IsWithin rows → IsTableFor (Occurs rows) (length rows) (length rows) t
    → IsStuckAt t i f → IsNeeded t f i nodes via → Facts rows i f nodes via
facts rows t f i nodes via within table st n =
    let size = table.count in
    let small = st.within in
    let s = st.stuck in
    let all : IsAll f (length rows) = subst (λ m. IsAll f m) size st.paired.all in
    let apart : (j : ℕ) → 0 < j → j < length nodes → Has s.nodes (get_or nodes j 0) → ⊥ = λ j h l. node_apart t f i nodes via n s (j + 1) j (omega arith) h l in
    let is_first : (e : ℕ) → Has nodes e → Has s.nodes e → e ≡ i = λ e has r.
    elim (cases_eq has.0 0) [
      | inl q ↦ sym has.2 ∙ ap (λ (k : ℕ). get_or nodes k 0) q ∙ n.first
      | inr ne ↦ absurd (apart has.0 (omega arith) has.1 (subst (λ x. Has s.nodes x) (sym has.2) r))
    ] in
    let below : (e : ℕ) → Has nodes e → e ≢ i → e < i = λ e has ne.
    elim (cases_lt e i) [
      | inl l ↦ l
      | inr ge ↦
          let he : e < length t = subst (λ x. x < length t) has.2 (n.within has.0 has.1) in
          absurd (ne (is_first e has (s.closed e i he s.root (omega arith, inl (omega arith)))))
    ] in
    let only : (j : ℕ) → 0 < j → j < length nodes → get_or nodes j 0 ≢ i = λ j h l q.
    apart j h l (subst (λ x. Has s.nodes x) (sym q) s.root) in
    let cell_of : (e v : ℕ) → e < length t → Occurs rows e v → cell t e v ≡ true = λ e v h o.
    ((table.rows e (omega arith)).each v (within e v o)).1 o in
    let occurs_of : (e v : ℕ) → e < length t → v < length rows → cell t e v ≡ true → Occurs rows e v = λ e v h l c.
    ((table.rows e (omega arith)).each v l).0 c in
    record {
      small = omega arith;
      all = all;
      holds = λ e h. occurs_of e (get_or f e 0) (omega arith) (all.below e (omega arith)) (st.paired.holds e h);
      some = n.some;
      first = n.first;
      earlier = n.earlier;
      below = below;
      reads = λ j h l.
          let e = n.earlier j h l in
          let p = get_or via j 0 in
          let hp = n.within p (omega arith) in
          let hj = n.within j l in
          occurs_of (get_or nodes p 0) (get_or f (get_or nodes j 0) 0) hp (all.below (get_or nodes j 0) (omega arith))
          (elim (n.linked j h l).1 [
            | inr c ↦ c
            | inl out ↦ absurd (elim (cases_eq (get_or nodes p 0) i) [
              | inl q ↦ omega arith
              | inr ne ↦ let b = below (get_or nodes p 0) (p, omega arith, refl) ne in omega arith
            ])
          ]);
      only = only;
      owner = λ e v has o.
          let he : e < length t = subst (λ x. x < length t) has.2 (n.within has.0 has.1) in
          let hv = within e v o in
          let d = onto f (length rows) all.count all.once all.below v hv in
          let c = cell_of e v he o in
          let takes : MayTake t f 0 (i + 1) e d.0 = (omega arith, inr (subst (λ x. cell t e x ≡ true) (sym d.2) c)) in
          let hd = d.1 in (
            d.0,
            n.closed e d.0 (omega arith) has takes,
            (λ q.
                let r = s.closed e i he s.root (subst (λ x. MayTake t f 0 (i + 1) e x) q takes) in
                let same = is_first e has r in
                true≢false (sym (subst (λ x. cell t x v ≡ true) same c) ∙ subst (λ x. cell t i x ≡ false) (ap (λ (x : ℕ). get_or f x 0) (sym q) ∙ d.2) (s.none i s.root))),
            d.2,
          );
    }

pub rising_once : (xs : List ℕ) → IsRising xs → IsOnce xs
rising_once xs rising i j h l e =
    elim (cases_order i j) [
      | inl same ↦ same
      | inr ne ↦ elim ne [ inl less ↦ absurd (let r = rising i j less l in omega arith) | inr more ↦ absurd (let r = rising j i more h in omega arith) ]
    ]

-- a set with too few variables has no matching
none_for : (rows : List (List ℕ)) (m : ℕ) (es vs : List ℕ) → IsDeficient rows m es vs → HasMatching rows m → ⊥
none_for rows m es vs d h =
    let g = h.0 in
    let once = rising_once es d.rising in
    let fewer = d.fewer in
    let size = h.1.count in
    let below : (s : ℕ) → s < length es → get_or es s 0 < m = λ s l. d.below (get_or es s 0) (s, l, refl) in
    let more : length es ≤ length vs = pigeon (length es) (length vs) (λ s k. get_or vs k 0 ≡ get_or g (get_or es s 0) 0)
    (λ s l. d.variables.each (get_or es s 0) (get_or g (get_or es s 0) 0) (s, l, refl) (h.1.incident (get_or es s 0) (below s l)))
    (λ a b k l u p q. let ha = below a l in let hb = below b u in once a b l u (h.1.once (get_or es a 0) (get_or es b 0) (omega arith) (omega arith) (sym p ∙ q))) in
    omega arith

front : (rows : List (List ℕ)) (i : ℕ) (f nodes via : List ℕ) → Facts rows i f nodes via → (j : ℕ) → j < i + 1 → HasMatching rows j
front rows i f nodes via x j h =
    let size = x.all.count in
    let small = x.small in
    let count : length (take j f) ≡ j = length-take-le j f (omega arith) in (
      take j f,
      record {
        count = count;
        incident = λ e l. subst (λ v. Occurs rows e v) (sym (get_or-take j f e 0 l)) (x.holds e (omega arith));
        once = λ a b l m e. x.all.once a b (omega arith) (omega arith) (sym (get_or-take j f a 0 (omega arith)) ∙ e ∙ get_or-take j f b 0 (omega arith));
      },
    )

-- place k of the variables serves for place s of the equations: for i stands v
abbrev Stands : List ℕ → List ℕ → List ℕ → ℕ → ℕ → ℕ → ℕ → Type 0
Stands f ts us i v s k = ((get_or ts s 0 ≡ i) × (get_or us k 0 ≡ v)) ⊎ ((get_or ts s 0 ≢ i) × (get_or us k 0 ≡ get_or f (get_or ts s 0) 0))

stands_apart : (f ts us : List ℕ) (i v : ℕ) → IsOnce f → IsOnce ts → ((s : ℕ) → s < length ts → get_or ts s 0 < length f)
    → ((s : ℕ) → s < length ts → get_or ts s 0 ≢ i → get_or f (get_or ts s 0) 0 ≡ v → ⊥)
    → (a b k : ℕ) → a < length ts → b < length ts → Stands f ts us i v a k → Stands f ts us i v b k → a ≡ b
stands_apart f ts us i v once_f once below none a b k h l (inl p) (inl q) = once a b h l (p.0 ∙ sym q.0)
stands_apart f ts us i v once_f once below none a b k h l (inl p) (inr q) = absurd (none b l q.0 (sym q.1 ∙ p.1))
stands_apart f ts us i v once_f once below none a b k h l (inr p) (inl q) = absurd (none a h p.0 (sym p.1 ∙ q.1))
stands_apart f ts us i v once_f once below none a b k h l (inr p) (inr q) = once a b h l (once_f (get_or ts a 0) (get_or ts b 0) (below a h) (below b l) (sym p.1 ∙ q.1))

-- a deficient set has no variable but those that its members below i hold
no_more : (rows : List (List ℕ)) (i : ℕ) (f nodes via ts us : List ℕ) → Facts rows i f nodes via → IsDeficient rows (i + 1) ts us
    → (v : ℕ) → (Has ts i → Has us v) → ((s : ℕ) → s < length ts → get_or ts s 0 ≢ i → get_or f (get_or ts s 0) 0 ≡ v → ⊥) → ⊥
no_more rows i f nodes via ts us x d v has none =
    let size = x.all.count in
    let small = x.small in
    let fewer = d.fewer in
    let below : (s : ℕ) → s < length ts → get_or ts s 0 < i + 1 = λ s l. d.below (get_or ts s 0) (s, l, refl) in
    let more : length ts ≤ length us = pigeon (length ts) (length us) (Stands f ts us i v)
    (λ s l. elim (cases_eq (get_or ts s 0) i) [
      | inl q ↦ let k = has (s, l, q) in (k.0, k.1, inl (q, k.2))
      | inr ne ↦ let b = below s l in
          let k = d.variables.each (get_or ts s 0) (get_or f (get_or ts s 0) 0) (s, l, refl) (x.holds (get_or ts s 0) (omega arith)) in
          (k.0, k.1, inr (ne, k.2))
    ])
    (stands_apart f ts us i v x.all.once (rising_once ts d.rising) (λ s l. let b = below s l in omega arith) none) in
    omega arith

-- each node is in each deficient set
in_each : (rows : List (List ℕ)) (i : ℕ) (f nodes via ts us : List ℕ) → Facts rows i f nodes via → IsDeficient rows (i + 1) ts us
    → (m j : ℕ) → j < m → j < length nodes → Has ts (get_or nodes j 0)
in_each rows i f nodes via ts us x d zero j h l = absurd (omega arith)
in_each rows i f nodes via ts us x d (suc m) j h l =
    elim (has_or ts (get_or nodes j 0)) [
      | inl has ↦ has
      | inr none ↦ absurd (elim (cases_eq j 0) [
        | inl q ↦
            let is : get_or nodes j 0 ≡ i = ap (λ (k : ℕ). get_or nodes k 0) q ∙ x.first in
            let apart : Has ts i → ⊥ = λ has. none (subst (λ y. Has ts y) (sym is) has) in
            no_more rows i f nodes via ts us x d (length f) (λ has. absurd (apart has))
            (λ s l ne e. let b = d.below (get_or ts s 0) (s, l, refl) in let size = x.all.count in let small = x.small in let v = x.all.below (get_or ts s 0) (omega arith) in omega arith)
        | inr ne ↦
            let e = x.earlier j (omega arith) l in
            let p = get_or via j 0 in
            let before = in_each rows i f nodes via ts us x d m p (omega arith) (omega arith) in
            let read = d.variables.each (get_or nodes p 0) (get_or f (get_or nodes j 0) 0) before (x.reads j (omega arith) l) in
            no_more rows i f nodes via ts us x d (get_or f (get_or nodes j 0) 0) (λ has. read)
            (λ s l' ni q.
            let b = d.below (get_or ts s 0) (s, l', refl) in
            let size = x.all.count in let small = x.small in
            let hj = x.below (get_or nodes j 0) (j, l, refl) (x.only j (omega arith) l) in
            none (s, l', x.all.once (get_or ts s 0) (get_or nodes j 0) (omega arith) (omega arith) q))
      ])
    ]

-- place s of the equations serves for variable a, or for i
abbrev Owned : List ℕ → List ℕ → List ℕ → ℕ → ℕ → ℕ → Type 0
Owned f es vs i a s = ((a < length vs) × (get_or es s 0 ≢ i) × (get_or f (get_or es s 0) 0 ≡ get_or vs a 0)) ⊎ ((a ≡ length vs) × (get_or es s 0 ≡ i))

owned_apart : (f es vs : List ℕ) (i : ℕ) → IsOnce vs → (a b s : ℕ) → Owned f es vs i a s → Owned f es vs i b s → a ≡ b
owned_apart f es vs i once a b s (inl p) (inl q) = once a b p.0 q.0 (sym p.2 ∙ q.2)
owned_apart f es vs i once a b s (inl p) (inr q) = absurd (p.1 q.1)
owned_apart f es vs i once a b s (inr p) (inl q) = absurd (q.1 p.1)
owned_apart f es vs i once a b s (inr p) (inr q) = p.0 ∙ sym q.0

fewer_than : (rows : List (List ℕ)) (i : ℕ) (f nodes via es vs : List ℕ) → Facts rows i f nodes via
    → ((e : ℕ) → Has nodes e → Has es e) → ((e : ℕ) → Has es e → Has nodes e) → AreVariables rows es vs → length vs < length es
fewer_than rows i f nodes via es vs x to from are =
    let more : length vs + 1 ≤ length es = pigeon (length vs + 1) (length es) (Owned f es vs i)
    (λ a l. elim (cases_lt a (length vs)) [
      | inl less ↦
          let r = are.only (get_or vs a 0) (a, less, refl) in
          let o = x.owner r.0 (get_or vs a 0) (from r.0 r.1) r.2 in
          let s = to o.0 o.1 in
          (s.0, s.1, inl (less, (λ q. o.2 (sym s.2 ∙ q)), ap (λ (y : ℕ). get_or f y 0) s.2 ∙ o.3))
      | inr ge ↦ let s = to i (0, x.some, x.first) in (s.0, s.1, inr (omega arith, s.2))
    ])
    (λ a b s l m. owned_apart f es vs i (rising_once vs are.rising) a b s) in
    omega arith

pub short_set : (rows : List (List ℕ)) (t : List (List Bool)) (f : List ℕ) (i : ℕ) (nodes via : List ℕ) (members read : List Bool) (es vs : List ℕ)
    → IsWithin rows → IsTableFor (Occurs rows) (length rows) (length rows) t → IsStuckAt t i f → IsNeeded t f i nodes via
    → IsRowFor (Has nodes) (length rows) members → IsMarked members (length members) es
    → IsRowFor (Touches t nodes) (length t) read → IsMarked read (length read) vs → IsShortSet rows es vs
short_set rows t f i nodes via members read es vs within table st n row me touched mv =
    let size = table.count in
    let rs = row.size in
    let ts = touched.size in
    let x = facts rows t f i nodes via within table st n in
    let small = x.small in
    let node_in : (e : ℕ) → Has nodes e → e < length rows = λ e has. subst (λ k. k < length rows) has.2 (let w = n.within has.0 has.1 in omega arith) in
    let to : (e : ℕ) → Has nodes e → Has es e = λ e has. let h = node_in e has in me.each e (omega arith) ((row.each e h).1 has) in
    let from : (e : ℕ) → Has es e → Has nodes e = λ e has.
    let o = me.only has.0 has.1 in
    subst (λ k. Has nodes k) has.2 ((row.each (get_or es has.0 0) (let u = o.0 in omega arith)).0 o.1) in
    let are : AreVariables rows es vs = record {
      rising = mv.rising;
      only = λ v has.
          let o = mv.only has.0 has.1 in
          let u = o.0 in
          let p = (touched.each (get_or vs has.0 0) (omega arith)).0 o.1 in
          let e = get_or nodes p.0 0 in
          let he = n.within p.0 p.1 in
          (e, to e (p.0, p.1, refl), subst (λ k. Occurs rows e k) has.2 (((table.rows e (omega arith)).each (get_or vs has.0 0) (omega arith)).0 p.2));
      each = λ e v has o.
          let p = from e has in
          let he = node_in e p in
          let hv = within e v o in
          let c : cell t e v ≡ true = ((table.rows e he).each v hv).1 o in
          mv.each v (omega arith) ((touched.each v (omega arith)).1 (p.0, p.1, subst (λ k. cell t k v ≡ true) (sym p.2) c));
    } in
    let deficient : IsDeficient rows (i + 1) es vs = record {
      rising = me.rising;
      below = λ e has. elim (cases_eq e i) [ inl q ↦ omega arith | inr ne ↦ let b = x.below e (from e has) ne in omega arith ];
      variables = are;
      fewer = fewer_than rows i f nodes via es vs x to from are;
    } in
    record {
      upto = i + 1;
      first = record {
        within = omega arith;
        none = none_for rows (i + 1) es vs deficient;
        before = front rows i f nodes via x;
      };
      deficient = deficient;
      least = λ ds us d e has. let p = from e has in subst (λ k. Has ds k) p.2 (in_each rows i f nodes via ds us x d (p.0 + 1) p.0 (omega arith) p.1);
    }
