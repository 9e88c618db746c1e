-- The turns of the placing.
use Rattle.std.proofs.Common.{◌≡◌, ◌<◌, ◌≤◌, ◌+◌, ◌↔◌, ◌⊎◌, inl, inr, ℕ, zero, suc, Bool, true, false, List, [], ◌∷◌, ◌++◌, length, get_or, refl, sym, ap, ◌∙◌, subst, arith}
use Rattle.std.proofs.lemmas.Bool.{cases_eq, cases_lt, cases_Bool, cases_order, true≢false}
use Rattle.std.proofs.lemmas.List.{get_or_append_left, get_or_push, length_push}
use Rattle.mp_pairing.specs.Lists.{Has, IsRising, IsMarked}
use Rattle.mp_pairing.specs.Blocks.{block, IsPlaced}
use Rattle.mp_incidence.specs.Tables.{cell, IsRowFor}
use Rattle.mp_incidence.proofs.Pigeon.{pigeon}
use Rattle.mp_order.specs.Placing.{IsPreorder, EachOther, IsReady, IsHeld, NoneBefore, AddsMarked, IsClass, IsOrdered, IsArranged, IsWhole}

block_old : (bs : List (List ℕ)) (b : List ℕ) (q : ℕ) → q < length bs → block (bs ++ b ∷ []) q ≡ block bs q
block_old bs b q h = get_or_append_left bs (b ∷ []) [] q h

block_new : (bs : List (List ℕ)) (b : List ℕ) (q : ℕ) → length bs ≡ q → block (bs ++ b ∷ []) q ≡ b
block_new bs b q e = get_or_push bs b [] q e

placed_push : (bs : List (List ℕ)) (b : List ℕ) (p e : ℕ) → p ≤ length bs → IsPlaced bs p e → IsPlaced (bs ++ b ∷ []) p e
placed_push bs b p e h x = let l = x.1 in (x.0, x.1, subst (λ (ys : List ℕ). Has ys e) (sym (block_old bs b x.0 (omega arith))) x.2)

placed_back : (bs : List (List ℕ)) (b : List ℕ) (p e : ℕ) → p ≤ length bs → IsPlaced (bs ++ b ∷ []) p e → IsPlaced bs p e
placed_back bs b p e h x = let l = x.1 in (x.0, x.1, subst (λ (ys : List ℕ). Has ys e) (block_old bs b x.0 (omega arith)) x.2)

placed_later : (bs : List (List ℕ)) (p q e : ℕ) → p ≤ q → IsPlaced bs p e → IsPlaced bs q e
placed_later bs p q e h x = let l = x.1 in (x.0, omega arith, x.2)

-- what stands with a placed one is placed
mates : (t : List (List Bool)) (n : ℕ) (bs : List (List ℕ)) (p x d : ℕ) → n ≡ length t → IsPreorder t → IsOrdered t n bs → p ≤ length bs → IsPlaced bs p x → d < n → EachOther t x d → IsPlaced bs p d
mates t n bs p x d size pre o h in' l both =
    let lq = in'.1 in
    let c = o.blocks in'.0 (omega arith) in
    let m = c.only x in'.2 in
    let w = c.within in
    let hx = m.0 in (
      in'.0,
      in'.1,
      c.each d l (
        pre.along d x c.root (omega arith) (omega arith) (omega arith) both.0 m.1.0,
        pre.along c.root x d (omega arith) (omega arith) (omega arith) m.1.1 both.1,
      ),
    )

pub ordered_none : (t : List (List Bool)) (n : ℕ) → IsOrdered t n []
ordered_none t n = record {
  blocks = λ p h. absurd (omega arith);
  once = λ p e h. absurd (omega arith);
  clear = λ p e h. absurd (omega arith);
  smallest = λ p e h. absurd (omega arith);
}

pub arranged_none : (t : List (List Bool)) (n : ℕ) (placed : List Bool) → length placed ≡ n → ((e : ℕ) → e < n → get_or placed e false ≡ false) → IsArranged t n 0 placed []
arranged_none t n placed size off = record {
  count = refl;
  size = size;
  marks = λ e h. ((λ q. absurd (true≢false (sym q ∙ off e h))), (λ p. absurd (let l = p.1 in omega arith)));
  ordered = ordered_none t n;
}

first_le : (xs : List ℕ) (e : ℕ) → IsRising xs → Has xs e → get_or xs 0 0 ≤ e
first_le xs e rising has =
    let q = has.2 in
    elim (cases_eq has.0 0) [
      | inl z ↦ let s : get_or xs 0 0 ≡ e = ap (λ (k : ℕ). get_or xs k 0) (sym z) ∙ has.2 in omega arith
      | inr ne ↦ let r = rising 0 has.0 (omega arith) has.1 in omega arith
    ]

pub arranged_more : (t : List (List Bool)) (p e : ℕ) (placed new class : List Bool) (b : List ℕ) (bs : List (List ℕ)) → IsPreorder t → IsArranged t (length t) p placed bs
    → e < length t → get_or placed e false ≡ false → IsReady t placed (length t) e → NoneBefore t placed (length t) e
    → IsRowFor (EachOther t e) (length t) class → IsMarked class (length class) b → AddsMarked class (length class) placed new
    → IsArranged t (length t) (p + 1) new (bs ++ b ∷ [])
arranged_more t p e placed new class b bs pre a he open' ready before row me adds =
    let n = length t in
    let count = a.count in
    let size = a.size in
    let rs = row.size in
    let ws = adds.size in
    let more = length_push bs b in
    let to : (d : ℕ) → d < n → EachOther t e d → Has b d = λ d h both. me.each d (omega arith) ((row.each d h).1 both) in
    let from : (d : ℕ) → Has b d → (d < n) × EachOther t e d = λ d has.
    let o = me.only has.0 has.1 in
    let l = o.0 in
    let q = has.2 in
    let hd : d < n = omega arith in
    (hd, (row.each d hd).0 (subst (λ k. get_or class k false ≡ true) has.2 o.1)) in
    let self : Has b e = to e he (pre.itself e he, pre.itself e he) in
    let is_new : block (bs ++ b ∷ []) p ≡ b = block_new bs b p a.count in
    let class_of : IsClass t n b = record { root = e; within = he; rising = me.rising; only = from; each = to } in
    let marks : (d : ℕ) → d < n → (get_or new d false ≡ true) ↔ IsPlaced (bs ++ b ∷ []) (length (bs ++ b ∷ [])) d = λ d h.
    let u = adds.each d (omega arith) in (
      (λ q. elim (u.0 q) [
        | inl old ↦ placed_later (bs ++ b ∷ []) (length bs) (length (bs ++ b ∷ [])) d (omega arith) (placed_push bs b (length bs) d (omega arith) ((a.marks d h).0 old))
        | inr c ↦ (p, omega arith, subst (λ (ys : List ℕ). Has ys d) (sym is_new) (to d h ((row.each d h).0 c.1)))
      ]),
      (λ x. let lx = x.1 in elim (cases_eq x.0 p) [
        | inl q ↦ let has : Has b d = subst (λ (ys : List ℕ). Has ys d) (ap (λ (k : ℕ). block (bs ++ b ∷ []) k) q ∙ is_new) x.2 in
            u.1 (inr (omega arith, (row.each d h).1 (from d has).1))
        | inr ne ↦ u.1 (inl ((a.marks d h).1 (x.0, omega arith, subst (λ (ys : List ℕ). Has ys d) (block_old bs b x.0 (omega arith)) x.2)))
      ]),
    ) in
    record {
      count = omega arith;
      size = omega arith;
      marks = marks;
      ordered = record {
        blocks = λ q h. elim (cases_eq q p) [
          | inl s ↦ subst (λ (ys : List ℕ). IsClass t n ys) (sym (ap (λ (k : ℕ). block (bs ++ b ∷ []) k) s ∙ is_new)) class_of
          | inr ne ↦ subst (λ (ys : List ℕ). IsClass t n ys) (sym (block_old bs b q (omega arith))) (a.ordered.blocks q (omega arith))
        ];
        once = λ q x h has in'. elim (cases_eq q p) [
          | inl s ↦
              let hasb : Has b x = subst (λ (ys : List ℕ). Has ys x) (ap (λ (k : ℕ). block (bs ++ b ∷ []) k) s ∙ is_new) has in
              let f = from x hasb in
              let old : IsPlaced bs (length bs) x = placed_later bs q (length bs) x (omega arith) (placed_back bs b q x (omega arith) in') in
              let mate = mates t n bs (length bs) x e refl pre a.ordered (omega arith) old he (f.1.1, f.1.0) in
              true≢false (sym ((a.marks e he).1 mate) ∙ open')
          | inr ne ↦ a.ordered.once q x (omega arith) (subst (λ (ys : List ℕ). Has ys x) (block_old bs b q (omega arith)) has) (placed_back bs b q x (omega arith) in')
        ];
        clear = λ q x h has y l r. elim (cases_eq q p) [
          | inl s ↦
              let hasb : Has b x = subst (λ (ys : List ℕ). Has ys x) (ap (λ (k : ℕ). block (bs ++ b ∷ []) k) s ∙ is_new) has in
              let f = from x hasb in
              let hx = f.0 in
              elim (ready y l (pre.along e x y he hx l f.1.1 r)) [
                | inl old ↦ inl (placed_later (bs ++ b ∷ []) (length bs) q y (omega arith) (placed_push bs b (length bs) y (omega arith) ((a.marks y l).0 old)))
                | inr back ↦ inr (pre.along y e x l he hx back f.1.1)
              ]
          | inr ne ↦ elim (a.ordered.clear q x (omega arith) (subst (λ (ys : List ℕ). Has ys x) (block_old bs b q (omega arith)) has) y l r) [
            | inl old ↦ inl (placed_push bs b q y (omega arith) old)
            | inr back ↦ inr back
          ]
        ];
        smallest = λ q d h l none clear. elim (cases_eq q p) [
          | inl s ↦
              let le : get_or b 0 0 ≤ e = first_le b e me.rising self in
              let fit : get_or b 0 0 ≤ d = elim (cases_lt d e) [
                | inr ge ↦ omega arith
                | inl less ↦ absurd (elim (before d less) [
                  | inl old ↦ none (placed_later (bs ++ b ∷ []) (length bs) q d (omega arith) (placed_push bs b (length bs) d (omega arith) ((a.marks d l).0 old)))
                  | inr w ↦ elim (clear w.by w.within w.reached) [
                    | inl in' ↦ true≢false (sym ((a.marks w.by w.within).1 (placed_later bs q (length bs) w.by (omega arith) (placed_back bs b q w.by (omega arith) in'))) ∙ w.open')
                    | inr back ↦ true≢false (sym back ∙ w.apart)
                  ]
                ])
              ] in
              subst (λ (ys : List ℕ). get_or ys 0 0 ≤ d) (sym (ap (λ (k : ℕ). block (bs ++ b ∷ []) k) s ∙ is_new)) fit
          | inr ne ↦ subst (λ (ys : List ℕ). get_or ys 0 0 ≤ d) (sym (block_old bs b q (omega arith)))
              (a.ordered.smallest q d (omega arith) l (λ in'. none (placed_push bs b q d (omega arith) in'))
              (λ y l' r. elim (clear y l' r) [ inl in' ↦ inl (placed_back bs b q y (omega arith) in') | inr back ↦ inr back ]))
        ];
      };
    }

-- one that is not placed
record Open (n : ℕ) (placed : List Bool) : Type 0 where
  at : ℕ
  within : at < n
  open' : get_or placed at false ≡ false

-- from each that waits to one that it waits for
wait_from : (t : List (List Bool)) (placed : List Bool) (n : ℕ) (o : Open n placed) → ((get_or placed o.at false ≡ true) ⊎ IsHeld t placed n o.at) → IsHeld t placed n o.at
wait_from t placed n o (inl q) = absurd (true≢false (sym q ∙ o.open'))
wait_from t placed n o (inr h) = h

next_open : (t : List (List Bool)) (placed : List Bool) (n : ℕ) → NoneBefore t placed n n → (o : Open n placed) → IsHeld t placed n o.at
next_open t placed n none o = wait_from t placed n o (none o.at o.within)

abbrev as_open : (t : List (List Bool)) (placed : List Bool) (n e : ℕ) → IsHeld t placed n e → Open n placed
as_open t placed n e h = record { at = h.by; within = h.within; open' = h.open' }

unfoldable line : (t : List (List Bool)) (placed : List Bool) (n : ℕ) → NoneBefore t placed n n → Open n placed → ℕ → Open n placed
line t placed n none o zero = o
line t placed n none o (suc k) = let x = line t placed n none o k in as_open t placed n x.at (next_open t placed n none x)

ahead : (t : List (List Bool)) (placed : List Bool) (none : NoneBefore t placed (length t) (length t)) (o : Open (length t) placed) → IsPreorder t
    → (m i : ℕ) → i ≤ m → cell t (line t placed (length t) none o m).at (line t placed (length t) none o i).at ≡ true
unfolding line
ahead t placed none o pre zero i h =
    let e : i ≡ zero = omega arith in
    subst (λ k. cell t o.at (line t placed (length t) none o k).at ≡ true) (sym e) (pre.itself o.at o.within)
ahead t placed none o pre (suc m) i h =
    let at = λ (k : ℕ). (line t placed (length t) none o k).at in
    let x = line t placed (length t) none o m in
    let w = next_open t placed (length t) none x in
    elim (cases_eq i (suc m)) [
      | inl e ↦ subst (λ k. cell t (at (suc m)) (at k) ≡ true) (sym e) (pre.itself w.by w.within)
      | inr ne ↦ pre.along (at i) x.at w.by (line t placed (length t) none o i).within x.within w.within (ahead t placed none o pre m i (omega arith)) w.reached
    ]

never_back : (t : List (List Bool)) (placed : List Bool) (none : NoneBefore t placed (length t) (length t)) (o : Open (length t) placed) → IsPreorder t
    → (i j : ℕ) → i < j → (line t placed (length t) none o i).at ≡ (line t placed (length t) none o j).at → ⊥
unfolding line
never_back t placed none o pre i j h e =
    let at = λ (k : ℕ). (line t placed (length t) none o k).at in
    let w = next_open t placed (length t) none (line t placed (length t) none o i) in
    let l : suc i ≤ j = omega arith in
    let r : cell t (at j) w.by ≡ true = ahead t placed none o pre j (suc i) l in
    true≢false (sym (subst (λ k. cell t k w.by ≡ true) (sym e) r) ∙ w.apart)

line_apart : (t : List (List Bool)) (placed : List Bool) (none : NoneBefore t placed (length t) (length t)) (o : Open (length t) placed) → IsPreorder t
    → (i j : ℕ) → (line t placed (length t) none o i).at ≡ (line t placed (length t) none o j).at → i ≡ j
line_apart t placed none o pre i j e =
    elim (cases_order i j) [
      | inl same ↦ same
      | inr ne ↦ elim ne [ inl less ↦ absurd (never_back t placed none o pre i j less e) | inr more ↦ absurd (never_back t placed none o pre j i more (sym e)) ]
    ]

none_open : (t : List (List Bool)) (placed : List Bool) → IsPreorder t → NoneBefore t placed (length t) (length t) → Open (length t) placed → ⊥
none_open t placed pre none o =
    let n = length t in
    let more : n + 1 ≤ n = pigeon (n + 1) n (λ i k. k ≡ (line t placed n none o i).at)
    (λ i h. ((line t placed n none o i).at, (line t placed n none o i).within, refl))
    (λ i j k h l p q. line_apart t placed none o pre i j (sym p ∙ q)) in
    omega arith

pub all_placed : (t : List (List Bool)) (p : ℕ) (placed : List Bool) (bs : List (List ℕ)) → IsPreorder t → IsArranged t (length t) p placed bs → NoneBefore t placed (length t) (length t) → IsWhole t (length t) bs
all_placed t p placed bs pre a none = record {
  ordered = a.ordered;
  all = λ e h. elim (cases_Bool (get_or placed e false)) [
    | inl on ↦ (a.marks e h).0 on
    | inr off ↦ absurd (none_open t placed pre none (record { at = e; within = h; open' = off }))
  ];
}

-- the first of block i, or e after all blocks
abbrev Leads : List (List ℕ) → ℕ → ℕ → ℕ → ℕ → Type 0
Leads bs n e i k = ((i < n) × (k ≡ get_or (block bs i) 0 0)) ⊎ ((i ≡ n) × (k ≡ e))

pub first_in : (t : List (List Bool)) (n : ℕ) (bs : List (List ℕ)) (i : ℕ) → n ≡ length t → IsPreorder t → IsOrdered t n bs → i < length bs → Has (block bs i) (get_or (block bs i) 0 0)
first_in t n bs i size pre o h =
    let c = o.blocks i h in
    let w = c.within in
    let self = pre.itself c.root (omega arith) in
    let r = c.each c.root c.within (self, self) in
    let l = r.1 in
    (0, omega arith, refl)

lead_order : (t : List (List Bool)) (n : ℕ) (bs : List (List ℕ)) → n ≡ length t → IsPreorder t → IsOrdered t n bs → (i j : ℕ) → i < j → j < length bs
    → get_or (block bs i) 0 0 ≡ get_or (block bs j) 0 0 → ⊥
lead_order t n bs size pre o i j h l e =
    o.once j (get_or (block bs j) 0 0) l (first_in t n bs j size pre o l) (i, h, subst (λ x. Has (block bs i) x) e (first_in t n bs i size pre o (omega arith)))

leads_apart : (t : List (List Bool)) (n e : ℕ) (bs : List (List ℕ)) → n ≡ length t → IsPreorder t → IsOrdered t n bs → length bs ≡ n → (IsPlaced bs (length bs) e → ⊥)
    → (i j k : ℕ) → Leads bs n e i k → Leads bs n e j k → i ≡ j
leads_apart t n e bs size pre o count none i j k (inl p) (inl q) =
    let hp = p.0 in
    let hq = q.0 in
    elim (cases_order i j) [
      | inl same ↦ same
      | inr ne ↦ elim ne [
        | inl less ↦ absurd (lead_order t n bs size pre o i j less (omega arith) (sym p.1 ∙ q.1))
        | inr more ↦ absurd (lead_order t n bs size pre o j i more (omega arith) (sym q.1 ∙ p.1))
      ]
    ]
leads_apart t n e bs size pre o count none i j k (inl p) (inr q) =
    let hp = p.0 in
    let h : i < length bs = omega arith in
    absurd (none (i, h, subst (λ x. Has (block bs i) x) (sym p.1 ∙ q.1) (first_in t n bs i size pre o h)))
leads_apart t n e bs size pre o count none i j k (inr p) (inl q) =
    let hq = q.0 in
    let h : j < length bs = omega arith in
    absurd (none (j, h, subst (λ x. Has (block bs j) x) (sym q.1 ∙ p.1) (first_in t n bs j size pre o h)))
leads_apart t n e bs size pre o count none i j k (inr p) (inr q) = p.0 ∙ sym q.0

pub all_turns : (t : List (List Bool)) (p : ℕ) (placed : List Bool) (bs : List (List ℕ)) → IsPreorder t → IsArranged t (length t) p placed bs → p ≡ length t → IsWhole t (length t) bs
all_turns t p placed bs pre a end = record {
  ordered = a.ordered;
  all = λ e h. elim (cases_Bool (get_or placed e false)) [
    | inl on ↦ (a.marks e h).0 on
    | inr off ↦ absurd (
        let n = length t in
        let count : length bs ≡ n = a.count ∙ end in
        let none : IsPlaced bs (length bs) e → ⊥ = λ x. true≢false (sym ((a.marks e h).1 x) ∙ off) in
        let more : n + 1 ≤ n = pigeon (n + 1) n (Leads bs n e)
        (λ i l. elim (cases_lt i n) [
          | inl less ↦ let hi : i < length bs = omega arith in
              (get_or (block bs i) 0 0, ((a.ordered.blocks i hi).only (get_or (block bs i) 0 0) (first_in t n bs i refl pre a.ordered hi)).0, inl (less, refl))
          | inr ge ↦ (e, h, inr (omega arith, refl))
        ])
        (λ i j k l m. leads_apart t n e bs refl pre a.ordered count none i j k) in
        omega arith)
  ];
}
