-- From the table of what reaches what to the blocks of equations.
use Rattle.std.proofs.Common.{◌≡◌, ◌<◌, ◌↔◌, ◌⊎◌, inl, inr, ℕ, Bool, true, List, length, get_or, refl, sym, subst, arith}
use Rattle.mp_pairing.specs.Lists.{Has}
use Rattle.mp_incidence.specs.Links.{MayTake}
use Rattle.mp_pairing.specs.Pairing.{Occurs, IsWithin, IsMatching}
use Rattle.mp_pairing.specs.Blocks.{Needs, Steps, none, more, Reaches, NeedEachOther, block, IsPlaced, MayCome, IsOrder, ReadsPlaced}
use Rattle.mp_incidence.specs.Tables.{cell, IsTableFor}
use Rattle.mp_incidence.proofs.Pigeon.{onto}
use Rattle.mp_order.specs.Placing.{IsLinked, ReachesBack, IsPreorder, EachOther, IsWhole}
use Rattle.mp_order.proofs.Lead.{steps_along, steps_map}
use Rattle.mp_order.proofs.Placed.{first_in}

pub record IsReachTable (rows : List (List ℕ)) (f : List ℕ) (r : List (List Bool)) : Type 0 where
  pub count : length r ≡ length rows
  pub each : (a b : ℕ) → a < length rows → b < length rows → (cell r b a ≡ true) ↔ Reaches rows f a b

pub reach_table : (rows : List (List ℕ)) (f : List ℕ) (t links r : List (List Bool)) → IsWithin rows → IsTableFor (Occurs rows) (length rows) (length rows) t
    → IsMatching rows (length rows) f → IsTableFor (MayTake t f 0 (length rows)) (length t) (length t) links → IsTableFor (ReachesBack links) (length links) (length links) r → IsReachTable rows f r
reach_table rows f t links r within table m l back =
    let ct = table.count in
    let cl = l.count in
    let cb = back.count in
    let below : (b : ℕ) → b < length rows → get_or f b 0 < length rows = λ b h. within b (get_or f b 0) (m.incident b h) in
    let forth : (a b : ℕ) → IsLinked links a b → Needs rows f a b = λ a b k.
    let ha = k.from in let hb = k.to in
    record {
      from = omega arith;
      to = omega arith;
      occurs = ((table.rows a (omega arith)).each (get_or f b 0) (below b (omega arith))).0
          (elim (((l.rows a (omega arith)).each b (omega arith)).0 k.set).1 [ inl out ↦ absurd (omega arith) | inr c ↦ c ]);
    } in
    let from : (a b : ℕ) → Needs rows f a b → IsLinked links a b = λ a b k.
    let ha = k.from in let hb = k.to in
    record {
      from = omega arith;
      to = omega arith;
      set = ((l.rows a (omega arith)).each b (omega arith)).1 (omega arith, inr (((table.rows a k.from).each (get_or f b 0) (below b k.to)).1 k.occurs));
    } in
    record {
      count = omega arith;
      each = λ a b ha hb.
          let e = (back.rows b (omega arith)).each a (omega arith) in
          ((λ c. steps_map (IsLinked links) (Needs rows f) forth a b (e.0 c)), (λ s. e.1 (steps_map (Needs rows f) (IsLinked links) from a b s)));
    }

pub preorder_of : (rows : List (List ℕ)) (f : List ℕ) (r : List (List Bool)) → IsReachTable rows f r → IsPreorder r
preorder_of rows f r x =
    let c = x.count in
    record {
      itself = λ a h. (x.each a a (omega arith) (omega arith)).1 (none a);
      along = λ a b d ha hb hd p q.
          (x.each a d (omega arith) (omega arith)).1
          (steps_along (Needs rows f) a b d ((x.each a b (omega arith) (omega arith)).0 p) ((x.each b d (omega arith) (omega arith)).0 q));
    }

each_other : (rows : List (List ℕ)) (f : List ℕ) (r : List (List Bool)) → IsReachTable rows f r → (a b : ℕ) → a < length rows → b < length rows → EachOther r a b ↔ NeedEachOther rows f a b
each_other rows f r x a b ha hb =
    let p = x.each b a hb ha in
    let q = x.each a b ha hb in
    ((λ e. (q.0 e.1, p.0 e.0)), (λ s. (p.1 s.1, q.1 s.0)))

along_both : (rows : List (List ℕ)) (f : List ℕ) (a b c : ℕ) → NeedEachOther rows f a b → NeedEachOther rows f b c → NeedEachOther rows f a c
along_both rows f a b c p q = (steps_along (Needs rows f) a b c p.0 q.0, steps_along (Needs rows f) c b a q.1 p.1)

-- on the way from x to b: placed, or with e
on_way : (rows : List (List ℕ)) (f : List ℕ) (bs : List (List ℕ)) (p e : ℕ)
    → ((q x y : ℕ) → q < p → Has (block bs q) x → Needs rows f x y → IsPlaced bs p y)
    → MayCome rows f bs p e → (x b : ℕ) → Steps (Needs rows f) x b → IsPlaced bs p x ⊎ NeedEachOther rows f e x → IsPlaced bs p b ⊎ NeedEachOther rows f e b
on_way rows f bs p e closed may x b (none y) here = here
on_way rows f bs p e closed may x b (more u v w k s) (inl in') = on_way rows f bs p e closed may v w s (inl (closed in'.0 u v in'.1 in'.2 k))
on_way rows f bs p e closed may x b (more u v w k s) (inr both) = on_way rows f bs p e closed may v w s (may u v both k)

pub order_of : (rows : List (List ℕ)) (f : List ℕ) (r : List (List Bool)) (bs : List (List ℕ)) → IsReachTable rows f r → IsWhole r (length r) bs → IsOrder rows f bs
order_of rows f r bs x w =
    let c = x.count in
    let o = w.ordered in
    let pre = preorder_of rows f r x in
    let in_rows : (p e : ℕ) → p < length bs → Has (block bs p) e → e < length rows = λ p e h has. let m = ((o.blocks p h).only e has).0 in omega arith in
    let whole : (p d e : ℕ) → p < length bs → Has (block bs p) d → e < length rows → NeedEachOther rows f d e → Has (block bs p) e = λ p d e h has he both.
    let k = o.blocks p h in
    let hr = k.within in
    let hd = in_rows p d h has in
    let rd = (each_other rows f r x k.root d (omega arith) hd).0 (k.only d has).1 in
    k.each e (omega arith) ((each_other rows f r x k.root e (omega arith) he).1 (along_both rows f k.root d e rd both)) in
    let may : (p e : ℕ) → p < length bs → Has (block bs p) e → MayCome rows f bs p e = λ p e h has a b both k.
    let he = in_rows p e h has in
    let hb = k.to in
    let to : Reaches rows f e b = steps_along (Needs rows f) e a b both.0 (more a b b k (none b)) in
    elim (o.clear p e h has b (omega arith) ((x.each e b he hb).1 to)) [
      | inl in' ↦ inl in'
      | inr back ↦ inr (to, (x.each b e hb he).0 back)
    ] in
    record {
      blocks = λ p h. let k = o.blocks p h in let hr = k.within in record {
        some = (let s = first_in r (length r) bs p refl pre o h in let l = s.1 in omega arith);
        rising = k.rising;
        within = λ e has. in_rows p e h has;
        one = λ d e hd he.
            let rd = (each_other rows f r x k.root d (omega arith) (in_rows p d h hd)).0 (k.only d hd).1 in
            let re = (each_other rows f r x k.root e (omega arith) (in_rows p e h he)).0 (k.only e he).1 in
            along_both rows f d k.root e (rd.1, rd.0) re;
        whole = λ d e hd he both. whole p d e h hd he both;
      };
      all = λ e h. w.all e (omega arith);
      once = o.once;
      may = may;
      smallest = λ p e h he out may_e.
          o.smallest p e h (omega arith) out (λ b hb reached.
          let hb' : b < length rows = omega arith in
          let s = (x.each e b he hb').0 reached in
          elim (on_way rows f bs p e
          (λ q u v hq has k. let hv = k.to in elim (may q u (omega arith) has u v (none u, none u) k) [
            | inl in' ↦ let l = in'.1 in (in'.0, omega arith, in'.2)
            | inr both ↦ (q, hq, whole q u v (omega arith) has k.to both)
          ])
          may_e e b s (inr (none e, none e))) [
            | inl in' ↦ inl in'
            | inr both ↦ inr ((x.each b e hb' he).1 both.1)
          ]);
    }

pub reads_of : (rows : List (List ℕ)) (f : List ℕ) (bs : List (List ℕ)) → IsWithin rows → IsMatching rows (length rows) f → IsOrder rows f bs → ReadsPlaced rows f bs
reads_of rows f bs within m o p e v h has occurs =
    let he = (o.blocks p h).within e has in
    let d = onto f (length rows) m.count m.once (λ k l. within k (get_or f k 0) (m.incident k l)) v (within e v occurs) in
    let needs : Needs rows f e d.0 = record { from = he; to = d.1; occurs = subst (λ y. Occurs rows e y) (sym d.2) occurs } in (
      d.0,
      elim (o.may p e h has e d.0 (none e, none e) needs) [
        | inl in' ↦ let l = in'.1 in (in'.0, omega arith, in'.2)
        | inr both ↦ (p, omega arith, (o.blocks p h).whole e d.0 has d.1 both)
      ],
      d.2,
    )
