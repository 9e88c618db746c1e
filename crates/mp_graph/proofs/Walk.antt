-- A table that a pass over own nodes fills.
use Rattle.std.proofs.Common.{◌≡◌, ℕ, ◌+◌, ◌-◌, ◌<◌, ◌≤◌, List, length, get_or, set, ap, sym, ◌∙◌, subst, inl, inr, arith}
use Rattle.std.proofs.lemmas.Bool.{cases_lt}
use Rattle.std.proofs.lemmas.Grind.{get_or_default_zero}
use Rattle.std.proofs.lemmas.List.{get_or-set_same, get_or-set_other}
use Rattle.mp_semantics.specs.Term.{Term}
use Rattle.mp_graph.specs.Images.{HasImages}
use Rattle.mp_graph.specs.Own.{AreOwn}
use Rattle.mp_graph.specs.Part.{IsPart, IsIn, whole, part}
use Rattle.mp_graph.specs.Shared.{Shared, term_at, Says, Keeps, IsEachOnce}
use Rattle.mp_graph.proofs.Kept.{still, keeps-refl, keeps-trans}

pub item_is : (xs : List ℕ) (k x : ℕ) → k < length xs → x ≡ get_or xs k x → x ≡ get_or xs k 0
item_is xs k x l e = e ∙ get_or_default_zero xs k x l

module _ (ts : List Term) (root : ℕ) (own : List ℕ) (o : AreOwn ts root own) where
  -- the root is the greatest
  pub own_low : (k : ℕ) → k < length own → get_or own k 0 ≤ root
  own_low k l = elim (cases_lt k (length own - 1)) [
    | inl a ↦ omega (arith, o.rising k (length own - 1) a (omega arith), o.last)
    | inr a ↦ let e : k ≡ length own - 1 = omega arith in omega (arith, ap (λ (n : ℕ). get_or own n 0) e, o.last)
  ]

  -- an operand's number stands before
  pub own_part : (k i : ℕ) → IsEachOnce ts → root < length ts → k < length own → i < get_or own k 0 → IsPart (term_at ts i) (term_at ts (get_or own k 0)) → (m : ℕ) × (m < k) × (get_or own m 0 ≡ i)
  own_part k i once r l b p =
      let w = o.closed k (term_at ts i) l p in
      (w.0, w.1, once (get_or own w.0 0) i (omega (arith, own_low w.0 (omega (arith, w.1)))) (omega (arith, own_low k l)) w.2)

-- all that stands in a term of the list stands in the list
own_all_from : (ts : List Term) (root : ℕ) (own : List ℕ) → AreOwn ts root own → (t u : Term) → IsIn t u → (k : ℕ) → k < length own → term_at ts (get_or own k 0) ≡ u → (m : ℕ) × (m < length own) × (term_at ts (get_or own m 0) ≡ t)
own_all_from ts root own o t u (whole v) k l e = (k, l, e)
own_all_from ts root own o t u (part a b c p q) k l e =
    let m = o.closed k b l (subst (λ v. IsPart b v) (sym e) p) in
    own_all_from ts root own o t b q m.0 (omega (arith, m.1)) m.2

pub own_all : (ts : List Term) (root : ℕ) (own : List ℕ) → AreOwn ts root own → (t : Term) → IsIn t (term_at ts root) → (k : ℕ) × (k < length own) × (term_at ts (get_or own k 0) ≡ t)
own_all ts root own o t i = own_all_from ts root own o t (term_at ts root) i (length own - 1) (omega (arith, o.some)) (ap (term_at ts) o.last)

pub own_kept : (old new : Shared) (root : ℕ) (own : List ℕ) → root < length old.terms → Keeps old new → AreOwn old.terms root own → AreOwn new.terms root own
own_kept old new root own l kept o = record {
  some = o.some;
  last = o.last;
  rising = o.rising;
  closed = λ k t a p.
      let m = o.closed k t a (subst (λ u. IsPart t u) (same k a) p) in
      (m.0, m.1, same m.0 (omega (arith, m.1)) ∙ m.2);
  only = λ k a.
      subst (λ u. IsIn u (term_at new.terms root)) (sym (same k a)) (subst (λ u. IsIn (term_at old.terms (get_or own k 0)) u) (sym (kept.each root l)) (o.only k a));
}
  where
    same : (k : ℕ) → k < length own → term_at new.terms (get_or own k 0) ≡ term_at old.terms (get_or own k 0)
    same k a = let b = own_low old.terms root own o k a in kept.each (get_or own k 0) (omega (arith, b))

pub record Walk (g now : Shared) (own table : List ℕ) (image : Term → Term) (k : ℕ) : Type 0 where
  pub kept : Keeps g now
  pub says : (m : ℕ) → m < k → Says now (get_or table (get_or own m 0) 0) (image (term_at g.terms (get_or own m 0)))

-- nothing is done
pub walk_first : (g : Shared) (own table : List ℕ) (image : Term → Term) → Walk g g own table image 0
walk_first g own table image = record { kept = keeps-refl g; says = λ m h. absurd (omega arith) }

module _ (g now : Shared) (root : ℕ) (own table : List ℕ) (image : Term → Term) (k : ℕ) (o : AreOwn g.terms root own) (once : IsEachOnce g.terms) (within : root < length g.terms) (w : Walk g now own table image k) (l : k < length own) where
  low : get_or own k 0 ≤ root
  low = own_low g.terms root own o k l

  pub turn_within : get_or own k 0 < length now.terms
  turn_within = omega (arith, low, w.kept.longer)

  same : (j : ℕ) → j ≤ root → term_at now.terms j ≡ term_at g.terms j
  same j h = w.kept.each j (omega arith)

  pub turn_term : term_at now.terms (get_or own k 0) ≡ term_at g.terms (get_or own k 0)
  turn_term = same (get_or own k 0) low

  pub turn_images : HasImages now table (get_or own k 0) image
  turn_images i b p =
      let at : term_at now.terms i ≡ term_at g.terms i = same i (omega (arith, low)) in
      let q : IsPart (term_at g.terms i) (term_at g.terms (get_or own k 0)) = subst (λ u. IsPart u (term_at g.terms (get_or own k 0))) at (subst (λ u. IsPart (term_at now.terms i) u) turn_term p) in
      let m = own_part g.terms root own o k i once within l b q in
      subst (λ u. Says now (get_or table i 0) (image u)) (sym at)
      (subst (λ (n : ℕ). Says now (get_or table n 0) (image (term_at g.terms n))) m.2 (w.says m.0 m.1))

  pub turn_more : (next : Shared) (d : ℕ) → root < length table → Keeps now next → Says next d (image (term_at now.terms (get_or own k 0))) → Walk g next own (set table (get_or own k 0) d) image (k + 1)
  turn_more next d room kept s = record {
    kept = keeps-trans g now next w.kept kept;
    says = says;
  }
    where
      says : (m : ℕ) → m < k + 1 → Says next (get_or (set table (get_or own k 0) d) (get_or own m 0) 0) (image (term_at g.terms (get_or own m 0)))
      says m h = elim (cases_lt m k) [
        | inl a ↦
            let apart : get_or own m 0 < get_or own k 0 = o.rising m k a l in
            subst (λ (n : ℕ). Says next n (image (term_at g.terms (get_or own m 0)))) (sym (get_or-set_other table (get_or own k 0) (get_or own m 0) d 0 (λ e. omega (arith, e, apart))))
            (still now next (get_or table (get_or own m 0) 0) (image (term_at g.terms (get_or own m 0))) kept (w.says m a))
        | inr a ↦
            let e : k ≡ m = omega arith in
            subst (λ (n : ℕ). Says next (get_or (set table (get_or own k 0) d) (get_or own n 0) 0) (image (term_at g.terms (get_or own n 0)))) e
            (subst (λ (n : ℕ). Says next n (image (term_at g.terms (get_or own k 0)))) (sym (get_or-set_same table (get_or own k 0) d 0 (omega (arith, low))))
            (subst (λ u. Says next d (image u)) turn_term s))
      ]

pub walk_end : (g now : Shared) (root : ℕ) (own table : List ℕ) (image : Term → Term) → AreOwn g.terms root own → Walk g now own table image (length own) → Says now (get_or table root 0) (image (term_at g.terms root))
walk_end g now root own table image o w =
    subst (λ (n : ℕ). Says now (get_or table n 0) (image (term_at g.terms n))) o.last (w.says (length own - 1) (omega (arith, o.some)))
