-- A table of rows that a pass over own nodes fills.
use Rattle.std.proofs.Common.{◌≡◌, ◌≢◌, ◌⊎◌, ℕ, zero, suc, ◌+◌, ◌-◌, ◌<◌, List, [], ◌∷◌, length, get_or, slice_get, Some, set, ap, sym, ◌∙◌, refl, subst, inl, inr, arith}
use Rattle.std.proofs.lemmas.Bool.{cases_lt}
use Rattle.mp_semantics.specs.Term.{Term}
use Rattle.mp_graph.specs.Images.{HasRows}
use Rattle.mp_graph.specs.Own.{AreOwn}
use Rattle.mp_graph.specs.Shared.{term_at, IsEachOnce}
use Rattle.mp_graph.proofs.Walk.{own_part}

pub record Rows {R : Type 0} (ts : List Term) (own : List ℕ) (is_row : Term → R → Type 0) (rows : List R) (k : ℕ) : Type 0 where
  pub says : (m : ℕ) (r : R) → m < k → slice_get rows (get_or own m 0) ≡ Some r → is_row (term_at ts (get_or own m 0)) r

module _ {R : Type 0} where
  get_set : (rs : List R) (i j : ℕ) (d r : R) → slice_get (set rs i d) j ≡ Some r → ((j ≡ i) × (d ≡ r)) ⊎ ((j ≢ i) × (slice_get rs j ≡ Some r))
  get_set [] i j d r h = cc
  get_set (x ∷ xs) zero zero d r h = inl (refl, cc)
  get_set (x ∷ xs) zero (suc j) d r h = inr ((λ e. omega (arith, e)), h)
  get_set (x ∷ xs) (suc i) zero d r h = inr ((λ e. omega (arith, e)), h)
  get_set (x ∷ xs) (suc i) (suc j) d r h = elim (get_set xs i j d r h) [
    | inl p ↦ inl (ap suc p.0, p.1)
    | inr p ↦ inr ((λ e. p.0 (omega (arith, e))), p.1)
  ]

  pub got_by : (rs : List R) (i : ℕ) (x : R) → i < length rs → x ≡ get_or rs i x → slice_get rs i ≡ Some x
  got_by [] i x l e = absurd (omega arith)
  got_by (r ∷ rs) zero x l e = ap Some (sym e)
  got_by (r ∷ rs) (suc i) x l e = got_by rs i x (omega arith) e

  module _ (ts : List Term) (root : ℕ) (own : List ℕ) (is_row : Term → R → Type 0) (rows : List R) (k : ℕ) (o : AreOwn ts root own) (w : Rows ts own is_row rows k) where
    pub rows_before : (id : ℕ) → id ≡ get_or own k 0 → IsEachOnce ts → root < length ts → k < length own → HasRows ts rows id is_row
    rows_before id e once within l = subst (λ (n : ℕ). HasRows ts rows n is_row) (sym e) at
      where
        at : HasRows ts rows (get_or own k 0) is_row
        at i r b g p =
            let m = own_part ts root own o k i once within l b p in
            subst (λ (n : ℕ). is_row (term_at ts n) r) m.2 (w.says m.0 r m.1 (subst (λ (n : ℕ). slice_get rows n ≡ Some r) (sym m.2) g))

    pub rows_more : (id : ℕ) → id ≡ get_or own k 0 → (d : R) → is_row (term_at ts id) d → k < length own → (n : ℕ) → n ≡ id → Rows ts own is_row (set rows n d) (k + 1)
    rows_more id e d h l n f = record { says = says }
      where
        says : (m : ℕ) (r : R) → m < k + 1 → slice_get (set rows n d) (get_or own m 0) ≡ Some r → is_row (term_at ts (get_or own m 0)) r
        says m r a g = elim (get_set rows n (get_or own m 0) d r g) [
          | inl p ↦ subst (λ (j : ℕ). is_row (term_at ts j) r) (sym (p.0 ∙ f)) (subst (λ x. is_row (term_at ts id) x) p.1 h)
          | inr p ↦ elim (cases_lt m k) [
            | inl b ↦ w.says m r b p.1
            | inr b ↦ absurd (p.0 (let g : m ≡ k = omega arith in ap (λ (i : ℕ). get_or own i 0) g ∙ sym e ∙ sym f))
          ]
        ]

    pub rows_end : (r : R) → k ≡ length own → slice_get rows root ≡ Some r → is_row (term_at ts root) r
    rows_end r e g =
        subst (λ (n : ℕ). is_row (term_at ts n) r) o.last
        (w.says (length own - 1) r (omega (arith, o.some)) (subst (λ (n : ℕ). slice_get rows n ≡ Some r) (sym o.last) g))
