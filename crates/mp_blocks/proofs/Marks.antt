-- Marks that are added, and what stands in a term.
use Rattle.std.proofs.Common.{◌≡◌, ◌<◌, ◌+◌, ◌⊎◌, ◌↔◌, inl, inr, ℕ, Bool, true, false, List, length, get_or, set, refl, sym, ◌∙◌, subst, arith}
use Rattle.std.proofs.lemmas.Bool.{cases_eq}
use Rattle.std.proofs.lemmas.List.{length-set, get_or-set_same, get_or-set_other}
use Rattle.mp_semantics.specs.Term.{Term, leaf, negative, binary, power_of, pick}
use Rattle.mp_graph.specs.Shared.{term_at}
use Rattle.mp_graph.specs.Part.{IsPart, IsIn, whole, part}
use Rattle.mp_graph.specs.Own.{AreOwn}
use Rattle.mp_blocks.specs.Marks.{AddsMarks, IsAmong, IsVariable}
use Rattle.mp_blocks.specs.Rows.{StandsIn}

pub marks_set : (P : ℕ → Type 0) (old : List Bool) (u : ℕ) → u < length old → ((v : ℕ) → P v ↔ (u ≡ v)) → AddsMarks P old (set old u true)
marks_set P old u h is = record {
  size = length-set old u true;
  each = λ v l. elim (cases_eq v u) [
    | inl same ↦ ((λ _. inr ((is v).1 (sym same))), (λ _. rw same (get_or-set_same old u true false h)))
    | inr ne ↦
        let e = get_or-set_other old u v true false ne in (
          (λ s. inl (sym e ∙ s)),
          (λ o. elim o [
            | inl s ↦ e ∙ s
            | inr p ↦ absurd (ne (sym ((is v).0 p)))
          ]),
        )
  ];
}

pub marks_same : (P : ℕ → Type 0) (old : List Bool) → ((v : ℕ) → v < length old → P v → ⊥) → AddsMarks P old old
marks_same P old none = record {
  size = refl;
  each = λ v l. (
    (λ s. inl s),
    (λ o. elim o [
      | inl s ↦ s
      | inr p ↦ absurd (none v l p)
    ]),
  );
}

pub marks_as : (P Q : ℕ → Type 0) (old new : List Bool) → ((v : ℕ) → P v ↔ Q v) → AddsMarks P old new → AddsMarks Q old new
marks_as P Q old new is a = record {
  size = a.size;
  each = λ v l. let w = a.each v l in (
    (λ s. elim (w.0 s) [
      | inl o ↦ inl o
      | inr p ↦ inr ((is v).0 p)
    ]),
    (λ o. elim o [
      | inl s ↦ w.1 (inl s)
      | inr q ↦ w.1 (inr ((is v).1 q))
    ]),
  );
}

pub marks_both : (P Q : ℕ → Type 0) (old mid new : List Bool) → AddsMarks P old mid → AddsMarks Q mid new → AddsMarks (λ v. P v ⊎ Q v) old new
marks_both P Q old mid new a b = record {
  size = b.size ∙ a.size;
  each = λ v l.
      let size = a.size in
      let w = a.each v l in
      let x = b.each v (omega arith) in (
        (λ s. elim (x.0 s) [
          | inl m ↦ elim (w.0 m) [
            | inl o ↦ inl o
            | inr p ↦ inr (inl p)
          ]
          | inr q ↦ inr (inr q)
        ]),
        (λ o. elim o [
          | inl s ↦ x.1 (inl (w.1 (inl s)))
          | inr r ↦ elim r [
            | inl p ↦ x.1 (inl (w.1 (inr p)))
            | inr q ↦ x.1 (inr q)
          ]
        ]),
      );
}

among_more : (ts : List Term) (ids : List ℕ) (i v : ℕ) → (IsAmong ts ids i v ⊎ IsVariable v (term_at ts (get_or ids i 0))) ↔ IsAmong ts ids (i + 1) v
among_more ts ids i v = (
  (λ o. elim o [
    | inl a ↦ (a.0, omega (arith, a.1), a.2)
    | inr x ↦ (i, omega arith, x)
  ]),
  (λ a. elim (cases_eq a.0 i) [
    | inl same ↦ inr (subst (λ (k : ℕ). IsVariable v (term_at ts (get_or ids k 0))) same a.2)
    | inr ne ↦ inl (a.0, omega (arith, a.1, ne), a.2)
  ]),
)

pub nodes_none : (ts : List Term) (ids : List ℕ) (old : List Bool) → AddsMarks (IsAmong ts ids 0) old old
nodes_none ts ids old = marks_same (IsAmong ts ids 0) old (λ v l a. omega (arith, a.1))

pub nodes_more : (ts : List Term) (ids : List ℕ) (i : ℕ) (old mid new : List Bool) → AddsMarks (IsAmong ts ids i) old mid
    → AddsMarks (λ v. IsVariable v (term_at ts (get_or ids i 0))) mid new → AddsMarks (IsAmong ts ids (i + 1)) old new
nodes_more ts ids i old mid new a b =
    let P = λ (v : ℕ). IsAmong ts ids i v in
    let Q = λ (v : ℕ). IsVariable v (term_at ts (get_or ids i 0)) in
    marks_as (λ v. P v ⊎ Q v) (IsAmong ts ids (i + 1)) old new (among_more ts ids i) (marks_both P Q old mid new a b)

variable_stands : (v : ℕ) (u : Term) → IsVariable v u → StandsIn v u
variable_stands v (leaf l) s = s
variable_stands v (negative a) s = absurd s
variable_stands v (binary o a b) s = absurd s
variable_stands v (power_of a k) s = absurd s
variable_stands v (pick a b c d) s = absurd s

part_stands : (v : ℕ) (t u : Term) → IsPart t u → StandsIn v t → StandsIn v u
part_stands v t (leaf l) p s = absurd p
part_stands v t (negative a) p s = subst (λ (x : Term). StandsIn v x) p s
part_stands v t (binary o a b) (inl p) s = inl (subst (λ (x : Term). StandsIn v x) p s)
part_stands v t (binary o a b) (inr p) s = inr (subst (λ (x : Term). StandsIn v x) p s)
part_stands v t (power_of a k) p s = subst (λ (x : Term). StandsIn v x) p s
part_stands v t (pick a b c d) (inl (inl p)) s = inl (inl (subst (λ (x : Term). StandsIn v x) p s))
part_stands v t (pick a b c d) (inl (inr p)) s = inl (inr (subst (λ (x : Term). StandsIn v x) p s))
part_stands v t (pick a b c d) (inr (inl p)) s = inr (inl (subst (λ (x : Term). StandsIn v x) p s))
part_stands v t (pick a b c d) (inr (inr p)) s = inr (inr (subst (λ (x : Term). StandsIn v x) p s))

in_stands : (v : ℕ) (t u : Term) → IsIn t u → StandsIn v t → StandsIn v u
in_stands v t u (whole w) s = s
in_stands v t u (part a b c q i) s = part_stands v b c q (in_stands v a b i s)

found_in : (v : ℕ) (t : Term) → StandsIn v t → (u : Term) × IsIn u t × IsVariable v u
found_in v (leaf l) s = (leaf l, whole (leaf l), s)
found_in v (negative a) s = let r = found_in v a s in (r.0, part r.0 a (negative a) refl r.1, r.2)
found_in v (binary o a b) (inl s) = let r = found_in v a s in (r.0, part r.0 a (binary o a b) (inl refl) r.1, r.2)
found_in v (binary o a b) (inr s) = let r = found_in v b s in (r.0, part r.0 b (binary o a b) (inr refl) r.1, r.2)
found_in v (power_of a k) s = let r = found_in v a s in (r.0, part r.0 a (power_of a k) refl r.1, r.2)
found_in v (pick a b c d) (inl (inl s)) = let r = found_in v a s in (r.0, part r.0 a (pick a b c d) (inl (inl refl)) r.1, r.2)
found_in v (pick a b c d) (inl (inr s)) = let r = found_in v b s in (r.0, part r.0 b (pick a b c d) (inl (inr refl)) r.1, r.2)
found_in v (pick a b c d) (inr (inl s)) = let r = found_in v c s in (r.0, part r.0 c (pick a b c d) (inr (inl refl)) r.1, r.2)
found_in v (pick a b c d) (inr (inr s)) = let r = found_in v d s in (r.0, part r.0 d (pick a b c d) (inr (inr refl)) r.1, r.2)

pub own_marks : (ts : List Term) (root : ℕ) (ids : List ℕ) (old new : List Bool) → AreOwn ts root ids
    → ((t : Term) → IsIn t (term_at ts root) → (k : ℕ) × (k < length ids) × (term_at ts (get_or ids k 0) ≡ t))
    → AddsMarks (IsAmong ts ids (length ids)) old new → AddsMarks (λ v. StandsIn v (term_at ts root)) old new
own_marks ts root ids old new own all a =
    marks_as (IsAmong ts ids (length ids)) (λ v. StandsIn v (term_at ts root)) old new
    (λ v. (
      (λ w. let u = term_at ts (get_or ids w.0 0) in in_stands v u (term_at ts root) (own.only w.0 w.1) (variable_stands v u w.2)),
      (λ s. let f = found_in v (term_at ts root) s in let k = all f.0 f.1 in (k.0, k.1, subst (λ (t : Term). IsVariable v t) (sym k.2) f.2)),
    ))
    a
