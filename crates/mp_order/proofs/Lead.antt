-- A search finds what reaches its start.
use Rattle.std.proofs.Common.{◌≡◌, ◌<◌, ◌+◌, inl, inr, ℕ, zero, suc, Bool, true, List, length, get_or, sym, ap, ◌∙◌, subst, arith}
use Rattle.std.proofs.lemmas.Bool.{cases_eq}
use Rattle.mp_pairing.specs.Lists.{Has}
use Rattle.mp_pairing.specs.Blocks.{Steps, none, more}
use Rattle.mp_incidence.specs.Search.{LeadTo}
use Rattle.mp_incidence.specs.Tables.{cell, IsRowFor}
use Rattle.mp_order.specs.Placing.{IsLinked, ReachesBack}

found_leads : (t : List (List Bool)) (b : ℕ) (nodes via : List ℕ) → LeadTo t b nodes via → (m j : ℕ) → j < m → j < length nodes → Steps (IsLinked t) (get_or nodes j 0) b
found_leads t b nodes via l zero j h k = absurd (omega arith)
found_leads t b nodes via l (suc m) j h k =
    elim (cases_eq j 0) [
      | inl q ↦ subst (λ x. Steps (IsLinked t) x b) (sym (ap (λ (i : ℕ). get_or nodes i 0) q ∙ l.first)) (none b)
      | inr ne ↦
          let e = l.earlier j (omega arith) k in
          let p = get_or via j 0 in
          more (get_or nodes j 0) (get_or nodes p 0) b
          (record { from = l.within j k; to = l.within p (omega arith); set = l.linked j (omega arith) k })
          (found_leads t b nodes via l m p (omega arith) (omega arith))
    ]

leads_found : (t : List (List Bool)) (b : ℕ) (nodes via : List ℕ) → LeadTo t b nodes via → (a c : ℕ) → Steps (IsLinked t) a c → Has nodes c → Has nodes a
leads_found t b nodes via l a c (none x) has = has
leads_found t b nodes via l a c (more x y z e s) has =
    let h = leads_found t b nodes via l y z s has in
    l.closed x h.0 e.from h.1 (subst (λ k. cell t x k ≡ true) (sym h.2) e.set)

pub found_row : (t : List (List Bool)) (b : ℕ) (nodes via : List ℕ) (marks : List Bool) → LeadTo t b nodes via → IsRowFor (Has nodes) (length t) marks → IsRowFor (ReachesBack t b) (length t) marks
found_row t b nodes via marks l row = record {
  size = row.size;
  each = λ a h.
      let r = row.each a h in (
        (λ e. let has = r.0 e in subst (λ x. Steps (IsLinked t) x b) has.2 (found_leads t b nodes via l (has.0 + 1) has.0 (omega arith) has.1)),
        (λ s. r.1 (leads_found t b nodes via l a b s (0, l.some, l.first))),
      );
}

pub steps_along : (E : ℕ → ℕ → Type 0) (a b c : ℕ) → Steps E a b → Steps E b c → Steps E a c
steps_along E a b c (none x) s = s
steps_along E a b c (more x y z e r) s = more x y c e (steps_along E y z c r s)

pub steps_map : (E F : ℕ → ℕ → Type 0) → ((a b : ℕ) → E a b → F a b) → (a b : ℕ) → Steps E a b → Steps F a b
steps_map E F f a b (none x) = none x
steps_map E F f a b (more x y z e r) = more x y z (f x y e) (steps_map E F f y z r)
