-- What an exchange gives, and when there is none.
use Rattle.std.proofs.Common.{◌≡◌, ◌<◌, ◌≤◌, ◌+◌, ◌⊎◌, inl, inr, ℕ, Bool, true, false, List, length, get_or, Some, None, refl, sym, ap, ◌∙◌, subst, arith}
use Rattle.std.proofs.lemmas.Bool.{cases_eq, cases_lt}
use Rattle.mp_pairing.specs.Lists.{Has}
use Rattle.mp_incidence.specs.Links.{MayTake}
use Rattle.mp_pairing.specs.Pairing.{AgreeBefore}
use Rattle.mp_incidence.specs.Search.{LeadTo}
use Rattle.mp_incidence.specs.Tables.{cell, IsTableFor}
use Rattle.mp_incidence.proofs.Pigeon.{pigeon, find, has_or, onto}
use Rattle.mp_match.specs.Held.{IsAll, IsTree, IsRotated, IsChosen, HoldsBefore, HoldsButOne, IsSettled, IsStuck}

-- the places of a search, and what it is closed under, by the meaning of the links
pub record IsExchange (t : List (List Bool)) (f : List ℕ) (low high k : ℕ) (nodes via : List ℕ) : Type 0 where
  pub tree : IsTree (length t) nodes via
  pub first : get_or nodes 0 0 ≡ k
  pub linked : (j : ℕ) → 0 < j → j < length nodes → MayTake t f low high (get_or nodes j 0) (get_or nodes (get_or via j 0) 0)
  pub closed : (a b : ℕ) → a < length t → Has nodes b → MayTake t f low high a b → Has nodes a

pub as_exchange : (t links : List (List Bool)) (f : List ℕ) (low high k : ℕ) (nodes via : List ℕ) → IsTableFor (MayTake t f low high) (length t) (length t) links
    → LeadTo links k nodes via → IsExchange t f low high k nodes via
as_exchange t links f low high k nodes via table lead =
    let size = table.count in
    let within : (j : ℕ) → j < length nodes → get_or nodes j 0 < length t = λ j h. let w = lead.within j h in omega arith in
    record {
      tree = record { some = lead.some; count = lead.count; within = within; once = lead.once; earlier = lead.earlier };
      first = lead.first;
      linked = λ j h l. let e = lead.earlier j h l in
          ((table.rows (get_or nodes j 0) (within j l)).each (get_or nodes (get_or via j 0) 0) (within (get_or via j 0) (omega arith))).0 (lead.linked j h l);
      closed = λ a b h has may.
          let wb = within has.0 has.1 in
          let e = has.2 in
          lead.closed a has.0 (omega arith) has.1
          (subst (λ x. cell links a x ≡ true) (sym e) (((table.rows a h).each b (omega arith)).1 may));
    }

-- place s serves for node i, or for k
abbrev Serves : List ℕ → List ℕ → List ℕ → ℕ → ℕ → Type 0
Serves f h nodes i s = ((i < length nodes) × (get_or h (get_or nodes s 0) 0 ≡ get_or f (get_or nodes i 0) 0)) ⊎ ((i ≡ length nodes) × (s ≡ 0))

serves : (t : List (List Bool)) (f h : List ℕ) (low high k : ℕ) (nodes via : List ℕ) → IsExchange t f low high k nodes via → IsAll f (length t) → IsAll h (length t)
    → HoldsBefore t high h → AgreeBefore low f h → (i : ℕ) → i < length nodes + 1 → (s : ℕ) × (s < length nodes) × Serves f h nodes i s
serves t f h low high k nodes via x all_f all_h holds agree i l =
    elim (cases_lt i (length nodes)) [
      | inr more ↦ (0, x.tree.some, inr (omega arith, refl))
      | inl less ↦
          let r = get_or nodes i 0 in
          let hr = x.tree.within i less in
          let o = onto h (length t) all_h.count all_h.once all_h.below (get_or f r 0) (all_f.below r hr) in
          let p = o.0 in
          let size = all_f.count in
          let below = o.1 in
          let has : Has nodes p = elim (cases_lt p low) [
            | inl frozen ↦ let same : p ≡ r = all_f.once p r (omega arith) (omega arith) (agree p frozen ∙ o.2) in subst (λ y. Has nodes y) (sym same) (i, less, refl)
            | inr free ↦ x.closed p r o.1 (i, less, refl) (
              free,
              elim (cases_lt p high) [
                | inl in' ↦ inr (subst (λ v. cell t p v ≡ true) o.2 (holds p in'))
                | inr out ↦ inl out
              ],
            )
          ] in
          (has.0, has.1, inl (less, subst (λ y. get_or h y 0 ≡ get_or f r 0) (sym has.2) o.2))
    ]

serves_apart : (t : List (List Bool)) (f h : List ℕ) (low high k : ℕ) (nodes via : List ℕ) → IsExchange t f low high k nodes via → IsAll f (length t)
    → ((i : ℕ) → i < length nodes → get_or f (get_or nodes i 0) 0 ≡ get_or h k 0 → ⊥)
    → (i j s : ℕ) → Serves f h nodes i s → Serves f h nodes j s → i ≡ j
serves_apart t f h low high k nodes via x all_f none i j s (inl p) (inl q) =
    let size = all_f.count in
    let a = x.tree.within i p.0 in
    let b = x.tree.within j q.0 in
    x.tree.once i j p.0 q.0 (all_f.once (get_or nodes i 0) (get_or nodes j 0) (omega arith) (omega arith) (sym p.1 ∙ q.1))
serves_apart t f h low high k nodes via x all_f none i j s (inl p) (inr q) =
    absurd (none i p.0 (sym p.1 ∙ ap (λ (y : ℕ). get_or h (get_or nodes y 0) 0) q.1 ∙ ap (λ (y : ℕ). get_or h y 0) x.first))
serves_apart t f h low high k nodes via x all_f none i j s (inr p) (inl q) =
    absurd (none j q.0 (sym q.1 ∙ ap (λ (y : ℕ). get_or h (get_or nodes y 0) 0) p.1 ∙ ap (λ (y : ℕ). get_or h y 0) x.first))
serves_apart t f h low high k nodes via x all_f none i j s (inr p) (inr q) = p.0 ∙ sym q.0

-- what another matching gives k, some node holds
pub owner_found : (t : List (List Bool)) (f h : List ℕ) (low high k : ℕ) (nodes via : List ℕ) → IsExchange t f low high k nodes via → IsAll f (length t) → IsAll h (length t)
    → HoldsBefore t high h → AgreeBefore low f h → (i : ℕ) × (i < length nodes) × (get_or f (get_or nodes i 0) 0 ≡ get_or h k 0)
owner_found t f h low high k nodes via x all_f all_h holds agree =
    elim (find (λ i. get_or f (get_or nodes i 0) 0) (get_or h k 0) (length nodes)) [
      | inl found ↦ found
      | inr none ↦ absurd (
          let more : length nodes + 1 ≤ length nodes = pigeon (length nodes + 1) (length nodes) (Serves f h nodes)
          (serves t f h low high k nodes via x all_f all_h holds agree)
          (λ i j s l m p q. serves_apart t f h low high k nodes via x all_f none i j s p q) in
          omega arith)
    ]

holds_at : (t : List (List Bool)) (f g : List ℕ) (low high k : ℕ) (nodes via : List ℕ) (last j : ℕ) → IsExchange t f low high k nodes via → HoldsButOne t high k f
    → IsRotated nodes via last f g → cell t k (get_or f (get_or nodes last 0) 0) ≡ true → j < length nodes → get_or nodes j 0 < high
    → cell t (get_or nodes j 0) (get_or g (get_or nodes j 0) 0) ≡ true
holds_at t f g low high k nodes via last j x holds r fits h below =
    elim (cases_eq j 0) [
      | inl e ↦ subst (λ i. cell t (get_or nodes i 0) (get_or g (get_or nodes i 0) 0) ≡ true) (sym e)
          (subst (λ v. cell t (get_or nodes 0 0) v ≡ true) (sym r.first) (subst (λ v. cell t v (get_or f (get_or nodes last 0) 0) ≡ true) (sym x.first) fits))
      | inr ne ↦
          let some : 0 < j = omega arith in
          elim (r.rest j some h) [
            | inl kept ↦ subst (λ v. cell t (get_or nodes j 0) v ≡ true) (sym kept)
                (holds (get_or nodes j 0) below (λ e. ne (x.tree.once j 0 h x.tree.some (e ∙ sym x.first))))
            | inr handed ↦ subst (λ v. cell t (get_or nodes j 0) v ≡ true) (sym handed)
                (elim (x.linked j some h).1 [ inl out ↦ absurd (omega arith) | inr c ↦ c ])
          ]
    ]

pub settled : (t : List (List Bool)) (f g : List ℕ) (low high k last : ℕ) (nodes via : List ℕ) → IsExchange t f low high k nodes via
    → IsAll f (length t) → low ≤ k → k < high → HoldsButOne t high k f → IsChosen t f nodes k (length nodes) (Some last) → IsAll g (length t) → IsRotated nodes via last f g
    → IsSettled t low high k f g
settled t f g low high k last nodes via x all_f le lt holds best all_g r =
    let root : Has nodes k = (0, x.tree.some, x.first) in
    record {
      all = all_g;
      kept = λ e h. r.other e (λ has. elim (cases_eq has.0 0) [
        | inl q ↦ let same : e ≡ k = sym has.2 ∙ ap (λ (j : ℕ). get_or nodes j 0) q ∙ x.first in omega arith
        | inr ne ↦ let m = (x.linked has.0 (omega arith) has.1).0 in let q = has.2 in omega arith
      ]);
      holds = λ e h. elim (has_or nodes e) [
        | inl has ↦ subst (λ d. cell t d (get_or g d 0) ≡ true) has.2
            (holds_at t f g low high k nodes via last has.0 x holds r best.1 has.1 (let q = has.2 in omega arith))
        | inr none ↦ subst (λ v. cell t e v ≡ true) (sym (r.other e none)) (holds e h (λ q. none (subst (λ d. Has nodes d) (sym q) root)))
      ];
      least = λ h all_h holds_h agree.
          let o = owner_found t f h low high k nodes via x all_f all_h holds_h agree in
          let fits : cell t k (get_or f (get_or nodes o.0 0) 0) ≡ true = subst (λ v. cell t k v ≡ true) (sym o.2) (holds_h k lt) in
          let less = best.2 o.0 o.1 fits in
          let q = o.2 in
          let is : get_or g k 0 ≡ get_or f (get_or nodes last 0) 0 = ap (λ (d : ℕ). get_or g d 0) (sym x.first) ∙ r.first in
          omega arith;
    }

pub stuck : (t : List (List Bool)) (f : List ℕ) (low high k : ℕ) (nodes via : List ℕ) → IsExchange t f low high k nodes via
    → IsChosen t f nodes k (length nodes) None → IsStuck t low high k f
stuck t f low high k nodes via x none = record {
  nodes = nodes;
  root = (0, x.tree.some, x.first);
  closed = x.closed;
  none = λ b has. subst (λ d. cell t k (get_or f d 0) ≡ false) has.2 (none has.0 has.1);
}
