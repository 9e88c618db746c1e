-- Things that each take a place of their own are at most as many as the places.
use Rattle.std.proofs.Common.{◌≡◌, ◌<◌, ◌≤◌, ◌+◌, ◌⊎◌, inl, inr, ℕ, zero, suc, List, length, get_or, refl, sym, ◌∙◌, subst, arith}
use Rattle.std.proofs.lemmas.Bool.{cases_eq, cases_lt}
use Rattle.mp_pairing.specs.Lists.{Has, IsOnce}

-- the place `taken` serves for the last place n
abbrev Moved : (ℕ → ℕ → Type 0) → ℕ → ℕ → ℕ → ℕ → Type 0
Moved P n taken i s = ((s ≡ taken → ⊥) × P i s) ⊎ ((s ≡ taken) × P i n)

moved : (P : ℕ → ℕ → Type 0) (n taken i k : ℕ) → taken < n + 1 → k < n + 1 → (k ≡ taken → ⊥) → P i k → (s : ℕ) × (s < n) × Moved P n taken i s
moved P n taken i k t h ne p =
    elim (cases_eq k n) [
      | inl e ↦ (taken, omega arith, inr (refl, subst (λ s. P i s) e p))
      | inr l ↦ (k, omega arith, inl (ne, p))
    ]

apart_moved : (P : ℕ → ℕ → Type 0) (m n taken : ℕ) → ((i j k : ℕ) → i < m → j < m → P i k → P j k → i ≡ j)
    → (i j s : ℕ) → i < m → j < m → Moved P n taken i s → Moved P n taken j s → i ≡ j
apart_moved P m n taken apart i j s h l (inl p) (inl q) = apart i j s h l p.1 q.1
apart_moved P m n taken apart i j s h l (inl p) (inr q) = absurd (p.0 q.0)
apart_moved P m n taken apart i j s h l (inr p) (inl q) = absurd (q.0 p.0)
apart_moved P m n taken apart i j s h l (inr p) (inr q) = apart i j n h l p.1 q.1

pub pigeon : (m n : ℕ) (P : ℕ → ℕ → Type 0) → ((i : ℕ) → i < m → (k : ℕ) × (k < n) × P i k)
    → ((i j k : ℕ) → i < m → j < m → P i k → P j k → i ≡ j) → m ≤ n
pigeon zero n P place apart = omega arith
pigeon (suc m) zero P place apart = absurd (let h = place m (omega arith) in omega (arith, h.1))
pigeon (suc m) (suc n) P place apart =
    let last = place m (omega arith) in
    let less : m ≤ n = pigeon m n (Moved P n last.0)
    (λ i h. let p = place i (omega arith) in moved P n last.0 i p.0 (omega (arith, last.1)) (omega (arith, p.1))
    (λ e. let same : i ≡ m = apart i m p.0 (omega arith) (omega arith) p.2 (subst (λ s. P m s) (sym e) last.2) in omega arith) p.2)
    (apart_moved P m n last.0 (λ i j k h l. apart i j k (omega arith) (omega arith))) in
    omega arith

-- whether a number below m has this value
pub find : (f : ℕ → ℕ) (x m : ℕ) → ((k : ℕ) × (k < m) × (f k ≡ x)) ⊎ ((k : ℕ) → k < m → f k ≡ x → ⊥)
find f x zero = inr (λ k h e. omega arith)
find f x (suc m) =
    elim (cases_eq (f m) x) [
      | inl e ↦ inl (m, omega arith, e)
      | inr ne ↦ elim (find f x m) [
        | inl h ↦ inl (h.0, omega (arith, h.1), h.2)
        | inr none ↦ inr (λ k h e. elim (cases_eq k m) [
          | inl same ↦ ne (subst (λ s. f s ≡ x) same e)
          | inr l ↦ none k (omega arith) e
        ])
      ]
    ]

pub has_or : (xs : List ℕ) (x : ℕ) → Has xs x ⊎ (Has xs x → ⊥)
has_or xs x =
    elim (find (λ k. get_or xs k 0) x (length xs)) [
      | inl h ↦ inl h
      | inr none ↦ inr (λ h. none h.0 h.1 h.2)
    ]

-- numbers below n with no two equal are at most n
pub length-le : (xs : List ℕ) (n : ℕ) → IsOnce xs → ((k : ℕ) → k < length xs → get_or xs k 0 < n) → length xs ≤ n
length-le xs n once below =
    pigeon (length xs) n (λ i k. k ≡ get_or xs i 0) (λ i h. (get_or xs i 0, below i h, refl)) (λ i j k h l p q. once i j h l (sym p ∙ q))

-- the numbers of f, and then v
abbrev Put : List ℕ → ℕ → ℕ → ℕ → ℕ → Type 0
Put f n v i k = ((i < n) × (k ≡ get_or f i 0)) ⊎ ((i ≡ n) × (k ≡ v))

put : (f : List ℕ) (n v : ℕ) → ((k : ℕ) → k < n → get_or f k 0 < n) → v < n → (i : ℕ) → i < n + 1 → (k : ℕ) × (k < n) × Put f n v i k
put f n v below h i l =
    elim (cases_lt i n) [
      | inl less ↦ (get_or f i 0, below i less, inl (less, refl))
      | inr more ↦ (v, h, inr (omega arith, refl))
    ]

put_apart : (f : List ℕ) (n v : ℕ) → length f ≡ n → IsOnce f → ((k : ℕ) → k < n → get_or f k 0 ≡ v → ⊥)
    → (i j k : ℕ) → Put f n v i k → Put f n v j k → i ≡ j
put_apart f n v size once none i j k (inl p) (inl q) = once i j (omega (arith, p.0)) (omega (arith, q.0)) (sym p.1 ∙ q.1)
put_apart f n v size once none i j k (inl p) (inr q) = absurd (none i p.0 (sym p.1 ∙ q.1))
put_apart f n v size once none i j k (inr p) (inl q) = absurd (none j q.0 (sym q.1 ∙ p.1))
put_apart f n v size once none i j k (inr p) (inr q) = p.0 ∙ sym q.0

-- n numbers below n with no two equal are all of them
pub onto : (f : List ℕ) (n : ℕ) → length f ≡ n → IsOnce f → ((k : ℕ) → k < n → get_or f k 0 < n) → (v : ℕ) → v < n → (e : ℕ) × (e < n) × (get_or f e 0 ≡ v)
onto f n size once below v h =
    elim (find (λ k. get_or f k 0) v n) [
      | inl found ↦ found
      | inr none ↦ absurd (
          let more : n + 1 ≤ n = pigeon (n + 1) n (Put f n v) (put f n v below h) (λ i j k l m p q. put_apart f n v size once none i j k p q) in
          omega arith)
    ]
