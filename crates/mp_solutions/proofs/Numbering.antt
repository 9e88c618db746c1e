-- Each auxiliary stands in the list at the place that `stand_in` says.
use Rattle.std.proofs.Common.{◌≡◌, sym, ℕ, suc, zero, ◌+◌, ◌-◌, ◌<◌, false, Some, List, [], ◌∷◌, ◌++◌, length, refl, ap, ◌∙◌, subst, arith, ltb, inl, inr}
use Rattle.std.specs.Prelude.{slice_get}
use Rattle.std.specs.List.{AllByRecursion as Each}
use Rattle.std.proofs.lemmas.Bool.{cases_lt, le-ltb}
use Rattle.std.proofs.lemmas.List.{length-append}
use Rattle.std.proofs.lemmas.Option.{none-some, same_Some}
use Rattle.mp_solutions.specs.Auxiliaries.{Direction, lead, lag, Auxiliary, Lengths, chain, auxiliaries, stand_in}
use Rattle.mp_solutions.proofs.Lists.{each_append, get_left, get_right, get_split}

abbrev pub auxiliary : ℕ → Direction → ℕ → Auxiliary
auxiliary v d k = record { place = v; direction = d; index = k }

abbrev pub block : Lengths → ℕ → List Auxiliary
block len v = chain v lead (len lead v) ++ chain v lag (len lag v)

length-chain : (v : ℕ) (d : Direction) (n : ℕ) → length (chain v d n) ≡ n
length-chain v d zero = refl
length-chain v d (suc n) = omega (arith, length-append (chain v d n) (auxiliary v d n ∷ []), length-chain v d n)

chain_get : (v : ℕ) (d : Direction) (n k : ℕ) → k < n → slice_get (chain v d n) k ≡ Some (auxiliary v d k)
chain_get v d zero k h = absurd (omega arith)
chain_get v d (suc n) k h = elim (cases_lt k n) [
  | inl l ↦ get_left (chain v d n) _ k _ (chain_get v d n k l)
  | inr l ↦
      let e : n ≡ k = omega arith in
      get_right (chain v d n) (auxiliary v d n ∷ []) k 0 (omega (arith, length-chain v d n)) ∙ ap (λ (i : ℕ). Some (auxiliary v d i)) e
]

auxiliaries_get : (len : Lengths) (n v i k : ℕ) (a : Auxiliary) → v < n → i ≡ length (auxiliaries len v) + k → slice_get (block len v) k ≡ Some a → slice_get (auxiliaries len n) i ≡ Some a
auxiliaries_get len zero v i k a h e g = absurd (omega arith)
auxiliaries_get len (suc n) v i k a h e g = elim (cases_lt v n) [
  | inl l ↦ get_left (auxiliaries len n) (block len n) i a (auxiliaries_get len n v i k a l e g)
  | inr l ↦
      let s : v ≡ n = omega arith in
      get_right (auxiliaries len n) (block len n) i k (subst (λ (u : ℕ). i ≡ length (auxiliaries len u) + k) s e)
      ∙ subst (λ (u : ℕ). slice_get (block len u) k ≡ Some a) s g
]

pub stand_in_get : (len : Lengths) (n v : ℕ) (d : Direction) (k : ℕ) → v < n → k < len d v
    → slice_get (auxiliaries len n) (stand_in len n v d (suc k) - n) ≡ Some (auxiliary v d k)
stand_in_get len n v lead k h l =
    auxiliaries_get len n v _ k _ h (omega arith) (get_left (chain v lead (len lead v)) _ k _ (chain_get v lead (len lead v) k l))
stand_in_get len n v lag k h l =
    auxiliaries_get len n v _ (len lead v + k) _ h (omega arith)
    (get_right (chain v lead (len lead v)) (chain v lag (len lag v)) _ k (omega (arith, length-chain v lead (len lead v))) ∙ chain_get v lag (len lag v) k l)

pub stand_in_above : (len : Lengths) (n v : ℕ) (d : Direction) (k : ℕ) → ltb (stand_in len n v d (suc k)) n ≡ false
stand_in_above len n v lead k = le-ltb _ _ (omega arith)
stand_in_above len n v lag k = le-ltb _ _ (omega arith)

each_chain : (P : Auxiliary → Type 0) (v : ℕ) (d : Direction) (n : ℕ) → ((k : ℕ) → k < n → P (auxiliary v d k)) → Each P (chain v d n)
each_chain P v d zero h = tt
each_chain P v d (suc n) h = each_append P (chain v d n) (auxiliary v d n ∷ []) (each_chain P v d n (λ k l. h k (omega arith))) (h n (omega arith), tt)

pub each_auxiliary : (P : Auxiliary → Type 0) (len : Lengths) (n : ℕ) → ((v : ℕ) (d : Direction) (k : ℕ) → v < n → k < len d v → P (auxiliary v d k)) → Each P (auxiliaries len n)
each_auxiliary P len zero h = tt
each_auxiliary P len (suc n) h =
    each_append P (auxiliaries len n) (block len n) (each_auxiliary P len n (λ v d k l m. h v d k (omega arith) m))
    (each_append P (chain n lead (len lead n)) (chain n lag (len lag n))
    (each_chain P n lead (len lead n) (λ k l. h n lead k (omega arith) l))
    (each_chain P n lag (len lag n) (λ k l. h n lag k (omega arith) l)))

-- ---- and back: what stands at a place of the list stands in from there
pub chain_at : (v : ℕ) (d : Direction) (n k : ℕ) (a : Auxiliary) → slice_get (chain v d n) k ≡ Some a → a ≡ auxiliary v d k
chain_at v d zero k a e = absurd (none-some a e)
chain_at v d (suc n) k a e = elim (get_split (chain v d n) (auxiliary v d n ∷ []) k a e) [
  | inl l ↦ chain_at v d n k a l
  | inr r ↦ at r.0 (let p = r.1 in omega (arith, length-chain v d n)) r.2
]
  where
    at : (j : ℕ) → k ≡ n + j → slice_get (auxiliary v d n ∷ []) j ≡ Some a → a ≡ auxiliary v d k
    at zero p g = sym (same_Some _ _ g) ∙ ap (auxiliary v d) (omega arith)
    at (suc j) p g = absurd (none-some a g)

-- the place of an auxiliary in the list
abbrev pub spot : Lengths → Auxiliary → ℕ
spot len a = stand_in len 0 a.place a.direction (suc a.index)

block_at : (len : Lengths) (v k : ℕ) (a : Auxiliary) → slice_get (block len v) k ≡ Some a → spot len a ≡ length (auxiliaries len v) + k
block_at len v k a e = elim (get_split (chain v lead (len lead v)) (chain v lag (len lag v)) k a e) [
  | inl l ↦ ap (spot len) (chain_at v lead (len lead v) k a l) ∙ omega arith
  | inr r ↦ let p = r.1 in ap (spot len) (chain_at v lag (len lag v) r.0 a r.2) ∙ omega (arith, length-chain v lead (len lead v))
]

pub auxiliaries_at : (len : Lengths) (n i : ℕ) (a : Auxiliary) → slice_get (auxiliaries len n) i ≡ Some a → spot len a ≡ i
auxiliaries_at len zero i a e = absurd (none-some a e)
auxiliaries_at len (suc n) i a e = elim (get_split (auxiliaries len n) (block len n) i a e) [
  | inl l ↦ auxiliaries_at len n i a l
  | inr r ↦ block_at len n r.0 a r.2 ∙ sym r.1
]

stand_in_place : (len : Lengths) (n v : ℕ) (d : Direction) (k : ℕ) → stand_in len n v d (suc k) ≡ n + stand_in len 0 v d (suc k)
stand_in_place len n v lead k = omega arith
stand_in_place len n v lag k = omega arith

pub stand_in_at : (len : Lengths) (n i : ℕ) (a : Auxiliary) → slice_get (auxiliaries len n) i ≡ Some a → stand_in len n a.place a.direction (suc a.index) ≡ n + i
stand_in_at len n i a e = stand_in_place len n a.place a.direction a.index ∙ ap (λ (j : ℕ). n + j) (auxiliaries_at len n i a e)
