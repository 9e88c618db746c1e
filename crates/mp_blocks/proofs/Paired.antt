-- Rows of a square model, and what is counted from 1.
use Rattle.std.proofs.Common.{◌≡◌, ◌<◌, ◌+◌, ◌^◌, inl, inr, ℕ, suc, List, [], length, get_or, map, refl, subst, arith}
use Rattle.std.proofs.lemmas.List.{get_or_past}
use Rattle.std.proofs.lemmas.Option.{slice_get_cases}
use Rattle.mp_semantics.specs.Model.{Model, in_force}
use Rattle.mp_pairing.specs.Lists.{Has}
use Rattle.mp_pairing.specs.Pairing.{Occurs, IsWithin, IsMatching, IsLeast, IsShortSet}
use Rattle.mp_pairing.specs.Blocks.{IsOrder, block}
use Rattle.mp_blocks.specs.Rows.{AreRows, IsSquare}
use Rattle.mp_blocks.specs.Paired.{IsLeastIn}
use Rattle.mp_blocks.proofs.Numbers.{same_places}

past_none : (rows : List (List ℕ)) (e v : ℕ) → length rows < e + 1 → Occurs rows e v → ⊥
past_none rows e v past occurs =
    let h = subst (λ (r : List ℕ). Has r v) (get_or_past rows e [] (omega arith)) occurs in
    let l = h.1 in
    absurd (omega arith)

pub within_of : (M : Model) (rows : List (List ℕ)) → IsSquare M → AreRows M rows → IsWithin rows
within_of M rows square are e v occurs =
    let count = are.count in
    elim ((slice_get_cases (in_force M []) e).1) [
      | inl x ↦ let low = ((are.each e x.0 x.2).only v occurs).0 in omega arith
      | inr past ↦ let far = past.0 in absurd (past_none rows e v (omega arith) occurs)
    ]

occurs_in_both : (M : Model) (rows others : List (List ℕ)) → AreRows M rows → AreRows M others → (e v : ℕ) → Occurs rows e v → Occurs others e v
occurs_in_both M rows others a b e v occurs =
    let count = a.count in
    elim ((slice_get_cases (in_force M []) e).1) [
      | inl x ↦ let o = (a.each e x.0 x.2).only v occurs in (b.each e x.0 x.2).each v o.0 o.1
      | inr past ↦ let far = past.0 in absurd (past_none rows e v (omega arith) occurs)
    ]

pub matching_of : (M : Model) (rows : List (List ℕ)) (variables places : List ℕ) → AreRows M rows → IsLeastIn M variables → variables ≡ map suc places → IsMatching rows (length rows) places
matching_of M rows variables places are least is =
    let same : least.places ≡ places = same_places variables least.places places least.counted is in
    let m = least.least.matching in
    let a = are.count in
    let b = least.are_rows.count in
    let c = m.count in
    subst (λ (f : List ℕ). IsMatching rows (length rows) f) same
    (record {
      count = omega arith;
      incident = λ e l. occurs_in_both M least.rows rows least.are_rows are e (get_or least.places e 0) (m.incident e (omega arith));
      once = m.once;
    })

pub pairs_fit : (rows : List (List ℕ)) (f : List ℕ) → length rows + 1 < 2 ^ 32 → IsWithin rows → IsLeast rows f → (k : ℕ) → k < length f → get_or f k 0 + 1 < 2 ^ 32
pairs_fit rows f small within least k l =
    let count = least.matching.count in
    let low = within k (get_or f k 0) (least.matching.incident k (omega arith)) in
    omega arith

pub members_fit : (rows : List (List ℕ)) (es vs : List ℕ) → length rows + 1 < 2 ^ 32 → IsShortSet rows es vs → (k : ℕ) → k < length es → get_or es k 0 + 1 < 2 ^ 32
members_fit rows es vs small short k l =
    let far = short.first.within in
    let low = short.deficient.below (get_or es k 0) (k, l, refl) in
    omega arith

pub variables_fit : (rows : List (List ℕ)) (es vs : List ℕ) → length rows + 1 < 2 ^ 32 → IsWithin rows → IsShortSet rows es vs → (k : ℕ) → k < length vs → get_or vs k 0 + 1 < 2 ^ 32
variables_fit rows es vs small within short k l =
    let o = short.deficient.variables.only (get_or vs k 0) (k, l, refl) in
    let low = within o.0 (get_or vs k 0) o.2 in
    omega arith

pub blocks_fit : (rows : List (List ℕ)) (f : List ℕ) (bs : List (List ℕ)) → length rows + 1 < 2 ^ 32 → IsOrder rows f bs
    → (p k : ℕ) → p < length bs → k < length (block bs p) → get_or (block bs p) k 0 + 1 < 2 ^ 32
blocks_fit rows f bs small order p k h l =
    let low = (order.blocks p h).within (get_or (block bs p) k 0) (k, l, refl) in
    omega arith
