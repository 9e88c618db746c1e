-- A node is no higher than its number tells, since its operands stand before it.
use Rattle.std.proofs.Common.{◌≡◌, ℕ, zero, suc, ◌+◌, ◌<◌, ◌≤◌, List, length, min, refl, subst, inl, inr, arith}
use Rattle.std.specs.List.{All}
use Rattle.std.proofs.lemmas.List.Elements.{All-from_get_or}
use Rattle.mp_semantics.specs.Term.{Term, number, leaf, negative, binary, power_of, pick}
use Rattle.mp_expr.specs.Size.{height_of}
use Rattle.mp_graph.specs.Part.{IsPart, HasParts}
use Rattle.mp_graph.specs.Shared.{term_at}

-- one more than the operands
above : (t : Term) (n : ℕ) → ((u : Term) → IsPart u t → height_of u ≤ n) → height_of t ≤ n + 1
above (leaf l) n parts = omega arith
above (negative a) n parts = omega (arith, parts a refl)
above (binary o a b) n parts = omega (arith, parts a (inl refl), parts b (inr refl))
above (power_of a k) n parts = omega (arith, parts a refl)
above (pick a b c d) n parts =
    omega (arith, parts a (inl (inl refl)), parts b (inl (inr refl)), parts c (inr (inl refl)), parts d (inr (inr refl)))

-- an operand of a node, by what is so of the numbers before it
part_low : (ts : List Term) (i : ℕ) → i < length ts → ((j : ℕ) → j < i → height_of (term_at ts j) ≤ i) → HasParts ts → (u : Term) → IsPart u (term_at ts i) → height_of u ≤ i
part_low ts i within before whole u is =
    let found = whole i u within is in subst (λ (t : Term). height_of t ≤ i) found.2 (before found.0 found.1)

low_below : (ts : List Term) → HasParts ts → (n i : ℕ) → i < n → i < length ts → height_of (term_at ts i) ≤ i + 1
low_below ts whole zero i below within = absurd (omega arith)
low_below ts whole (suc n) i below within =
    above (term_at ts i) i (part_low ts i within (λ j less. let low = low_below ts whole n j (omega arith) (omega arith) in omega (arith, low)) whole)

pub low : (ts : List Term) → HasParts ts → (i : ℕ) → i < length ts → height_of (term_at ts i) ≤ i + 1
low ts whole i within = low_below ts whole (suc i) i (omega arith) within

-- so that heights that stop past the greatest number stop nowhere
pub heights_fit : (ts : List Term) (M : ℕ) → length ts ≤ M → HasParts ts → All (λ t. min (height_of t) M ≡ height_of t) ts
heights_fit ts M room whole =
    All-from_get_or (λ t. min (height_of t) M ≡ height_of t) ts (leaf (number 0 0)) (λ i within. omega (arith, low ts whole i within))
