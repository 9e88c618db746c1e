-- What stands in a term.
use Rattle.std.specs.Prelude.{◌≡◌, ◌<◌, ◌⊎◌, ℕ, List, length}
use Rattle.mp_semantics.specs.Term.{Term, leaf, negative, binary, power_of, pick}
use Rattle.mp_graph.specs.Shared.{term_at}

-- it is an operand of this term
abbrev pub IsPart : Term → Term → Type 0
IsPart t (leaf l) = ⊥
IsPart t (negative a) = t ≡ a
IsPart t (binary o a b) = (t ≡ a) ⊎ (t ≡ b)
IsPart t (power_of a k) = t ≡ a
IsPart t (pick a b c d) = ((t ≡ a) ⊎ (t ≡ b)) ⊎ ((t ≡ c) ⊎ (t ≡ d))

-- it is this term, or stands in it
pub data IsIn : Term → Term → Type 0 where
  whole : (t : Term) → IsIn t t
  part : (t u v : Term) → IsPart u v → IsIn t u → IsIn t v

-- the operands of each term stand before it
abbrev pub HasParts : List Term → Type 0
HasParts ts = (i : ℕ) (t : Term) → i < length ts → IsPart t (term_at ts i) → (j : ℕ) × (j < i) × (term_at ts j ≡ t)
