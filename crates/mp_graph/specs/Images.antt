-- Tables by the numbers of nodes.
use Rattle.std.specs.Prelude.{◌≡◌, ◌<◌, ◌⊎◌, ℕ, Bool, true, false, List, length, slice_index, slice_index_or, slice_get, Some}
use Rattle.std.specs.List.{Contains}
use Rattle.mp_semantics.specs.Term.{Term, leaf, negative, binary, power_of, pick}
use Rattle.mp_graph.specs.Shared.{Shared, term_at, Says}
use Rattle.mp_graph.specs.Part.{IsPart, IsIn}
use Rattle.mp_graph.specs.declared.images.Images.{Images}

-- at the place of each operand of this number stands the number of its image
abbrev pub HasImages : Shared → List ℕ → ℕ → (Term → Term) → Type 0
HasImages g table id image =
    (i : ℕ) → i < id → IsPart (term_at g.terms i) (term_at g.terms id) → Says g (slice_index table i) (image (term_at g.terms i))

-- a term with the images of its operands in place of them; a leaf stays
abbrev pub over_images : (Term → Term) → Term → Term
over_images image (leaf l) = leaf l
over_images image (negative a) = negative (image a)
over_images image (binary o a b) = binary o (image a) (image b)
over_images image (power_of a k) = power_of (image a) k
over_images image (pick a b c d) = pick (image a) (image b) (image c) (image d)

-- at the place of each operand of this number stands its row
abbrev pub HasRows : {R : Type 0} → List Term → List R → ℕ → (Term → R → Type 0) → Type 0
HasRows {R} ts rows id is_row =
    (i : ℕ) (r : R) → i < id → slice_get rows i ≡ Some r → IsPart (term_at ts i) (term_at ts id) → is_row (term_at ts i) r

-- this number has an image, or has none yet
abbrev pub IsKnown : List Bool → ℕ → Type 0
IsKnown known i = slice_index_or known i false ≡ true

abbrev pub IsUnknown : List Bool → ℕ → Type 0
IsUnknown known i = slice_index_or known i false ≡ false

-- at the place of each number that is known stands the number of its image
pub record AreImages (g : Shared) (images : Images) (image : Term → Term) : Type 0 where
  pub room : (i : ℕ) → IsKnown images.known.items i → i < length images.table.items
  pub within : (i : ℕ) → IsKnown images.known.items i → i < length g.terms
  pub says : (i : ℕ) → IsKnown images.known.items i → Says g (slice_index images.table.items i) (image (term_at g.terms i))

-- the first number is that of an operand of the second
pub record IsKid (ts : List Term) (i id : ℕ) : Type 0 where
  pub below : i < id
  pub part : IsPart (term_at ts i) (term_at ts id)

-- numbers that stand in the node of this number, those of operands after those that need them, so that all are known once the last are, one after the other, and so is it
pub record AreOpen (ts : List Term) (known : List Bool) (root : ℕ) (ids : List ℕ) : Type 0 where
  pub start : IsKnown known root ⊎ Contains ids root
  pub within : (q : ℕ) → Contains ids q → q < length ts
  pub only : (q : ℕ) → Contains ids q → IsIn (term_at ts q) (term_at ts root)
  pub closed : (k i : ℕ) → k < length ids → IsUnknown known (slice_index ids k) → IsKid ts i (slice_index ids k) → IsKnown known i ⊎ ((m : ℕ) × (k < m) × (m < length ids) × (slice_index ids m ≡ i))
