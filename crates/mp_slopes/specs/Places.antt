-- The variables and shifts that occur in an expression.
use Rattle.std.specs.Prelude.{◌≡◌, ◌⊎◌, ℤ, List, []}
use Rattle.std.specs.BTreeSet.{insert_key}
use Rattle.std.specs.Ordering.{nat_cmp, int_cmp, ordering_then}
use Rattle.std.specs.declared.cmp.Ordering.{Ordering}
use Rattle.std.specs.declared.cmp.Ordering.TheVariants.{Less, Greater}
use Rattle.mp_semantics.specs.Term.{Variable, endogenous, exogenous, Leaf, number, parameter, variable, steady_state, Term, leaf, negative, binary, power_of, pick}

-- a variable of so many periods later
pub record Place : Type 0 where
  pub x : Variable
  pub shift : ℤ

-- endogenous variables stand before exogenous ones, each by their number
abbrev pub variable_cmp : Variable → Variable → Ordering
variable_cmp (endogenous m) (endogenous n) = nat_cmp m n
variable_cmp (endogenous m) (exogenous n) = Less
variable_cmp (exogenous m) (endogenous n) = Greater
variable_cmp (exogenous m) (exogenous n) = nat_cmp m n

-- by variable, then by shift
abbrev pub place_cmp : Place → Place → Ordering
place_cmp p q = ordering_then (variable_cmp p.x q.x) (int_cmp p.shift q.shift)

abbrev pub leaf_place : Leaf → List Place → List Place
leaf_place (number m s) ps = ps
leaf_place (parameter p) ps = ps
leaf_place (variable y j) ps = insert_key place_cmp ps record { x = y; shift = j }
leaf_place (steady_state y) ps = ps

-- these places and those of the expression, each once, in order
abbrev pub with_places : Term → List Place → List Place
with_places (leaf l) ps = leaf_place l ps
with_places (negative a) ps = with_places a ps
with_places (binary op a b) ps = with_places b (with_places a ps)
with_places (power_of a k) ps = with_places a ps
with_places (pick a b c d) ps = with_places d (with_places c (with_places b (with_places a ps)))

-- the places of an expression
abbrev pub places : Term → List Place
places t = with_places t []

-- variable x of so many periods later stands in it
abbrev pub Occurs : Place → Term → Type 0
Occurs p (leaf l) = l ≡ variable p.x p.shift
Occurs p (negative a) = Occurs p a
Occurs p (binary op a b) = Occurs p a ⊎ Occurs p b
Occurs p (power_of a k) = Occurs p a
Occurs p (pick a b c d) = (Occurs p a ⊎ Occurs p b) ⊎ (Occurs p c ⊎ Occurs p d)
