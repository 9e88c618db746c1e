-- Expressions whose differences can be taken: no variable of the period before is more than 24 periods back (modpath's own).
use Rattle.std.specs.Prelude.{◌≡◌, ℤ, negsuc, ◌≤ℤ◌, List, [], ◌∷◌, Ok}
use Rattle.mp_syntax.specs.Syntax.{Expr, Number, Variable, Signed, Binary, Power, Paren, Call, Diff, Pick}
use Rattle.mp_statements.specs.Statements.{Equation, Item, Local, Equates}
use Rattle.mp_statements.specs.Sides.{right_side}
use Rattle.mp_semantics.specs.Term.{Leaf, variable, Term, leaf, negative, binary, power_of, pick}
use Rattle.mp_values.specs.Names.{Names}
use Rattle.mp_values.specs.ModelOf.{Locals}
use Rattle.mp_values.specs.From.{term_from}

-- each leaf of an expression has this property
abbrev pub AllLeaves : (Leaf → Type 0) → Term → Type 0
AllLeaves P (leaf l) = P l
AllLeaves P (negative a) = AllLeaves P a
AllLeaves P (binary o a b) = AllLeaves P a × AllLeaves P b
AllLeaves P (power_of a k) = AllLeaves P a
AllLeaves P (pick a b c d) = (AllLeaves P a × AllLeaves P b) × (AllLeaves P c × AllLeaves P d)

-- a variable is at most 23 periods back
abbrev pub IsNearLeaf : Leaf → Type 0
IsNearLeaf (variable x k) = negsuc 22 ≤ℤ k
IsNearLeaf _ = Unit {0}

-- the expression of the period before is within the limit of shifts
abbrev pub HasEarlier : Term → Type 0
HasEarlier t = AllLeaves IsNearLeaf t

-- under each `diff` stands an expression that has an earlier one
abbrev pub HasDifferences : Names → Locals → Expr → Type 0
HasDifferences ns ls (Number literal at) = Unit {0}
HasDifferences ns ls (Variable name shift) = Unit {0}
HasDifferences ns ls (Signed s a) = HasDifferences ns ls a
HasDifferences ns ls (Binary o a at b) = HasDifferences ns ls a × HasDifferences ns ls b
HasDifferences ns ls (Power a at s b) = HasDifferences ns ls a
HasDifferences ns ls (Paren a) = HasDifferences ns ls a
HasDifferences ns ls (Call f a b) = HasDifferences ns ls a × HasDifferences ns ls b
HasDifferences ns ls (Diff at a) =
    HasDifferences ns ls a × ((ks js : List ℤ) (t : Term) → term_from ns ls a ks ≡ Ok (t, js) → HasEarlier t)
HasDifferences ns ls (Pick a b c d) = Unit {0}

-- so it is with the sides of an equation
abbrev pub SidesHaveDifferences : Names → Locals → Equation → Type 0
SidesHaveDifferences ns ls x = HasDifferences ns ls x.left × HasDifferences ns ls (right_side x.right)

-- so it is with these items, where a local stands for its expression further on
abbrev pub ItemsHaveDifferences : Names → Locals → List Item → Type 0
ItemsHaveDifferences ns ls [] = Unit {0}
ItemsHaveDifferences ns ls (Local name value ∷ xs) =
    HasDifferences ns ls value × ((ks js : List ℤ) (t : Term) → term_from ns ls value ks ≡ Ok (t, js) → ItemsHaveDifferences ns ((name.name, t) ∷ ls) xs)
ItemsHaveDifferences ns ls (Equates x ∷ xs) = SidesHaveDifferences ns ls x × ItemsHaveDifferences ns ls xs
