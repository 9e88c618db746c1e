-- Expressions at other periods.
use Rattle.std.specs.Prelude.{pos, ◌-ℤ◌}
use Rattle.mp_semantics.specs.Term.{Leaf, variable, Term, leaf, negative, binary, power_of, pick, minus}

-- the same expression with other leaves
abbrev pub with_leaves : (Leaf → Leaf) → Term → Term
with_leaves f (leaf l) = leaf (f l)
with_leaves f (negative a) = negative (with_leaves f a)
with_leaves f (binary op a b) = binary op (with_leaves f a) (with_leaves f b)
with_leaves f (power_of a k) = power_of (with_leaves f a) k
with_leaves f (pick a b c d) = pick (with_leaves f a) (with_leaves f b) (with_leaves f c) (with_leaves f d)

-- a variable of one more period back; all else does not shift
abbrev pub earlier_leaf : Leaf → Leaf
earlier_leaf (variable x k) = variable x (k -ℤ pos 1)
earlier_leaf l = l

-- the expression of the period before
abbrev pub earlier : Term → Term
earlier t = with_leaves earlier_leaf t

-- what an expression gained since the period before (Dynare manual, "The model block", on `diff`)
abbrev pub difference : Term → Term
difference t = binary minus t (earlier t)
