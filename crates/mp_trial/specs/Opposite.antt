-- An expression with its leaves negated.
use Rattle.mp_semantics.specs.Term.{Term, leaf, negative, binary, power_of, pick}

-- each leaf negated
abbrev pub opposite : Term → Term
opposite (leaf l) = negative (leaf l)
opposite (negative a) = negative (opposite a)
opposite (binary o a b) = binary o (opposite a) (opposite b)
opposite (power_of a k) = power_of (opposite a) k
opposite (pick a b c d) = pick (opposite a) (opposite b) (opposite c) (opposite d)
