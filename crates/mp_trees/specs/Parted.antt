-- What an expression has, its operands have.
use Rattle.std.proofs.Common.{subst, sym, inl, inr}
use Rattle.mp_semantics.specs.Term.{Term, leaf, negative, binary, power_of, pick}
use Rattle.mp_graph.specs.Part.{IsPart}
use Rattle.mp_trees.specs.Earlier.{HasEarlier}

-- the operands of an expression that has an earlier one have one
pub part_has_earlier : (t u : Term) → IsPart t u → HasEarlier u → HasEarlier t
part_has_earlier t (leaf l) p h = absurd p
part_has_earlier t (negative a) p h = subst HasEarlier (sym p) h
part_has_earlier t (binary o a b) (inl p) h = subst HasEarlier (sym p) h.0
part_has_earlier t (binary o a b) (inr p) h = subst HasEarlier (sym p) h.1
part_has_earlier t (power_of a k) p h = subst HasEarlier (sym p) h
part_has_earlier t (pick a b c d) (inl (inl p)) h = subst HasEarlier (sym p) h.0.0
part_has_earlier t (pick a b c d) (inl (inr p)) h = subst HasEarlier (sym p) h.0.1
part_has_earlier t (pick a b c d) (inr (inl p)) h = subst HasEarlier (sym p) h.1.0
part_has_earlier t (pick a b c d) (inr (inr p)) h = subst HasEarlier (sym p) h.1.1
