-- The operands of an expression that has a derivative have one.
use Rattle.std.specs.Prelude.{◌≡◌, ◌⊎◌}
use Rattle.std.proofs.Common.{inl, inr, sym, subst}
use Rattle.mp_semantics.specs.Term.{Term, leaf, negative, binary, power_of, pick}
use Rattle.mp_graph.specs.Part.{IsPart}
use Rattle.mp_slopes.specs.Derivative.{HasDerivative}

either_has : (t a b : Term) → (t ≡ a) ⊎ (t ≡ b) → HasDerivative a × HasDerivative b → HasDerivative t
either_has t a b (inl e) h = subst (λ u. HasDerivative u) (sym e) h.0
either_has t a b (inr e) h = subst (λ u. HasDerivative u) (sym e) h.1

pub part_has : (t u : Term) → IsPart t u → HasDerivative u → HasDerivative t
part_has t (leaf l) p h = absurd p
part_has t (negative a) p h = subst (λ u. HasDerivative u) (sym p) h
part_has t (binary op a b) p h = either_has t a b p h
part_has t (power_of a k) p h = subst (λ u. HasDerivative u) (sym p) h.0
part_has t (pick a b c d) p h = absurd h
