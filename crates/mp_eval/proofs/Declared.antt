-- A term of a model's variables is worth the same where they alone have values.
use Rattle.std.proofs.Common.{◌≡◌, ℤ, ◌+ℤ◌, Bool, true, false, cond, Option, None, refl}
use Rattle.std.specs.Prelude.{IsTrue}
use Rattle.mp_rational.specs.Fraction.{Fraction}
use Rattle.mp_semantics.specs.Term.{endogenous, Leaf, number, parameter, variable, steady_state, Term, leaf, negative, binary, power_of, pick}
use Rattle.mp_semantics.specs.Value.{Environment, leaf_value, val}
use Rattle.mp_semantics.specs.Model.{Model, is_declared}
use Rattle.mp_solutions.specs.Leaves.{AllLeaves}
use Rattle.mp_solutions.specs.Laws.{IsDeclaredLeaf}
use Rattle.mp_path.specs.Environments.{declared_part}

chosen : (b : Bool) (p : Option Fraction) → IsTrue b → cond b p None ≡ p
chosen true p h = refl
chosen false p h = cc

module _ (M : Model) (env : Environment) (t : ℤ) where
  leaf_same : (l : Leaf) → IsDeclaredLeaf M l → leaf_value (declared_part M env) t l ≡ leaf_value env t l
  leaf_same (number m s) h = refl
  leaf_same (parameter p) h = refl
  leaf_same (variable x k) h = chosen (is_declared M x) (env.value x (t +ℤ k)) h
  leaf_same (steady_state v) h = chosen (is_declared M (endogenous v)) (env.value (endogenous v) env.terminal) h

  pub declared_same : (e : Term) → AllLeaves (IsDeclaredLeaf M) e → val e (declared_part M env) t ≡ val e env t
  declared_same (leaf l) h = leaf_same l h
  declared_same (negative a) h = rw (declared_same a h) refl
  declared_same (binary op a b) h = rw (declared_same a h.0, declared_same b h.1) refl
  declared_same (power_of a k) h = rw (declared_same a h) refl
  declared_same (pick a b c d) h = rw (declared_same a h.0, declared_same b h.1, declared_same c h.2, declared_same d h.3) refl
