use Rattle.std.proofs.Common.{◌≡◌, ℕ, pos, [], ◌∷◌, Option, Some, refl, ap, subst, arith}
use Rattle.mp_rational.specs.Fraction.{Fraction, mul, ratio_of}
use Rattle.mp_tokens.specs.Literals.{decimal_of}
use Rattle.mp_semantics.specs.Term.{endogenous}
use Rattle.std.specs.List.{AllByRecursion}
use Rattle.mp_semantics.specs.Model.{in_force}
use Rattle.mp_semantics.specs.Solves.{Path, Boundary, IsSolution, Equal, Meets, environment, given, regime}
use Rattle.mp_model.specs.Example.{doubling_model}
use Rattle.mp_model.proofs.doubling_law.Goals as goal

-- two values that are one are the same
same : (x y : Fraction) → Equal (Some x) (Some y) → x ≡ y
same x y h = both h.0 h.1 h.2
  where
    both : (z : Fraction) → (let s : Option Fraction = Some x in s ≡ Some z) → (let s : Option Fraction = Some y in s ≡ Some z) → x ≡ y
    both z e f = cc

only : (b : Boundary) (q : Path) → IsSolution doubling_model 1 ([] ∷ []) b q → q 0 (pos 1) ≡ mul (ratio_of (pos 2) 1) (b (endogenous 0) (pos 0))
only b q h = same (q 0 (pos 1)) (mul (ratio_of (pos 2) 1) (b (endogenous 0) (pos 0))) (h 1 (omega arith) (omega arith)).0

back : (b : Boundary) (q : Path) → q 0 (pos 1) ≡ mul (ratio_of (pos 2) 1) (b (endogenous 0) (pos 0)) → IsSolution doubling_model 1 ([] ∷ []) b q
back b q e t first last =
    let one : 1 ≡ t = omega arith in
    subst (λ (n : ℕ). AllByRecursion (Meets (environment doubling_model 1 (given 1 b) q) n) (in_force doubling_model (regime ([] ∷ []) n))) one
    ((mul (ratio_of (pos 2) 1) (b (endogenous 0) (pos 0)), ap Some e, refl), tt)

pub returns-clause-model : goal.returns-clause-model
unfolding decimal_of
returns-clause-model c = refl

pub returns-clause-solutions : goal.returns-clause-solutions
returns-clause-solutions c b q = (only b q, back b q)
