-- What goes on with equal answers is equal.
use Rattle.std.proofs.Common.{◌≡◌, ap, ◌∙◌}
use Rattle.mp_values.specs.Limits.{Folded, ◌>>=◌}
use Rattle.mp_fold.specs.Shown.{and_then}

pub one_is : {A B : Type 0} (r s : Folded A) (f : A → Folded B) → r ≡ s → and_then r f ≡ (s >>= f)
one_is r s f e = ap (λ u. u >>= f) e

pub both_are : {A B C : Type 0} (r s : Folded A) (p q : Folded B) (f : A → B → Folded C) → r ≡ s → p ≡ q → and_then r (λ a. and_then p (f a)) ≡ (s >>= λ a. q >>= f a)
both_are r s p q f e h = ap (λ u. u >>= λ a. p >>= f a) e ∙ ap (λ u. s >>= λ a. u >>= f a) h

pub then_is : {A B : Type 0} (r s : Folded A) (p q : Folded B) → r ≡ s → p ≡ q → and_then r (λ _. p) ≡ (s >>= λ _. q)
then_is r s p q e h = ap (λ u. u >>= λ _. p) e ∙ ap (λ u. s >>= λ _. u) h
