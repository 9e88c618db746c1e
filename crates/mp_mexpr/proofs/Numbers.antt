-- Laws of numbers that follow one another.
use Rattle.std.proofs.Common.{◌≡◌, ℕ, zero, suc, ◌+◌, ◌<◌, [], ◌∷◌, ◌++◌, length, refl, ap, ◌∙◌, arith, ℤ, pos, ◌+ℤ◌, Err, length-append}
use Rattle.mp_base.specs.declared.kinds.MacroKind.TheVariants.{ArrayLimit}
use Rattle.mp_mvalue.specs.declared.value.Value.{Whole}
use Rattle.mp_mexpr.specs.Meaning.{numbers_from}
use Rattle.mp_mvalue.specs.Made.{made}
use Rattle.mp_mvalue.proofs.Made.{made-many}

pub length-numbers_from : (a : ℤ) (n : ℕ) → length (numbers_from a n) ≡ n
length-numbers_from a zero = refl
length-numbers_from a (suc n) = length-append (numbers_from a n) (Whole (a +ℤ pos n) ∷ []) ∙ ap (λ k. k + 1) (length-numbers_from a n) ∙ omega arith

pub made-range-long : (a : ℤ) (n : ℕ) → 100000 < n → made (numbers_from a n) ≡ Err ArrayLimit
made-range-long a n lt = made-many (numbers_from a n) (omega (arith, length-numbers_from a n))

pub numbers-next : (a : ℤ) (n : ℕ) → numbers_from a n ++ Whole (a +ℤ pos n) ∷ [] ≡ numbers_from a (n + 1)
numbers-next a n = let next : suc n ≡ n + 1 = omega arith in ap (numbers_from a) next
