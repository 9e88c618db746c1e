-- The sizes of expressions: with how many negations one begins, what stands below them, and how many operations that has.
use Rattle.std.specs.Prelude.{◌≡◌, ◌-ℤ◌, ℕ, ◌+◌, ◌-◌, ◌^◌, ◌==◌, ◌&&◌, ℤ, pos, negsuc, zero, suc, min, Bool, true, false, if◌then◌else◌}
use Rattle.std.specs.Ordering.{int_eq}
use Rattle.mp_semantics.specs.Term.{Variable, Leaf, Binary, plus, minus, times, quotient, least, greatest, Term, leaf, negative, binary, power_of, pick}
use Rattle.mp_slopes.specs.Derivative.{is_number, signed_term, derivative_of}
use Rattle.mp_diff.specs.declared.measure.Core.{Core}
use Rattle.mp_diff.specs.declared.measure.Core.TheVariants.{Zero, One, Other}
use Rattle.mp_diff.specs.declared.measure.Size.{Size}
use Rattle.mp_diff.specs.declared.measure.Sizes.{Sizes}

abbrev pub is_zero_core : Core → Bool
is_zero_core Zero = true
is_zero_core One = false
is_zero_core Other = false

abbrev pub is_one_core : Core → Bool
is_one_core Zero = false
is_one_core One = true
is_one_core Other = false

-- whether it is the number 0
abbrev pub is_zero : Size → Bool
is_zero s = is_zero_core s.core && (s.negations == 0)

-- whether it is the number 1
abbrev pub is_one : Size → Bool
is_one s = is_one_core s.core && (s.negations == 0)

-- all operations, up to 10^37
abbrev pub total : Size → ℕ
total s = min (s.negations + s.below) (10 ^ 37)

abbrev pub bare : Core → Size
bare c = record { negations = 0; core = c; below = 0 }

-- an operator that is no negation, over so many operations
abbrev pub operation : ℕ → Size
operation n = record { negations = 0; core = Other; below = min (n + 1) (10 ^ 37) }

abbrev pub once_more : Size → Size
once_more s = record { negations = s.negations + 1; core = s.core; below = s.below }

abbrev pub once_less : Size → Size
once_less s = record { negations = s.negations - 1; core = s.core; below = s.below }

abbrev pub leaf_size : Leaf → Size
leaf_size l = bare (if is_number 0 l then Zero else (if is_number 1 l then One else Other))

-- the size of an expression
abbrev pub size_of : Term → Size
size_of (leaf l) = leaf_size l
size_of (negative a) = once_more (size_of a)
size_of (binary op a b) = operation (total (size_of a) + total (size_of b))
size_of (power_of a k) = operation (total (size_of a))
size_of (pick a b c d) = operation (total (size_of a) + total (size_of b) + total (size_of c) + total (size_of d))

-- ---- the sizes of what the table of derivatives builds, by the sizes of what it builds it of

abbrev pub negative_size : Size → Size
negative_size a = if is_zero a then bare Zero else (if a.negations == 0 then once_more a else once_less a)

abbrev pub plus_size : Size → Size → Size
plus_size a b = if is_zero a then b else (if is_zero b then a else operation (total a + total b))

abbrev pub minus_size : Size → Size → Size
minus_size a b = if is_zero b then a else (if is_zero a then negative_size b else operation (total a + total b))

abbrev pub times_size : Size → Size → Size
times_size a b =
    if is_zero a then bare Zero else (if is_zero b then bare Zero else (if is_one a then b else (if is_one b then a else operation (total a + total b))))

abbrev pub quotient_size : Size → Size → Size
quotient_size a b = if is_zero a then bare Zero else operation (total a + total b)

abbrev pub power_size : Size → ℤ → Size
power_size a (pos zero) = bare One
power_size a (pos (suc zero)) = a
power_size a (pos (suc (suc n))) = operation (total a)
power_size a (negsuc n) = operation (total a)

abbrev pub pick_size : Size → Size → Size → Size → Size
pick_size a b c d = if is_zero c && is_zero d then bare Zero else operation (total a + total b + total c + total d)

abbrev pub product_size : Size → Size → Size → Size → Size
product_size a b da db = plus_size (times_size da b) (times_size a db)

abbrev pub quotient_derivative_size : Size → Size → Size → Size → Size
quotient_derivative_size a b da db = minus_size (quotient_size da b) (quotient_size (times_size a db) (power_size b (pos 2)))

abbrev pub binary_size : Binary → Size → Size → Size → Size → Size
binary_size plus a b da db = plus_size da db
binary_size minus a b da db = minus_size da db
binary_size times a b da db = product_size a b da db
binary_size quotient a b da db = quotient_derivative_size a b da db
binary_size least a b da db = pick_size a b da db
binary_size greatest a b da db = pick_size b a da db

abbrev pub power_derivative_size : Size → ℤ → Size → Size
power_derivative_size a n da =
    if int_eq n (pos 0) then bare Zero else times_size (times_size (size_of (signed_term n)) (power_size a (n -ℤ pos 1))) da

-- ---- both sizes

-- those of an expression and of its derivative
pub record AreSizes (v : Variable) (k : ℤ) (t : Term) (s : Sizes) : Type 0 where
  pub node : s.node ≡ size_of t
  pub derivative : s.derivative ≡ size_of (derivative_of t v k)
