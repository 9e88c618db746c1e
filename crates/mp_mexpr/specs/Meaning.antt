-- What each operator makes of its operands.
use Rattle.std.specs.Prelude.{ℕ, zero, suc, ◌^◌, ℤ, pos, negsuc, ◌+ℤ◌, ◌-ℤ◌, ◌*ℤ◌, neg_ℤ, int_lt, int_le, List, [], ◌∷◌, ◌++◌, slice_get, Bool, true, false, not, if◌then◌else◌, nat_lt, Option, Some, None, Result, Ok, Err, ok_or}
use Rattle.std.specs.List.{list_any}
use Rattle.mp_tokens.specs.Literals.{number_of}
use Rattle.mp_base.specs.declared.kinds.MacroKind.{MacroKind}
use Rattle.mp_base.specs.declared.kinds.MacroKind.TheVariants.{Unknown, WrongKind, Overflow, OutOfRange}
use Rattle.mp_mexpr.specs.declared.operator.Operator.{Operator}
use Rattle.mp_mexpr.specs.declared.operator.Operator.TheVariants.{Or, And, Equal, Different, Less, Greater, AtMost, AtLeast, In, Range, Add, Subtract, Multiply}
use Rattle.mp_mvalue.specs.declared.value.Value.{Value, Whole, Truth, Text, List'}
use Rattle.mp_mvalue.specs.Made.{Valued, printable, made}
use Rattle.mp_mvalue.specs.Values.{same, row_items}

-- goes on with what there is
infixl 10 ◌>>=◌
abbrev pub ◌>>=◌ : {A B : Type 0} → Result A MacroKind → (A → Result B MacroKind) → Result B MacroKind
Ok x >>= next = next x
Err k >>= next = Err k

-- within 64 bits, with a sign
abbrev pub fits : ℤ → Bool
fits (pos n) = nat_lt n (2 ^ 63)
fits (negsuc n) = nat_lt n (2 ^ 63)

-- the number, where it does not pass 64 bits
abbrev pub number : ℤ → Valued
number n = if fits n then Ok (Whole n) else Err Overflow

-- the number of a value
abbrev pub whole_of : Value → Result ℤ MacroKind
whole_of (Whole n) = Ok n
whole_of _ = Err WrongKind

-- the elements of a value
abbrev pub elements_of : Value → Result (List Value) MacroKind
elements_of (List' n row) = Ok (row_items row)
elements_of _ = Err WrongKind

-- no number but 0 is false
abbrev pub is_true : ℤ → Bool
is_true (pos zero) = false
is_true _ = true

-- a truth value, or a number as one
abbrev pub truth_of : Value → Result Bool MacroKind
truth_of (Truth b) = Ok b
truth_of (Whole n) = Ok (is_true n)
truth_of _ = Err WrongKind

-- the number that digits write
abbrev pub digits_value : List ℕ → Valued
digits_value ds = number (pos (number_of ds))

-- the value, or that the name has none
abbrev pub known : Option Value → Valued
known (Some x) = Ok x
known None = Err Unknown

-- unary minus
abbrev pub negative_value : Valued → Valued
negative_value a = a >>= whole_of >>= λ n. number (neg_ℤ n)

-- `!`
abbrev pub not_value : Valued → Valued
not_value a = a >>= truth_of >>= λ b. Ok (Truth (not b))

-- the right side is read only where the left is false
abbrev pub or_value : Valued → Valued → Valued
or_value a b = a >>= truth_of >>= λ x. if x then Ok (Truth true) else (b >>= truth_of >>= λ y. Ok (Truth y))

-- the right side is read only where the left is true
abbrev pub and_value : Valued → Valued → Valued
and_value a b = a >>= truth_of >>= λ x. if x then (b >>= truth_of >>= λ y. Ok (Truth y)) else Ok (Truth false)

-- of two numbers
abbrev pub of_numbers : (ℤ → ℤ → Valued) → Value → Value → Valued
of_numbers f x y = whole_of x >>= λ m. whole_of y >>= λ n. f m n

-- so many numbers from a on, upwards
abbrev pub numbers_from : ℤ → ℕ → List Value
numbers_from a zero = []
numbers_from a (suc n) = numbers_from a n ++ Whole (a +ℤ pos n) ∷ []

-- the number, or 0 for a negative one
abbrev pub count_of : ℤ → ℕ
count_of (pos n) = n
count_of (negsuc n) = 0

-- how many numbers there are from a to b
abbrev pub count_between : ℤ → ℤ → ℕ
count_between a b = count_of ((b +ℤ pos 1) -ℤ a)

-- two numbers, two texts or two arrays
abbrev pub sum_value : Value → Value → Valued
sum_value (Whole m) (Whole n) = number (m +ℤ n)
sum_value (Text s) (Text t) = printable (Text (s ++ t))
sum_value (List' m r) (List' n s) = made (row_items r ++ row_items s)
sum_value _ _ = Err WrongKind

-- the operators of two numbers
abbrev pub numbers_value : Operator → Value → Value → Valued
numbers_value Less x y = of_numbers (λ m n. Ok (Truth (int_lt m n))) x y
numbers_value Greater x y = of_numbers (λ m n. Ok (Truth (int_lt n m))) x y
numbers_value AtMost x y = of_numbers (λ m n. Ok (Truth (int_le m n))) x y
numbers_value AtLeast x y = of_numbers (λ m n. Ok (Truth (int_le n m))) x y
numbers_value Range x y = of_numbers (λ a b. made (numbers_from a (count_between a b))) x y
numbers_value Subtract x y = of_numbers (λ m n. number (m -ℤ n)) x y
numbers_value Multiply x y = of_numbers (λ m n. number (m *ℤ n)) x y
numbers_value _ x y = of_numbers (λ m n. Err WrongKind) x y

-- the operators that read both sides first
abbrev pub strict_value : Operator → Value → Value → Valued
strict_value Equal x y = Ok (Truth (same x y))
strict_value Different x y = Ok (Truth (not (same x y)))
strict_value In x y = elements_of y >>= λ ys. Ok (Truth (list_any (λ e. same x e) ys))
strict_value Add x y = sum_value x y
strict_value o x y = numbers_value o x y

-- the left operand first, then the right, then the operator
abbrev pub apply_value : Operator → Valued → Valued → Valued
apply_value Or a b = or_value a b
apply_value And a b = and_value a b
apply_value o a b = a >>= λ x. b >>= λ y. strict_value o x y

-- the element at this place, from 1, if there is one
abbrev pub at_place : {X : Type 0} → List X → ℤ → Option X
at_place xs (pos (suc k)) = slice_get xs k
at_place xs _ = None

-- the element at this place, from 1
abbrev pub element_at : List Value → ℤ → Valued
element_at xs place = ok_or (at_place xs place) OutOfRange

-- the element of an array at the place that a number names
abbrev pub element_value : Value → Value → Valued
element_value x n = elements_of x >>= λ xs. whole_of n >>= λ k. element_at xs k

-- the array first, then the place, then the element
abbrev pub index_value : Valued → Valued → Valued
index_value a i = a >>= λ x. i >>= λ n. element_value x n

-- the elements before, and one more
abbrev pub with_element : Result (List Value) MacroKind → Valued → Result (List Value) MacroKind
with_element front x = front >>= λ xs. x >>= λ e. Ok (xs ++ e ∷ [])

-- the array of these elements
abbrev pub array_value : Result (List Value) MacroKind → Valued
array_value elements = elements >>= made
