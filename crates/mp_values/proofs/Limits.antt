-- Where the limits of numbers refuse nothing they change nothing.
use Rattle.std.proofs.Common.{◌≡◌, ℕ, ℤ, List, [], ◌∷◌, Bool, true, false, cond, Option, Some, None, Ok, Err, refl, sym, ap, ◌∙◌}
use Rattle.std.specs.Prelude.{nat_le}
use Rattle.std.specs.Int.RustNames.{unsigned_abs}
use Rattle.mp_rational.specs.Fraction.{Fraction, add, sub, mul, div, power, whole}
use Rattle.mp_frac.specs.declared.fault.FracFault.TheVariants as f
use Rattle.mp_frac.specs.Stated.{Outcome, sum_outcome, difference_outcome, product_outcome, quotient_outcome, power_outcome}
use Rattle.mp_tokens.specs.Literals.{Decimal, decimal_of, is_in_range}
use Rattle.mp_syntax.specs.declared.operator.Sign.{Sign}
use Rattle.mp_syntax.specs.declared.operator.Operator.{Operator}
use Rattle.mp_syntax.specs.declared.operator.Operator.TheVariants as op
use Rattle.mp_syntax.specs.Syntax.{Expr, Number, Variable, Signed, Binary, Power, Paren, Call, Diff, Pick}
use Rattle.mp_statements.specs.Statements.{Equation, Item, Local, Equates, Statement, Declares, Assigns, Model, Notes}
use Rattle.mp_statements.specs.Parts.{items_of}
use Rattle.mp_semantics.specs.Model as m
use Rattle.mp_semantics.specs.Value.{result_of}
use Rattle.mp_values.specs.Table.{Table, unset, with_value}
use Rattle.mp_values.specs.Names.{Names, names_of, shift_of}
use Rattle.mp_values.specs.Limits.{Stuck, Folded, ◌>>=◌, answer, whole_of, binary_of, exact, limited, defined, told, outcome_of, exponent_or, near_exponent}
use Rattle.mp_values.specs.Values.{with_sign_if, exponent_at, value_by, assigned_by, values_by}
use Rattle.mp_values.specs.ModelOf.{Locals, term_by, right_by, equation_by, items_by, parameters_given, model_by, model_of, model_given}

-- where the first answers, the second answers the same
abbrev Below : {A : Type 0} → Folded A → Folded A → Type 0
Below {A} r s = (x : A) → r ≡ Ok x → s ≡ Ok x

same : {A : Type 0} (r : Folded A) → Below r r
same r x e = e

on : {A B : Type 0} (r s : Folded A) (next more : A → Folded B) → Below r s → ((x : A) → Below (next x) (more x)) → Below (r >>= next) (s >>= more)
on (Ok x) s next more here there y e = ap (λ u. u >>= more) (here x refl) ∙ there x y e
on (Err k) s next more here there y e = let z : ⊥ = cc in absurd z

-- what is answered where a test holds is answered without it
tested : {A : Type 0} (test : Bool) (x : A) (k : Stuck) → (let r : Folded A = cond test (Ok x) (Err k) in Below r (Ok x))
tested true x k y e = e
tested false x k y e = let z : ⊥ = cc in absurd z

exponent_below : (at : ℕ) (x : Fraction) (u : Option ℤ) → Below (near_exponent at x u) (exponent_or at x u)
exponent_below at x None = same (exponent_or at x None)
exponent_below at x (Some k) = tested (nat_le (unsigned_abs k) 16) k _

-- where an operation answers a fraction, it is the one of arithmetic
pub record Answers : Type 0 where
  pub sum : (x y z : Fraction) → sum_outcome x y ≡ Ok z → z ≡ add x y
  pub difference : (x y z : Fraction) → difference_outcome x y ≡ Ok z → z ≡ sub x y
  pub product : (x y z : Fraction) → product_outcome x y ≡ Ok z → z ≡ mul x y
  pub quotient : (x y z : Fraction) → quotient_outcome x y ≡ Ok z → div x y ≡ Some z
  pub power : (x z : Fraction) (k : ℤ) → power_outcome x k ≡ Ok z → power x k ≡ Some z

answered : Answers → (o : Operator) (x y z : Fraction) → outcome_of o x y ≡ Ok z → result_of (binary_of o) x y ≡ Some z
answered by op.Plus x y z e = ap Some (sym (by.sum x y z e))
answered by op.Minus x y z e = ap Some (sym (by.difference x y z e))
answered by op.Times x y z e = ap Some (sym (by.product x y z e))
answered by op.Over x y z e = by.quotient x y z e

told_below : (at : ℕ) (x y : Fraction) (r : Outcome) (u : Option Fraction) → ((z : Fraction) → r ≡ Ok z → u ≡ Some z) → Below (told at x y r) (defined at x y u)
told_below at x y (Ok w) u is z e = ap (defined at x y) (is w refl) ∙ e
told_below at x y (Err f.Overflow) u is z e = let k : ⊥ = cc in absurd k
told_below at x y (Err f.ZeroDivisor) u is z e = let k : ⊥ = cc in absurd k

-- each limit alone
literal_below : (at : ℕ) (n : Decimal) → Below (limited.literal at n) (exact.literal at n)
literal_below at n = tested (is_in_range n) n _

shift_below : (at : ℕ) (k : ℤ) → Below (limited.shift at k) (exact.shift at k)
shift_below at k = tested (nat_le (unsigned_abs k) 24) k _

sign_below : (at : ℕ) (s : Option Sign) (y : Fraction) → Below (exponent_at limited at s y) (exponent_at exact at s y)
sign_below at s y = exponent_below at (with_sign_if s y) (whole_of (with_sign_if s y))

result_below : Answers → (o : Operator) (at : ℕ) (x y : Fraction) → Below (limited.result o at x y) (exact.result o at x y)
result_below by o at x y = told_below at x y (outcome_of o x y) (result_of (binary_of o) x y) (answered by o x y)

raised_below : Answers → (at : ℕ) (x : Fraction) (k : ℤ) → Below (limited.raised at x k) (exact.raised at x k)
raised_below by at x k = told_below at x (whole k) (power_outcome x k) (power x k) (λ z. by.power x z k)

pub value_below : Answers → (t : Table) (e : Expr) → Below (value_by limited t e) (value_by exact t e)
value_below by t (Number literal at) = on _ _ _ _ (literal_below at (decimal_of literal)) (λ n. same _)
value_below by t (Variable name shift) = same _
value_below by t (Signed s a) = on _ _ _ _ (value_below by t a) (λ x. same _)
value_below by t (Binary o a at b) = on _ _ _ _ (value_below by t a) (λ x. on _ _ _ _ (value_below by t b) (λ y. result_below by o at x y))
value_below by t (Power a at s b) = on _ _ _ _ (value_below by t a) (λ x. on _ _ _ _ (value_below by t b) (λ y. on _ _ _ _ (sign_below at s y) (λ k. raised_below by at x k)))
value_below by t (Paren a) = value_below by t a
value_below by t (Call f a b) = on _ _ _ _ (value_below by t a) (λ x. on _ _ _ _ (value_below by t b) (λ y. same _))
value_below by t (Diff at a) = on _ _ _ _ (value_below by t a) (λ x. same _)
value_below by t (Pick a b c d) = same _

pub assigned_below : Answers → (t : Table) (file : List Statement) → Below (assigned_by limited t file) (assigned_by exact t file)
assigned_below by t [] = same _
assigned_below by t (Declares kind names ∷ more) = assigned_below by t more
assigned_below by t (Assigns name value ∷ more) = on _ _ _ _ (value_below by t value) (λ x. assigned_below by (with_value name.name (Some x) t) more)
assigned_below by t (Model at choices items ∷ more) = assigned_below by t more
assigned_below by t (Notes command names ∷ more) = assigned_below by t more

pub values_below : Answers → (file : List Statement) → Below (values_by limited file) (values_by exact file)
values_below by file = assigned_below by (unset (names_of file).parameters) file

pub term_below : Answers → (ns : Names) (ls : Locals) (t : Table) (e : Expr) → Below (term_by limited ns ls t e) (term_by exact ns ls t e)
term_below by ns ls t (Number literal at) = on _ _ _ _ (literal_below at (decimal_of literal)) (λ n. same _)
term_below by ns ls t (Variable name shift) = on _ _ _ _ (shift_below name.at (shift_of shift)) (λ k. same _)
term_below by ns ls t (Signed s a) = on _ _ _ _ (term_below by ns ls t a) (λ x. same _)
term_below by ns ls t (Binary o a at b) = on _ _ _ _ (term_below by ns ls t a) (λ x. on _ _ _ _ (term_below by ns ls t b) (λ y. same _))
term_below by ns ls t (Power a at s b) = on _ _ _ _ (term_below by ns ls t a) (λ x. on _ _ _ _ (value_below by t b) (λ y. on _ _ _ _ (sign_below at s y) (λ k. same _)))
term_below by ns ls t (Paren a) = term_below by ns ls t a
term_below by ns ls t (Call f a b) = on _ _ _ _ (term_below by ns ls t a) (λ x. on _ _ _ _ (term_below by ns ls t b) (λ y. same _))
term_below by ns ls t (Diff at a) = on _ _ _ _ (term_below by ns ls t a) (λ x. same _)
term_below by ns ls t (Pick a b c d) = same _

right_below : Answers → (ns : Names) (ls : Locals) (t : Table) (right : Option Expr) → Below (right_by limited ns ls t right) (right_by exact ns ls t right)
right_below by ns ls t None = same _
right_below by ns ls t (Some e) = term_below by ns ls t e

equation_below : Answers → (ns : Names) (ls : Locals) (t : Table) (x : Equation) → Below (equation_by limited ns ls t x) (equation_by exact ns ls t x)
equation_below by ns ls t x = on _ _ _ _ (term_below by ns ls t x.left) (λ l. on _ _ _ _ (right_below by ns ls t x.right) (λ r. same _))

items_below : Answers → (ns : Names) (t : Table) (ls : Locals) (xs : List Item) → Below (items_by limited ns t ls xs) (items_by exact ns t ls xs)
items_below by ns t ls [] = same _
items_below by ns t ls (Local name value ∷ xs) = on _ _ _ _ (term_below by ns ls t value) (λ x. items_below by ns t ((name.name, x) ∷ ls) xs)
items_below by ns t ls (Equates equation ∷ xs) = on _ _ _ _ (equation_below by ns ls t equation) (λ y. on _ _ _ _ (items_below by ns t ls xs) (λ ys. same _))

file_below : Answers → (file : List Statement) → Below (model_by limited file) (model_by exact file)
file_below by file = on _ _ _ _ (values_below by file) (λ t. on _ _ _ _ (same (parameters_given t)) (λ ps. on _ _ _ _ (items_below by (names_of file) t [] (items_of file)) (λ es. same _)))

pub model_below : Answers → (file : List Statement) (M : m.Model) → model_given file ≡ Ok M → model_of file ≡ Some M
model_below by file M e = ap answer (file_below by file M e)
