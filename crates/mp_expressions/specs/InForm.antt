-- Expressions that a text may write, level by level, and how each is written as a tree.
use Rattle.std.specs.Prelude.{ℕ, zero, suc, List, [], ◌∷◌, ◌++◌, Bool, true, false, ◌==◌, ◌⊎◌, Option, Some, None, option_map}
use mathlib.Core.Logic.{inl, inr}
use Rattle.mp_syntax.specs.declared.operator.Sign.{Sign}
use Rattle.mp_syntax.specs.declared.operator.Sign.TheVariants as sign
use Rattle.mp_tokens.specs.Tokens.{number_length, digits_length}
use Rattle.mp_syntax.specs.declared.operator.Operator.TheVariants as operator
use Rattle.mp_syntax.specs.declared.operator.Function.TheVariants as function
use Rattle.mp_syntax.specs.Syntax.{Shift, Expr, Number, Variable, Signed, Binary, Power, Paren, Call, Diff}
use Rattle.mp_format.specs.Format.{Look, Format}
use Rattle.mp_format.specs.Pieces.{IsName, IsLiteral, AreDigits}
use Rattle.mp_format.specs.Spelling.{Tree}
use Rattle.mp_expressions.specs.Productions.{WholeFrom}
use Rattle.mp_expressions.specs.Expressions.{shift, fenced, closed, inside, pair, flat_atom, atom, factor, times, product, plus, sum, power}

-- over what its atoms are, a power, a factor, a product and a sum
abbrev pub AtPower : (Expr → Type 0) → Expr → Type 0
AtPower A (Power a at s b) = A a × A b
AtPower A e = A e

abbrev pub AtFactor : (Expr → Type 0) → Expr → Type 0
AtFactor A (Signed s a) = AtPower A a
AtFactor A e = AtPower A e

abbrev pub AtProduct : (Expr → Type 0) → Expr → Type 0
AtProduct A (Binary operator.Times a at b) = AtProduct A a × AtFactor A b
AtProduct A (Binary operator.Over a at b) = AtProduct A a × AtFactor A b
AtProduct A e = AtFactor A e

abbrev pub AtSum : (Expr → Type 0) → Expr → Type 0
AtSum A (Binary operator.Plus a at b) = AtSum A a × AtProduct A b
AtSum A (Binary operator.Minus a at b) = AtSum A a × AtProduct A b
AtSum A e = AtProduct A e

abbrev pub IsShift : Option Shift → Type 0
IsShift None = Unit {0}
IsShift (Some s) = AreDigits s.digits

abbrev pub Flat : Expr → Type 0
Flat (Number literal at) = IsLiteral literal
Flat (Variable n None) = IsName n.name
Flat e = ⊥

-- what stands inside parentheses is this
abbrev pub Deep : (Expr → Type 0) → Expr → Type 0
Deep Inside (Number literal at) = IsLiteral literal
Deep Inside (Variable n s) = IsName n.name × IsShift s
Deep Inside (Paren a) = Inside a
Deep Inside (Call f a b) = Inside a × Inside b
Deep Inside (Diff at a) = Inside a
Deep Inside e = ⊥

-- each name is a name, each literal a number, no operand needs a parenthesis that it has not, and at most so many are open at once
unfoldable pub InForm : ℕ → Expr → Type 0
InForm zero e = AtSum Flat e
InForm (suc room) e = AtSum (Deep (InForm room)) e

abbrev pub sign_tree : Sign → Unit {0} ⊎ Unit {0}
sign_tree sign.Plus = inl tt
sign_tree sign.Minus = inr tt

abbrev pub number_by : Bool → List ℕ → List ℕ ⊎ List ℕ
number_by true bs = inl bs
number_by false bs = inr bs

abbrev pub number_tree : List ℕ → List ℕ ⊎ List ℕ
number_tree bs = number_by (number_length bs == digits_length bs) bs

unfoldable pub flat_tree : Expr → Tree flat_atom
unfolding flat_atom
flat_tree (Number literal at) = inl (number_tree literal)
flat_tree (Variable n s) = inr n.name
flat_tree _ = inr []

unfoldable pub shift_tree : Shift → Tree fenced
unfolding fenced shift
shift_tree s = (tt, ((Some (sign_tree s.sign), s.digits), tt))

unfoldable pub pair_tree : {first : List Look} (e : WholeFrom first) → Expr → Expr → Tree (pair e)
unfolding pair
pair_tree e a b = ((tt, (a, tt)), (b, tt))

unfoldable pub closed_tree : {first : List Look} (e : WholeFrom first) → Expr → Tree (closed e)
unfolding closed
closed_tree e a = (a, tt)

unfoldable pub inside_tree : {first : List Look} (e : WholeFrom first) → Expr → Tree (inside e)
unfolding inside
inside_tree e a = (tt, closed_tree e a)

-- an expression that is no atom is none here
unfoldable pub atom_tree : {first : List Look} (e : WholeFrom first) → Expr → Tree (atom e)
unfolding atom
atom_tree e (Number literal at) = inl (number_tree literal)
atom_tree e (Variable n s) = inr (inl (n.name, option_map shift_tree s))
atom_tree e (Paren a) = inr (inr (inl (tt, closed_tree e a)))
atom_tree e (Call function.Min a b) = inr (inr (inr (inl (tt, pair_tree e a b))))
atom_tree e (Call function.Max a b) = inr (inr (inr (inr (inl (tt, pair_tree e a b)))))
atom_tree e (Diff at a) = inr (inr (inr (inr (inr (tt, inside_tree e a)))))
atom_tree e _ = inr (inl ([], None))

-- the trees of the levels
unfoldable pub signed_tree : (a : Format Expr) → Option (Unit {0} ⊎ Unit {0}) → Tree (power a) → Tree (factor a)
unfolding factor
signed_tree a s x = (s, x)

unfoldable pub one_factor : (a : Format Expr) → Tree (factor a) → Tree (product a)
unfolding product
one_factor a x = (x, [])

unfoldable pub one_term : (a : Format Expr) → Tree (product a) → Tree (sum a)
unfolding sum
one_term a x = (x, [])

-- one more at the end
abbrev pub with_last : {S T : Type 0} → S × List T → T → S × List T
with_last p y = (p.0, p.1 ++ (y ∷ []))

unfoldable pub last_factor : (a : Format Expr) → Tree (product a) → Unit {0} ⊎ Unit {0} → Tree (factor a) → Tree (product a)
unfolding product times
last_factor a p o y = with_last p (o, y)

unfoldable pub last_term : (a : Format Expr) → Tree (sum a) → Unit {0} ⊎ Unit {0} → Tree (product a) → Tree (sum a)
unfolding sum plus
last_term a p o y = with_last p (o, y)

-- over the trees of atoms
abbrev pub power_tree : (a : Format Expr) → (Expr → Tree a) → Expr → Tree (power a)
power_tree a at (Power x _ s y) = (at x, Some (tt, (option_map sign_tree s, at y)))
power_tree a at e = (at e, None)

abbrev pub factor_tree : (a : Format Expr) → (Expr → Tree a) → Expr → Tree (factor a)
factor_tree a at (Signed s x) = signed_tree a (Some (sign_tree s)) (power_tree a at x)
factor_tree a at e = signed_tree a None (power_tree a at e)

abbrev pub product_tree : (a : Format Expr) → (Expr → Tree a) → Expr → Tree (product a)
product_tree a at (Binary operator.Times x _ y) = last_factor a (product_tree a at x) (inl tt) (factor_tree a at y)
product_tree a at (Binary operator.Over x _ y) = last_factor a (product_tree a at x) (inr tt) (factor_tree a at y)
product_tree a at e = one_factor a (factor_tree a at e)

abbrev pub sum_tree : (a : Format Expr) → (Expr → Tree a) → Expr → Tree (sum a)
sum_tree a at (Binary operator.Plus x _ y) = last_term a (sum_tree a at x) (inl tt) (product_tree a at y)
sum_tree a at (Binary operator.Minus x _ y) = last_term a (sum_tree a at x) (inr tt) (product_tree a at y)
sum_tree a at e = one_term a (product_tree a at e)
