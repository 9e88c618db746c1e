-- How much stands in an expression, so that a walk over it ends.
use Rattle.std.proofs.Common.{◌≡◌, ℕ, zero, suc, ◌+◌, ◌<◌, List, [], ◌∷◌, length, get_or, Option, refl, sym, ap, subst, rules, arith}
use Rattle.mp_syntax.specs.declared.operator.Sign.{Sign}
use Rattle.mp_syntax.specs.declared.operator.Function.{Function}
use Rattle.mp_file.specs.declared.Expression.{Expression, Number, Variable, Shifted, Signed', Chain', Power', Paren', Call', Diff', Row_of-Expression, more_of-Expression, end_of-Expression, Row_of-Further, end_of-Further, more_of-Further, items-the_row-Further}
use Rattle.mp_file.specs.declared.Expression.TheVariants.{Signed, Chain, Power, Paren, Call, Diff}
use Rattle.mp_file.specs.declared.Expression.TheViews.{the_lemmas}
use Rattle.mp_file.specs.declared.Further.{Further}

abbrev mutual
  pub weight : Expression → ℕ
  weight (Number literal at) = 0
  weight (Variable name) = 0
  weight (Shifted name shift) = 0
  weight (Signed' sign _ row) = 1 + row_weight row
  weight (Chain' _ first shape row) = 1 + (row_weight first + further_weight row)
  weight (Power' _ base at sign _ exponent) = 1 + row_weight base
  weight (Paren' _ row) = 1 + row_weight row
  weight (Call' function _ first _ second) = 1 + (row_weight first + row_weight second)
  weight (Diff' at _ row) = 1 + row_weight row

  pub row_weight : {n : _} → Row_of-Expression n → ℕ
  row_weight end_of-Expression = 0
  row_weight (more_of-Expression x rest) = weight x

  pub further_weight : {n : _} → Row_of-Further n → ℕ
  further_weight end_of-Further = 0
  further_weight (more_of-Further op at operand rest) = 1 + (weight operand + further_weight rest)

abbrev pub all_weight : List Further → ℕ
all_weight [] = 0
all_weight (f ∷ fs) = 1 + (weight f.operand + all_weight fs)

further_rows : (n : _) (row : Row_of-Further n) → further_weight row ≡ all_weight (items-the_row-Further n row)
further_rows _ end_of-Further = refl
further_rows _ (more_of-Further op at operand rest) = ap (λ k. 1 + (weight operand + k)) (further_rows _ rest)

signed_view : (sign : Sign) (a : Expression) → weight (Signed sign a) ≡ 1 + weight a
unfolding Rattle.mp_file.specs.declared.Expression.TheBlock.hidden-the_row-Expression-0 denote.Hole.Carrier.hidden
signed_view sign a = search (rules, the_lemmas)

chain_view : (a : Expression) (more : List Further) → weight (Chain a more) ≡ 1 + (weight a + all_weight more)
unfolding Rattle.mp_file.specs.declared.Expression.TheBlock.hidden-the_row-Expression-0 Rattle.mp_file.specs.declared.Expression.TheBlock.hidden-the_row-Further-1 denote.Hole.Carrier.hidden
chain_view a more = search (rules, the_lemmas, further_rows)

paren_view : (a : Expression) → weight (Paren a) ≡ 1 + weight a
unfolding Rattle.mp_file.specs.declared.Expression.TheBlock.hidden-the_row-Expression-0 denote.Hole.Carrier.hidden
paren_view a = search (rules, the_lemmas)

power_view : (a : Expression) (at : ℕ) (sign : Option Sign) (b : Expression) → weight (Power a at sign b) ≡ 1 + weight a
unfolding Rattle.mp_file.specs.declared.Expression.TheBlock.hidden-the_row-Expression-0 denote.Hole.Carrier.hidden
power_view a at sign b = search (rules, the_lemmas)

call_view : (function : Function) (a b : Expression) → weight (Call function a b) ≡ 1 + (weight a + weight b)
unfolding Rattle.mp_file.specs.declared.Expression.TheBlock.hidden-the_row-Expression-0 denote.Hole.Carrier.hidden
call_view function a b = search (rules, the_lemmas)

diff_view : (at : ℕ) (a : Expression) → weight (Diff at a) ≡ 1 + weight a
unfolding Rattle.mp_file.specs.declared.Expression.TheBlock.hidden-the_row-Expression-0 denote.Hole.Carrier.hidden
diff_view at a = search (rules, the_lemmas)

-- ---- what stands in an expression weighs less
module _ (e : Expression) where
  pub signed_less : (x a : Expression) (sign : Sign) → e ≡ Signed sign a → x ≡ a → weight x < weight e
  signed_less x a sign is one = omega (arith, ap weight is, signed_view sign a, ap weight one)

  pub chain_less : (x a : Expression) (more : List Further) → e ≡ Chain a more → x ≡ a → weight x < weight e
  chain_less x a more is one = omega (arith, ap weight is, chain_view a more, ap weight one)

  pub more_less : (a : Expression) (xs more : List Further) → e ≡ Chain a more → xs ≡ more → all_weight xs < weight e
  more_less a xs more is rest = omega (arith, ap weight is, chain_view a more, ap all_weight rest)

  pub power_less : (x a b : Expression) (at : ℕ) (sign : Option Sign) → e ≡ Power a at sign b → x ≡ a → weight x < weight e
  power_less x a b at sign is one = omega (arith, ap weight is, power_view a at sign b, ap weight one)

  pub paren_less : (x a : Expression) → e ≡ Paren a → x ≡ a → weight x < weight e
  paren_less x a is one = omega (arith, ap weight is, paren_view a, ap weight one)

  pub first_less : (x a b : Expression) (function : Function) → e ≡ Call function a b → x ≡ a → weight x < weight e
  first_less x a b function is one = omega (arith, ap weight is, call_view function a b, ap weight one)

  pub second_less : (y a b : Expression) (function : Function) → e ≡ Call function a b → y ≡ b → weight y < weight e
  second_less y a b function is two = omega (arith, ap weight is, call_view function a b, ap weight two)

  pub diff_less : (x a : Expression) (at : ℕ) → e ≡ Diff at a → x ≡ a → weight x < weight e
  diff_less x a at is one = omega (arith, ap weight is, diff_view at a, ap weight one)

at_place : (fs : List Further) (i : ℕ) (d : Further) → i < length fs → weight (get_or fs i d).operand < all_weight fs
at_place [] i d l = absurd (omega arith)
at_place (f ∷ fs) zero d l = omega arith
at_place (f ∷ fs) (suc i) d l = let h = at_place fs i d (omega arith) in omega (arith, h)

pub operand_less : (fs : List Further) (i : ℕ) (x : Further) → i < length fs → x ≡ get_or fs i x → weight x.operand < all_weight fs
operand_less fs i x l e = subst (λ (y : Further). weight y.operand < all_weight fs) (sym e) (at_place fs i x l)
