-- What is known of an expression is known of those in it.
use Rattle.std.proofs.Common.{◌≡◌, ℕ, List, map, Option, subst, refl}
use Rattle.std.specs.List.{AllByRecursion}
use Rattle.mp_syntax.specs.declared.operator.Sign.{Sign}
use Rattle.mp_syntax.specs.declared.operator.Function.{Function}
use Rattle.mp_syntax.specs.Syntax as s
use Rattle.mp_file.specs.declared.Expression.{Expression}
use Rattle.mp_file.specs.declared.Expression.TheVariants.{Signed, Chain, Power, Paren, Call, Diff}
use Rattle.mp_file.specs.declared.Further.{Further}
use Rattle.mp_file.specs.Shown.{expr_of, further_of}
use Rattle.mp_file.proofs.Views.{signed_is, chain_is, power_is, paren_is, call_is, diff_is}
use Rattle.mp_values.specs.Names.{Names}
use Rattle.mp_values.specs.ModelOf.{Locals}
use Rattle.mp_graph.specs.Shared.{Shared, Keeps}
use Rattle.mp_trees.specs.Earlier.{HasDifferences}
use Rattle.mp_trees.specs.Locals.{locals_in, AreNodes}
use Rattle.mp_trees.proofs.Alike.{chain_differences, differences_kept, all_differences_kept}

-- an expression under one that is so
module _ (ns : Names) (ls : Locals) (e : Expression) where
  by : HasDifferences ns ls (expr_of e) → (t : s.Expr) → expr_of e ≡ t → HasDifferences ns ls t
  by has t is = subst (HasDifferences ns ls) is has

  pub signed_under : (x a : Expression) (sign : Sign) → HasDifferences ns ls (expr_of e) → e ≡ Signed sign a → x ≡ a → HasDifferences ns ls (expr_of x)
  signed_under x a sign has is one = by has _ (signed_is is one)

  pub chain_under : (x a : Expression) (xs more : List Further) → HasDifferences ns ls (expr_of e) → e ≡ Chain a more → x ≡ a → xs ≡ more → HasDifferences ns ls (expr_of x) × AllByRecursion (λ f. HasDifferences ns ls f.operand) (map further_of xs)
  chain_under x a xs more has is one rest = chain_differences ns ls (expr_of x) (map further_of xs) (by has _ (chain_is is one rest))

  pub power_under : (x a b : Expression) (at : ℕ) (sign : Option Sign) → HasDifferences ns ls (expr_of e) → e ≡ Power a at sign b → x ≡ a → HasDifferences ns ls (expr_of x)
  power_under x a b at sign has is one = by has (s.Power (expr_of x) at sign (expr_of b)) (power_is is one refl)

  pub paren_under : (x a : Expression) → HasDifferences ns ls (expr_of e) → e ≡ Paren a → x ≡ a → HasDifferences ns ls (expr_of x)
  paren_under x a has is one = by has _ (paren_is is one)

  pub call_under : (x y a b : Expression) (function : Function) → HasDifferences ns ls (expr_of e) → e ≡ Call function a b → x ≡ a → y ≡ b → HasDifferences ns ls (expr_of x) × HasDifferences ns ls (expr_of y)
  call_under x y a b function has is one two = by has _ (call_is is one two)

  pub diff_under : (x a : Expression) (at : ℕ) → HasDifferences ns ls (expr_of e) → e ≡ Diff at a → x ≡ a → HasDifferences ns ls (s.Diff at (expr_of x))
  diff_under x a at has is one = by has _ (diff_is is one)

  pub first_of_chain : (x a : Expression) (more : List Further) → HasDifferences ns ls (expr_of e) → e ≡ Chain a more → x ≡ a → HasDifferences ns ls (expr_of x)
  first_of_chain x a more has is one = (chain_under x a more more has is one refl).0

  pub first_of_call : (x a b : Expression) (function : Function) → HasDifferences ns ls (expr_of e) → e ≡ Call function a b → x ≡ a → HasDifferences ns ls (expr_of x)
  first_of_call x a b function has is one = (call_under x b a b function has is one refl).0

  pub inside_of_diff : (x a : Expression) (at : ℕ) → HasDifferences ns ls (expr_of e) → e ≡ Diff at a → x ≡ a → HasDifferences ns ls (expr_of x)
  inside_of_diff x a at has is one = (diff_under x a at has is one).0

-- the same where the graph has grown
module _ (g h : Shared) (ls : List (List ℕ × ℕ)) (e : Expression) where
  pub second_of_call : (y a b : Expression) (function : Function) → Keeps g h → AreNodes g.terms ls → HasDifferences g.names (locals_in g.terms ls) (expr_of e) → e ≡ Call function a b → y ≡ b → HasDifferences h.names (locals_in h.terms ls) (expr_of y)
  second_of_call y a b function kept nodes has is two =
      differences_kept g h ls kept nodes (expr_of y) (call_under g.names (locals_in g.terms ls) e a y a b function has is refl two).1

  pub more_of_chain : (a : Expression) (xs more : List Further) → Keeps g h → AreNodes g.terms ls → HasDifferences g.names (locals_in g.terms ls) (expr_of e) → e ≡ Chain a more → xs ≡ more → AllByRecursion (λ f. HasDifferences h.names (locals_in h.terms ls) f.operand) (map further_of xs)
  more_of_chain a xs more kept nodes has is rest =
      all_differences_kept g h ls kept nodes (map further_of xs) (chain_under g.names (locals_in g.terms ls) e a a xs more has is refl rest).1
