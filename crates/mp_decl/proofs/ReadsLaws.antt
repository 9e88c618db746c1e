-- What expressions read, by their shape.
use Rattle.std.proofs.Common.{◌≡◌, ℕ, List, [], ◌∷◌, ◌++◌, option_map, Option, None, refl, sym, ap, ◌∙◌, append-nil, append_assoc}
use Rattle.std.specs.List.{flat_map}
use Rattle.mp_syntax.specs.declared.operator.Sign.{Sign}
use Rattle.mp_syntax.specs.declared.operator.Function.{Function}
use Rattle.mp_syntax.specs.Syntax.{Expr, Signed, Binary, Power, Paren, Call, Diff, Further, with_further}
use Rattle.mp_file.specs.declared.Expression.{Expression}
use Rattle.mp_statements.specs.Sides.{right_side, sides}
use Rattle.mp_file.specs.declared.Equation.{Equation}
use Rattle.mp_file.specs.Shown.{expr_of, equation_of}
use Rattle.mp_declared.specs.Points.{Reader, InModel, Constant, Differs, reads}

pub reads_signed : (r : Reader) (s : Sign) (e : Expr) → reads r (Signed s e) ≡ reads r e
unfolding reads
reads_signed r s e = refl

pub reads_paren : (r : Reader) (e : Expr) → reads r (Paren e) ≡ reads r e
unfolding reads
reads_paren r e = refl

pub reads_power : (r : Reader) (e : Expr) (at : ℕ) (s : Option Sign) (f : Expr) → reads r (Power e at s f) ≡ reads r e ++ reads Constant f
unfolding reads
reads_power r e at s f = refl

pub reads_call : (r : Reader) (function : Function) (e f : Expr) → reads r (Call function e f) ≡ reads r e ++ reads r f
unfolding reads
reads_call r function e f = refl

pub reads_diff : (r : Reader) (at : ℕ) (e : Expr) → reads r (Diff at e) ≡ Differs r at ∷ reads r e
unfolding reads
reads_diff r at e = refl

pub reads_chain : (r : Reader) (e : Expr) (more : List Further) → reads r (with_further e more) ≡ reads r e ++ flat_map (λ x. reads r x.operand) more
unfolding reads
reads_chain r e [] = sym (append-nil (reads r e))
reads_chain r e (x ∷ more) =
    reads_chain r (Binary x.op e x.at x.operand) more ∙ append_assoc (reads r e) (reads r x.operand) (flat_map (λ y. reads r y.operand) more)

-- a side that is not written reads nothing
pub reads-right_none : reads InModel (right_side None) ≡ []
unfolding reads
reads-right_none = refl

-- an equation reads what its two sides read
pub reads-sides : (x : Equation) → flat_map (reads InModel) (sides (equation_of x)) ≡ reads InModel (expr_of x.left) ++ reads InModel (right_side (option_map expr_of x.right))
reads-sides x = ap (λ l. reads InModel (expr_of x.left) ++ l) (append-nil (reads InModel (right_side (option_map expr_of x.right))))

-- its right side, which may not be written
pub reads-right : (right written : Option Expression) → right ≡ written → reads InModel (right_side (option_map expr_of right)) ≡ reads InModel (right_side (option_map expr_of written))
reads-right right written is = ap (λ r. reads InModel (right_side (option_map expr_of r))) is
