-- How an expression is written: without blanks, with the parentheses that it has.
use Rattle.std.specs.Prelude.{List, [], ◌∷◌, ◌++◌, Bool, true, false, Option, Some, None}
use Rattle.mp_tokens.specs.declared.token.TokenKind.TheVariants as k
use Rattle.mp_tokens.specs.declared.terminal.Terminal.TheVariants as t
use Rattle.mp_syntax.specs.declared.operator.Sign.{Sign}
use Rattle.mp_syntax.specs.declared.operator.Sign.TheVariants as sign
use Rattle.mp_tokens.specs.Tokens.{number_kind}
use Rattle.mp_syntax.specs.declared.operator.Operator.{Operator}
use Rattle.mp_syntax.specs.declared.operator.Operator.TheVariants as operator
use Rattle.mp_syntax.specs.declared.operator.Function.{Function}
use Rattle.mp_syntax.specs.declared.operator.Function.TheVariants as function
use Rattle.mp_syntax.specs.Syntax.{Shift, Named, Expr, Number, Variable, Signed, Binary, Power, Paren, Call, Diff, Pick}
use Rattle.mp_tokens.specs.declared.terminal.Terminal.{Terminal}
use Rattle.mp_format.specs.Pieces.{Piece, Solid, Script, Run, AfterName, AfterNumber}
use Rattle.mp_format.specs.Format.{token, token_of}

-- a name without its place
abbrev pub bare_name : Named → Named
bare_name n = record { name = n.name; at = 0 }

-- an expression without places
unfoldable pub bare : Expr → Expr
bare (Number literal at) = Number literal 0
bare (Variable name shift) = Variable (bare_name name) shift
bare (Signed s a) = Signed s (bare a)
bare (Binary op a at b) = Binary op (bare a) 0 (bare b)
bare (Power a at s b) = Power (bare a) 0 s (bare b)
bare (Paren a) = Paren (bare a)
bare (Call f a b) = Call f (bare a) (bare b)
bare (Diff at a) = Diff 0 (bare a)
bare (Pick a b c d) = Pick (bare a) (bare b) (bare c) (bare d)

-- a token that is always the same
abbrev pub the : Terminal → Piece
the c = Solid (token_of c)

abbrev pub sign_piece : Sign → Piece
sign_piece sign.Plus = the t.Plus
sign_piece sign.Minus = the t.Minus

abbrev pub signs : Option Sign → List Piece
signs None = []
signs (Some s) = sign_piece s ∷ []

abbrev pub shift_pieces : Option Shift → List Piece
shift_pieces None = []
shift_pieces (Some s) = the t.Open ∷ sign_piece s.sign ∷ Solid (token k.Whole s.digits) ∷ the t.Close ∷ []

abbrev pub operator_terminal : Operator → Terminal
operator_terminal operator.Plus = t.Plus
operator_terminal operator.Minus = t.Minus
operator_terminal operator.Times = t.Star
operator_terminal operator.Over = t.Slash

abbrev pub function_terminal : Function → Terminal
function_terminal function.Min = t.Min
function_terminal function.Max = t.Max

unfoldable pub expr_pieces : Expr → List Piece
expr_pieces (Number literal at) = Solid (token (number_kind literal) literal) ∷ []
expr_pieces (Variable name shift) = Solid (token k.Name name.name) ∷ shift_pieces shift
expr_pieces (Signed s a) = sign_piece s ∷ expr_pieces a
expr_pieces (Binary op a at b) = expr_pieces a ++ (the (operator_terminal op) ∷ expr_pieces b)
expr_pieces (Power a at s b) = expr_pieces a ++ (the t.Caret ∷ (signs s ++ expr_pieces b))
expr_pieces (Paren a) = the t.Open ∷ (expr_pieces a ++ (the t.Close ∷ []))
expr_pieces (Call f a b) = the (function_terminal f) ∷ the t.Open ∷ (expr_pieces a ++ (the t.Comma ∷ (expr_pieces b ++ (the t.Close ∷ []))))
expr_pieces (Diff at a) = the t.Diff ∷ the t.Open ∷ (expr_pieces a ++ (the t.Close ∷ []))
expr_pieces (Pick a b c d) =
    the t.Pick ∷ the t.Open ∷ (expr_pieces a ++ (the t.Comma ∷ (expr_pieces b ++ (the t.Comma ∷ (expr_pieces c ++ (the t.Comma ∷ (expr_pieces d ++ (the t.Close ∷ []))))))))

abbrev pub at_both : Run → Bool
at_both AfterName = true
at_both AfterNumber = true
at_both _ = false

-- names and numbers stand at both ends
abbrev pub expr_script : Script Expr Expr
expr_script = record { value = bare; pieces = expr_pieces; opens = at_both; closes = at_both }
