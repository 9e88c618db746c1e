-- Names, numbers and signs as formats, and the place where an expression stands.
use Rattle.std.specs.Prelude.{List, [], ◌∷◌}
use Rattle.mp_tokens.specs.declared.terminal.Terminal.TheVariants as t
use Rattle.mp_tokens.specs.Tokens.{Tok}
use Rattle.mp_syntax.specs.declared.operator.Sign.{Sign}
use Rattle.mp_syntax.specs.declared.operator.Sign.TheVariants as sign
use Rattle.mp_syntax.specs.Syntax.{Named, Expr}
use Rattle.mp_format.specs.Format.{Look, Of, Part, Format, part}
use Rattle.mp_format.specs.Notation.{of, gap, ◌∣◌, ◌⇒◌, ◌stands◌}
use Rattle.mp_expressions.specs.Script.{expr_script}

-- with what an expression begins
abbrev pub expr_first : List Look
expr_first =
    Of t.Plus ∷ Of t.Minus ∷ Of t.Whole ∷ Of t.Number ∷ Of t.Name ∷ Of t.Open ∷ Of t.Min ∷ Of t.Max ∷ Of t.Diff ∷ []

-- with what it goes on
abbrev pub expr_more : List Look
expr_more = Of t.Open ∷ Of t.Caret ∷ Of t.Star ∷ Of t.Slash ∷ Of t.Plus ∷ Of t.Minus ∷ []

-- how a whole expression reads that begins with one of these
abbrev pub WholeFrom : List Look → Type 1
WholeFrom first = Part first expr_more expr_script

-- how a whole expression of a file reads
abbrev pub Whole : Type 1
Whole = WholeFrom expr_first

-- a place where an expression stands
abbrev pub expr : {first : List Look} → WholeFrom first → Format Expr
expr {first} e = part first expr_more expr_script e

-- the name that a token is
abbrev pub named : Tok → Named
named u = record { name = u.bytes; at = u.at }

-- NAME
abbrev pub name : Format Named
name = of t.Name ⇒ named

-- the same after a blank
abbrev pub spaced_name : Format Named
spaced_name = gap t.Name ⇒ named

-- "+" | "-"
abbrev pub sign_format : Format Sign
sign_format = t.Plus stands sign.Plus ∣ t.Minus stands sign.Minus

-- NUMBER, of digits alone or not
abbrev pub number : Format Tok
number = of t.Whole ∣ of t.Number
