-- Small files, and the models that they mean.
use Rattle.std.specs.Prelude.{ℕ, ℤ, pos, negsuc, List, [], ◌∷◌, Some, None, codes}
use Rattle.mp_rational.specs.Fraction.{ratio_of}
use Rattle.mp_syntax.specs.declared.operator.Sign.TheVariants as sign
use Rattle.mp_syntax.specs.declared.operator.Operator.TheVariants as o
use Rattle.mp_statements.specs.declared.kind.NameKind.TheVariants as kind
use Rattle.mp_syntax.specs.Syntax.{Shift, Named, Expr, Number, Variable, Binary, Power, Paren, Diff}
use Rattle.mp_statements.specs.Statements.{Tag, Equation, Local, Equates, Statement, Declares, Assigns, Model}
use Rattle.mp_semantics.specs.Term as term
use Rattle.mp_semantics.specs.Term.{Term, endogenous, exogenous, number, variable, plus, minus, times, leaf, power_of}
use Rattle.mp_semantics.specs.Model as m

abbrev pub x_at : ℕ → Named
x_at at = record { name = codes "x"; at = at }

abbrev pub e_at : ℕ → Named
e_at at = record { name = codes "e"; at = at }

abbrev pub a_at : ℕ → Named
a_at at = record { name = codes "a"; at = at }

-- one period back
abbrev pub back : Shift
back = record { sign = sign.Minus; digits = codes "1" }

-- ---- values

abbrev pub values_text : List ℕ
values_text =
    codes "var x; varexo e; parameters a; a = 1/2; a = a+1; model; x = (2*x(-1))^(a*2)+e; end;"

-- `1/2`
abbrev pub half : Expr
half = Binary o.Over (Number (codes "1") 35) 36 (Number (codes "2") 37)

-- `a+1`
abbrev pub one_more : Expr
one_more = Binary o.Plus (Variable (a_at 44) None) 45 (Number (codes "1") 46)

-- `a*2`
abbrev pub twice : Expr
twice = Binary o.Times (Variable (a_at 71) None) 72 (Number (codes "2") 73)

-- `(2*x(-1))^(a*2)+e`
abbrev pub powered : Expr
powered =
    Binary o.Plus (Power (Paren (Binary o.Times (Number (codes "2") 61) 62 (Variable (x_at 63) (Some back)))) 69 None (Paren twice)) 75 (Variable (e_at 76) None)

-- the file that the text reads as
abbrev pub values_file : List Statement
values_file =
    Declares kind.Endogenous (x_at 4 ∷ []) ∷ Declares kind.Exogenous (e_at 14 ∷ []) ∷ Declares kind.Parameter (a_at 28 ∷ []) ∷ Assigns (a_at 31) half ∷ Assigns (a_at 40) one_more ∷ Model 49 [] (Equates (record { tags = []; left = Variable (x_at 56) None; right = Some powered }) ∷ []) ∷ []

-- x in the period before, doubled
abbrev pub doubled : Term
doubled = term.binary times (leaf (number 2 0)) (leaf (variable (endogenous 0) (negsuc 0)))

-- its model: the parameter is worth 3/2 at last, and the exponent is 3
abbrev pub values_model : m.Model
values_model = record {
  endogenous_names = codes "x" ∷ [];
  exogenous_names = codes "e" ∷ [];
  parameters = record { name = codes "a"; value = ratio_of (pos 3) 2 } ∷ [];
  equations = record { left = leaf (variable (endogenous 0) (pos 0)); right = term.binary plus (power_of doubled (pos 3)) (leaf (variable (exogenous 0) (pos 0))); name = None; pair = None; bind = []; relax = [] } ∷ [];
  constraints = [];
}

-- its text
abbrev pub values_printed : List ℕ
values_printed =
    codes "var x;\nvarexo e;\nparameters a;\na = 3/2;\nmodel;\nx = (2*x(-1))^3+e;\nend;\n"

-- ---- doubling: `var x; model; x = 2*x(-1); end;`

-- the file, as it is read
abbrev pub doubling_file : List Statement
doubling_file =
    Declares kind.Endogenous (x_at 4 ∷ []) ∷ Model 7 [] (Equates (record { tags = []; left = Variable (x_at 14) None; right = Some (Binary o.Times (Number (codes "2") 18) 19 (Variable (x_at 20) (Some back))) }) ∷ []) ∷ []

-- its model: one variable, and one equation that is always in force
abbrev pub doubling_model : m.Model
doubling_model = record {
  endogenous_names = codes "x" ∷ [];
  exogenous_names = [];
  parameters = [];
  equations = record { left = leaf (variable (endogenous 0) (pos 0)); right = doubled; name = None; pair = None; bind = []; relax = [] } ∷ [];
  constraints = [];
}

-- ---- difference

abbrev pub g_at : ℕ → Named
g_at at = record { name = codes "g"; at = at }

abbrev pub difference_text : List ℕ
difference_text = codes "var x; model; # g = x - 1; [name='eq'] diff(g) = 0; end;"

-- `x - 1`
abbrev pub one_less : Expr
one_less = Binary o.Minus (Variable (x_at 20) None) 22 (Number (codes "1") 24)

-- `diff(g)`
abbrev pub gained : Expr
gained = Diff 39 (Variable (g_at 44) None)

-- `name='eq'`
abbrev pub eq_tag : Tag
eq_tag = record { name = record { name = codes "name"; at = 28 }; text = codes "'eq'"; at = 33 }

-- the file that the text reads as
abbrev pub difference_file : List Statement
difference_file =
    Declares kind.Endogenous (x_at 4 ∷ []) ∷ Model 7 [] (Local (g_at 16) one_less ∷ Equates (record { tags = eq_tag ∷ []; left = gained; right = Some (Number (codes "0") 49) }) ∷ []) ∷ []

-- x less one, in this period or in the period before
abbrev pub less_one : ℤ → Term
less_one shift = term.binary minus (leaf (variable (endogenous 0) shift)) (leaf (number 1 0))

-- its model: one equation with its name
abbrev pub difference_model : m.Model
difference_model = record {
  endogenous_names = codes "x" ∷ [];
  exogenous_names = [];
  parameters = [];
  equations = record { left = term.binary minus (less_one (pos 0)) (less_one (negsuc 0)); right = leaf (number 0 0); name = Some (codes "eq"); pair = None; bind = []; relax = [] } ∷ [];
  constraints = [];
}

-- its text
abbrev pub difference_printed : List ℕ
difference_printed = codes "var x;\nmodel;\n[name='eq'] x-1-(x(-1)-1) = 0;\nend;\n"

-- ---- shifts beyond one

abbrev pub y_at : ℕ → Named
y_at at = record { name = codes "y"; at = at }

-- three periods back, and three ahead
abbrev pub three_back : Shift
three_back = record { sign = sign.Minus; digits = codes "3" }

abbrev pub three_ahead : Shift
three_ahead = record { sign = sign.Plus; digits = codes "3" }

abbrev pub shifts_text : List ℕ
shifts_text = codes "var x y; model; x = x(-3) + y(+3); y = x; end;"

-- `x(-3) + y(+3)`
abbrev pub shifted_sum : Expr
shifted_sum = Binary o.Plus (Variable (x_at 20) (Some three_back)) 26 (Variable (y_at 28) (Some three_ahead))

-- `x = x(-3) + y(+3)`
abbrev pub sum_equation : Equation
sum_equation = record { tags = []; left = Variable (x_at 16) None; right = Some shifted_sum }

-- `y = x`
abbrev pub same_equation : Equation
same_equation = record { tags = []; left = Variable (y_at 35) None; right = Some (Variable (x_at 39) None) }

-- the file that the text reads as
abbrev pub shifts_file : List Statement
shifts_file =
    Declares kind.Endogenous (x_at 4 ∷ y_at 6 ∷ []) ∷ Model 9 [] (Equates sum_equation ∷ Equates same_equation ∷ []) ∷ []

-- the text of its transformed model
abbrev pub shifts_printed : List ℕ
shifts_printed =
    codes "var x y AUX_LAG_x_1 AUX_LAG_x_2 AUX_LEAD_y_1 AUX_LEAD_y_2;\nmodel;\nx = AUX_LAG_x_2(-1)+AUX_LEAD_y_2(+1);\ny = x;\nAUX_LAG_x_1 = x(-1);\nAUX_LAG_x_2 = AUX_LAG_x_1(-1);\nAUX_LEAD_y_1 = y(+1);\nAUX_LEAD_y_2 = AUX_LEAD_y_1(+1);\nend;\n"
