-- How tokens are read as an expression.
use Rattle.std.specs.Prelude.{ℕ, zero, suc, List, [], ◌∷◌, length, Bool, true, false, ◌||◌, ◌==◌, if◌then◌else◌, Option, Some, None, Err}
use Rattle.mp_base.specs.declared.kinds.MacroKind.TheVariants.{NestDeep, BadExpression}
use Rattle.mp_mexpr.specs.declared.operator.Operator.{Operator}
use Rattle.mp_mexpr.specs.declared.operator.Operator.TheVariants as o
use Rattle.mp_mexpr.specs.declared.token.Mark.{Mark}
use Rattle.mp_mexpr.specs.declared.token.Mark.TheVariants as m
use Rattle.mp_mvalue.specs.Environments.{Names}
use Rattle.mp_mvalue.specs.Made.{Valued}
use Rattle.mp_mexpr.specs.Syntax.{Expr, Exprs, Number, Quote, Constant, Named, Array, Negative, Not, Apply, Index, Empty, With, value_of}
use Rattle.mp_mexpr.specs.Tokens.{Tok, Digits, Quoted, Name, Binary, Single, tokens, is_deep}

-- what is read at the front of the tokens, and the tokens after it; or nothing
abbrev pub Reader : Type 0 → Type 0
Reader X = List Tok → Option (X × List Tok)

-- goes on where something was read
infixl 10 ◌>>=◌
abbrev pub ◌>>=◌ : {A B : Type 0} → Option A → (A → Option B) → Option B
None >>= next = None
Some x >>= next = next x

-- both are the same mark
abbrev pub is_mark : Mark → Mark → Bool
is_mark m.Not m.Not = true
is_mark m.OpenBracket m.OpenBracket = true
is_mark m.CloseBracket m.CloseBracket = true
is_mark m.Comma m.Comma = true
is_mark m.Open m.Open = true
is_mark m.Close m.Close = true
is_mark m.True m.True = true
is_mark m.False m.False = true
is_mark _ _ = false

-- the tokens after this mark
abbrev pub past : Mark → List Tok → Option (List Tok)
past mark (Single other ∷ ts) = if is_mark mark other then Some ts else None
past mark _ = None

-- how loosely an operator binds
abbrev pub level_of : Operator → ℕ
level_of o.Multiply = 0
level_of o.Add = 1
level_of o.Subtract = 1
level_of o.Range = 2
level_of o.Equal = 3
level_of o.Different = 3
level_of o.Less = 3
level_of o.Greater = 3
level_of o.AtMost = 3
level_of o.AtLeast = 3
level_of o.In = 3
level_of o.And = 4
level_of o.Or = 5

-- an operator of this level, and the tokens after it
abbrev pub operator_at : ℕ → Reader Operator
operator_at level (Binary operator ∷ ts) = if level_of operator == level then Some (operator, ts) else None
operator_at level _ = None

-- how many operators of a level follow one another: a range and a comparison have one at most
abbrev pub most : ℕ → List Tok → ℕ
most level ts = if level == 2 || level == 3 then 1 else length ts

-- the tokens after a minus
abbrev pub past_minus : List Tok → Option (List Tok)
past_minus (Binary o.Subtract ∷ ts) = Some ts
past_minus _ = None

-- goes on where something begins, and ends where not
abbrev pub go_on : {B Y : Type 0} → Option B → Y → (B → Y) → Y
go_on None done next = done
go_on (Some b) done next = next b

-- one step after the other as long as one begins, so many at most
unfoldable pub repeated : {B X : Type 0} → ℕ → (List Tok → Option B) → (X → B → Option (X × List Tok)) → X → Reader X
repeated zero begin step x ts = Some (x, ts)
repeated (suc n) begin step x ts =
    go_on (begin ts) (Some (x, ts)) (λ b. step x b >>= λ y. repeated n begin step y.0 y.1)

-- expr "]"
abbrev pub place_at : {X : Type 0} → Reader X → Reader X
place_at inside ts = inside ts >>= λ place. past m.CloseBracket place.1 >>= λ rest. Some (place.0, rest)

-- after the left operand and an operator: the right operand
abbrev pub applied : Reader Expr → Expr → Operator × List Tok → Option (Expr × List Tok)
applied operand left b = operand b.1 >>= λ right. Some (Apply b.0 left right.0, right.1)

-- an array's element, after the array and "["
abbrev pub indexed : Reader Expr → Expr → List Tok → Option (Expr × List Tok)
indexed inside array ts = place_at inside ts >>= λ place. Some (Index array place.0, place.1)

-- one element more, after ","
abbrev pub extended : Reader Expr → Exprs → List Tok → Option (Exprs × List Tok)
extended inside front ts = inside ts >>= λ last. Some (With front last.0, last.1)

-- "," expr, as long as there are, and "]"
unfoldable pub more_elements_at : Reader Expr → Exprs → Reader Expr
more_elements_at inside front ts =
    repeated (length ts) (past m.Comma) (extended inside) front ts >>= λ all. past m.CloseBracket all.1 >>= λ rest. Some (Array all.0, rest)

-- [expr {"," expr}] "]"
unfoldable pub array_at : Reader Expr → Reader Expr
array_at inside ts =
    go_on (past m.CloseBracket ts) (inside ts >>= λ first. more_elements_at inside (With Empty first.0) first.1) (λ rest. Some (Array Empty, rest))

-- expr ")"
unfoldable pub paren_at : Reader Expr → Reader Expr
paren_at inside ts = inside ts >>= λ e. past m.Close e.1 >>= λ rest. Some (e.0, rest)

-- by the first token
abbrev pub primary_by : Reader Expr → Tok → Reader Expr
primary_by inside (Digits digits) ts = Some (Number digits, ts)
primary_by inside (Quoted text) ts = Some (Quote text, ts)
primary_by inside (Name name) ts = Some (Named name, ts)
primary_by inside (Single m.True) ts = Some (Constant true, ts)
primary_by inside (Single m.False) ts = Some (Constant false, ts)
primary_by inside (Single m.OpenBracket) ts = array_at inside ts
primary_by inside (Single m.Open) ts = paren_at inside ts
primary_by inside _ ts = None

-- digits | text | "true" | "false" | name | "[" elements | "(" expr ")"
unfoldable pub primary_at : Reader Expr → Reader Expr
primary_at inside [] = None
primary_at inside (t ∷ ts) = primary_by inside t ts

-- primary {"[" expr "]"}
unfoldable pub index_at : Reader Expr → Reader Expr
index_at inside ts =
    primary_at inside ts >>= λ first. repeated (length first.1) (past m.OpenBracket) (indexed inside) first.0 first.1

-- ["-" | "!"] index
unfoldable pub unary_at : Reader Expr → Reader Expr
unary_at inside ts =
    go_on (past_minus ts) (go_on (past m.Not ts) (index_at inside ts) (λ rest. index_at inside rest >>= λ e. Some (Not e.0, e.1))) (λ rest. index_at inside rest >>= λ e. Some (Negative e.0, e.1))

-- operands of the next tighter level with operators of one level between; below all levels a unary
unfoldable pub level_at : Reader Expr → ℕ → Reader Expr
level_at inside zero ts = unary_at inside ts
level_at inside (suc level) ts =
    level_at inside level ts >>= λ first. repeated (most level first.1) (operator_at level) (applied (level_at inside level)) first.0 first.1

-- what stands in a bracket where so many more may be open
unfoldable pub inside_at : ℕ → Reader Expr
inside_at zero ts = None
inside_at (suc room) ts = level_at (inside_at room) 6 ts

-- an expression in which at most 100 brackets are open at once
abbrev pub expr_at : Reader Expr
expr_at ts = level_at (inside_at 100) 6 ts

-- no token is left
abbrev pub is_empty : List Tok → Bool
is_empty [] = true
is_empty _ = false

-- what was read, where no token is left
abbrev pub whole : {X : Type 0} → Option (X × List Tok) → Option X
whole (Some r) = if is_empty r.1 then Some r.0 else None
whole None = None

-- the expression that all of these tokens are
abbrev pub expression_of : List Tok → Option Expr
expression_of ts = whole (expr_at ts)

-- the value of what was read
abbrev pub value_or_bad : Names → Option Expr → Valued
value_or_bad names (Some e) = value_of names e
value_or_bad names None = Err BadExpression

-- by the tokens before the first byte that begins none, and whether there is no such byte
abbrev pub value_by : Names → List Tok × Bool → Valued
value_by names r =
    if is_deep r.0 then Err NestDeep else if r.1 then value_or_bad names (expression_of r.0) else Err BadExpression

-- the value of an expression's bytes
abbrev pub meaning : Names → List ℕ → Valued
meaning names text = value_by names (tokens text)
