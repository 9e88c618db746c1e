-- The grammar of expressions: what a list of tokens is read as, and the tokens after it (Dynare manual, "Macro
-- processing language"; the precedence of the operators is modpath's own). Operators of one level associate to the left.
use Rattle.std.specs.Prelude.{◌≡◌, ℕ, List, [], ◌∷◌, Bool, true, false, Result, Ok, Err}
use Rattle.mp_base.specs.declared.kinds.MacroKind.TheVariants.{NestDeep, BadExpression}
use Rattle.mp_mvalue.specs.declared.fault.MacroFault.{MacroFault}
use Rattle.mp_mvalue.specs.declared.fault.MacroFault.TheVariants as f
use Rattle.mp_mexpr.specs.declared.operator.Operator.{Operator}
use Rattle.mp_mexpr.specs.declared.operator.Operator.TheVariants as o
use Rattle.mp_mexpr.specs.declared.token.Mark.TheVariants as m
use Rattle.mp_mvalue.specs.declared.sharing.SharedValue.{SharedValue}
use Rattle.mp_mvalue.specs.Environments.{Names}
use Rattle.mp_mvalue.specs.Made.{Valued}
use Rattle.mp_mvalue.specs.Shared.{unshared}
use Rattle.mp_mexpr.specs.Syntax.{Expr, Exprs, Number, Quote, Constant, Named, Array, Negative, Not, Apply, Index, Empty, With, value_of}
use Rattle.mp_mexpr.specs.Tokens.{Tok, Digits, Quoted, Name, Binary, Single, tokens, is_deep}

-- "==" | "!=" | "<" | ">" | "<=" | ">=" | "in"
pub data Compares : Operator → Type 0 where
  equal : Compares o.Equal
  different : Compares o.Different
  less : Compares o.Less
  greater : Compares o.Greater
  at_most : Compares o.AtMost
  at_least : Compares o.AtLeast
  among : Compares o.In

-- "+" | "-"
pub data Adds : Operator → Type 0 where
  add : Adds o.Add
  subtract : Adds o.Subtract

mutual
  -- and {"||" and}
  pub data OrReads : List Tok → Expr → List Tok → Type 0 where
    one_and : (ts rest : List Tok) (e : Expr) → AndReads ts e rest → OrReads ts e rest
    or : (ts us rest : List Tok) (e f : Expr) → OrReads ts e (Binary o.Or ∷ us) → AndReads us f rest → OrReads ts (Apply o.Or e f) rest

  -- comparison {"&&" comparison}
  pub data AndReads : List Tok → Expr → List Tok → Type 0 where
    one_comparison : (ts rest : List Tok) (e : Expr) → ComparisonReads ts e rest → AndReads ts e rest
    and : (ts us rest : List Tok) (e f : Expr) → AndReads ts e (Binary o.And ∷ us) → ComparisonReads us f rest → AndReads ts (Apply o.And e f) rest

  -- range [("==" | "!=" | "<" | ">" | "<=" | ">=" | "in") range]
  pub data ComparisonReads : List Tok → Expr → List Tok → Type 0 where
    one_range : (ts rest : List Tok) (e : Expr) → RangeReads ts e rest → ComparisonReads ts e rest
    comparison : (operator : Operator) (ts us rest : List Tok) (e f : Expr) → Compares operator → RangeReads ts e (Binary operator ∷ us) → RangeReads us f rest → ComparisonReads ts (Apply operator e f) rest

  -- sum [":" sum]
  pub data RangeReads : List Tok → Expr → List Tok → Type 0 where
    one_sum : (ts rest : List Tok) (e : Expr) → SumReads ts e rest → RangeReads ts e rest
    range : (ts us rest : List Tok) (e f : Expr) → SumReads ts e (Binary o.Range ∷ us) → SumReads us f rest → RangeReads ts (Apply o.Range e f) rest

  -- product {("+" | "-") product}
  pub data SumReads : List Tok → Expr → List Tok → Type 0 where
    one_product : (ts rest : List Tok) (e : Expr) → ProductReads ts e rest → SumReads ts e rest
    sum : (operator : Operator) (ts us rest : List Tok) (e f : Expr) → Adds operator → SumReads ts e (Binary operator ∷ us) → ProductReads us f rest → SumReads ts (Apply operator e f) rest

  -- unary {"*" unary}
  pub data ProductReads : List Tok → Expr → List Tok → Type 0 where
    one_unary : (ts rest : List Tok) (e : Expr) → UnaryReads ts e rest → ProductReads ts e rest
    product : (ts us rest : List Tok) (e f : Expr) → ProductReads ts e (Binary o.Multiply ∷ us) → UnaryReads us f rest → ProductReads ts (Apply o.Multiply e f) rest

  -- ["-" | "!"] index
  pub data UnaryReads : List Tok → Expr → List Tok → Type 0 where
    bare : (ts rest : List Tok) (e : Expr) → IndexReads ts e rest → UnaryReads ts e rest
    minus : (ts rest : List Tok) (e : Expr) → IndexReads ts e rest → UnaryReads (Binary o.Subtract ∷ ts) (Negative e) rest
    negation : (ts rest : List Tok) (e : Expr) → IndexReads ts e rest → UnaryReads (Single m.Not ∷ ts) (Not e) rest

  -- primary {"[" or "]"}
  pub data IndexReads : List Tok → Expr → List Tok → Type 0 where
    one_primary : (ts rest : List Tok) (e : Expr) → PrimaryReads ts e rest → IndexReads ts e rest
    element : (ts us rest : List Tok) (e f : Expr) → IndexReads ts e (Single m.OpenBracket ∷ us) → OrReads us f (Single m.CloseBracket ∷ rest) → IndexReads ts (Index e f) rest

  -- digits | text | "true" | "false" | name | "[" [elements] "]" | "(" or ")"
  pub data PrimaryReads : List Tok → Expr → List Tok → Type 0 where
    digits : (bytes : List ℕ) (rest : List Tok) → PrimaryReads (Digits bytes ∷ rest) (Number bytes) rest
    text : (bytes : List ℕ) (rest : List Tok) → PrimaryReads (Quoted bytes ∷ rest) (Quote bytes) rest
    truth : (rest : List Tok) → PrimaryReads (Single m.True ∷ rest) (Constant true) rest
    falsehood : (rest : List Tok) → PrimaryReads (Single m.False ∷ rest) (Constant false) rest
    name : (bytes : List ℕ) (rest : List Tok) → PrimaryReads (Name bytes ∷ rest) (Named bytes) rest
    no_elements : (rest : List Tok) → PrimaryReads (Single m.OpenBracket ∷ Single m.CloseBracket ∷ rest) (Array Empty) rest
    array : (ts rest : List Tok) (es : Exprs) → ElementsRead ts es (Single m.CloseBracket ∷ rest) → PrimaryReads (Single m.OpenBracket ∷ ts) (Array es) rest
    paren : (ts rest : List Tok) (e : Expr) → OrReads ts e (Single m.Close ∷ rest) → PrimaryReads (Single m.Open ∷ ts) e rest

  -- or {"," or}
  pub data ElementsRead : List Tok → Exprs → List Tok → Type 0 where
    first : (ts rest : List Tok) (e : Expr) → OrReads ts e rest → ElementsRead ts (With Empty e) rest
    further : (ts us rest : List Tok) (es : Exprs) (e : Expr) → ElementsRead ts es (Single m.Comma ∷ us) → OrReads us e rest → ElementsRead ts (With es e) rest

-- the tokens are this expression
abbrev pub Reads : List Tok → Expr → Type 0
Reads ts e = OrReads ts e []

-- by the tokens before the first byte that begins none, and whether there is no such byte: the value, or the kind of
-- what is wrong
pub data Means (names : Names) : List Tok × Bool → Valued → Type 0 where
  deep : (ts : List Tok) (whole : Bool) → is_deep ts ≡ true → Means names (ts, whole) (Err NestDeep)
  cut : (ts : List Tok) → is_deep ts ≡ false → Means names (ts, false) (Err BadExpression)
  unread : (ts : List Tok) → is_deep ts ≡ false → ((e : Expr) → Reads ts e → ⊥) → Means names (ts, true) (Err BadExpression)
  read : (ts : List Tok) (e : Expr) → is_deep ts ≡ false → Reads ts e → Means names (ts, true) (value_of names e)

-- what was returned is what these bytes mean, unless there was no memory
abbrev pub GivesMeant : Names → List ℕ → Result SharedValue MacroFault → Type 0
GivesMeant names bytes (Ok value) = Means names (tokens bytes) (Ok (unshared value))
GivesMeant names bytes (Err (f.Refused kind)) = Means names (tokens bytes) (Err kind)
GivesMeant names bytes (Err f.NoMemory) = Unit {0}
