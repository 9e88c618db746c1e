-- The tokens of an expression.
use Rattle.std.specs.Prelude.{ℕ, zero, suc, ◌+◌, List, [], ◌∷◌, ◌++◌, map, take, slice_index, codes, Bool, true, false, ◌||◌, ◌&&◌, ◌==◌, nat_lt, bytes_eq, if◌then◌else◌, Option, Some, None}
use Rattle.std.specs.Char.{is_ascii_digit}
use Rattle.std.specs.List.{prefix_len}
use Rattle.mp_tokens.specs.Tokens.{is_blank, is_first, is_word, is_inside}
use Rattle.mp_mexpr.specs.declared.operator.Operator.{Operator}
use Rattle.mp_mexpr.specs.declared.operator.Operator.TheVariants.{Or, And, Equal, Different, Less, Greater, AtMost, AtLeast, In, Range, Add, Subtract, Multiply}
use Rattle.mp_mexpr.specs.declared.token.Mark.{Mark}
use Rattle.mp_mexpr.specs.declared.token.Mark.TheVariants as m
use Rattle.mp_mexpr.specs.declared.token.Token.{Token}
use Rattle.mp_mexpr.specs.declared.token.Token.TheVariants as t

-- a token
pub data Tok : Type 0 where
  Digits : List ℕ → Tok
  Quoted : List ℕ → Tok
  Name : List ℕ → Tok
  Binary : Operator → Tok
  Single : Mark → Tok

-- a token of the code
abbrev pub tok_of : Token → Tok
tok_of (t.Digits bytes) = Digits bytes.now
tok_of (t.Quoted bytes) = Quoted bytes.now
tok_of (t.Name bytes) = Name bytes.now
tok_of (t.Binary o) = Binary o
tok_of (t.Single mark) = Single mark

-- what begins, in the code
abbrev pub begun_of : Option (Token × ℕ) → Option (Tok × ℕ)
begun_of None = None
begun_of (Some x) = Some (tok_of x.0, x.1)

-- the tokens of the code
abbrev pub toks : List Token → List Tok
toks ts = map tok_of ts

-- the operator of two bytes
abbrev pub pair_of : ℕ → ℕ → Option Operator
pair_of b next =
    if b == 124 && next == 124 then Some Or else if b == 38 && next == 38 then Some And else if b == 61 && next == 61 then Some Equal else if b == 33 && next == 61 then Some Different else if b == 60 && next == 61 then Some AtMost else if b == 62 && next == 61 then Some AtLeast else None

-- the operator of one byte
abbrev pub operator_of : ℕ → Option Operator
operator_of b =
    if b == 60 then Some Less else if b == 62 then Some Greater else if b == 58 then Some Range else if b == 43 then Some Add else if b == 45 then Some Subtract else if b == 42 then Some Multiply else None

-- the mark of a byte
abbrev pub mark_of : ℕ → Option Mark
mark_of b =
    if b == 33 then Some m.Not else if b == 91 then Some m.OpenBracket else if b == 93 then Some m.CloseBracket else if b == 44 then Some m.Comma else if b == 40 then Some m.Open else if b == 41 then Some m.Close else None

-- a word: a name but for three
abbrev pub word_of : List ℕ → Tok
word_of w =
    if bytes_eq w (codes "in") then Binary In else if bytes_eq w (codes "true") then Single m.True else if bytes_eq w (codes "false") then Single m.False else Name w

-- a token, and how many bytes after its first it has
abbrev pub Begun : Type 0
Begun = Option (Tok × ℕ)

-- the longest of these signs
abbrev pub sign_at : Option Operator → Option Operator → Option Mark → Begun
sign_at (Some pair) o mark = Some (Binary pair, 1)
sign_at None (Some o) mark = Some (Binary o, 0)
sign_at None None (Some mark) = Some (Single mark, 0)
sign_at None None None = None

-- the operator of this byte and the next
abbrev pub pair_at : ℕ → List ℕ → Option Operator
pair_at b [] = None
pair_at b (next ∷ bs) = pair_of b next

-- the text after a quote, up to the next on the line
unfoldable pub quoted_at : List ℕ → Begun
quoted_at bs =
    if slice_index bs (prefix_len (is_inside 34) bs) == 34 then Some (Quoted (take (prefix_len (is_inside 34) bs) bs), prefix_len (is_inside 34) bs + 1) else None

-- the token that begins here
unfoldable pub token_at : List ℕ → Begun
token_at [] = None
token_at (b ∷ bs) =
    if is_ascii_digit b then Some (Digits (b ∷ take (prefix_len is_ascii_digit bs) bs), prefix_len is_ascii_digit bs) else if is_first b then Some (word_of (b ∷ take (prefix_len is_word bs) bs), prefix_len is_word bs) else if b == 34 then quoted_at bs else sign_at (pair_at b bs) (operator_of b) (mark_of b)

-- one token more in front
abbrev pub before : List Tok → List Tok × Bool → List Tok × Bool
before front r = (front ++ r.0, r.1)

-- the token that begins here and those after it, or none from here on
abbrev pub and_then : Begun → (ℕ → List Tok × Bool) → List Tok × Bool
and_then None rest = ([], false)
and_then (Some t) rest = before (t.0 ∷ []) (rest t.1)

-- the tokens before the first byte that begins none, past this many bytes; and whether there is no such byte
unfoldable pub tokens_from : List ℕ → ℕ → List Tok × Bool
tokens_from [] inside = ([], true)
tokens_from (b ∷ bs) (suc inside) = tokens_from bs inside
tokens_from (b ∷ bs) zero = if is_blank b then tokens_from bs 0 else and_then (token_at (b ∷ bs)) (tokens_from bs)

-- the tokens of a text before the first byte that begins none; and whether there is no such byte
abbrev pub tokens : List ℕ → List Tok × Bool
tokens text = tokens_from text 0

-- how many brackets a token opens
abbrev pub opens : Tok → ℕ
opens (Single m.Open) = 1
opens (Single m.OpenBracket) = 1
opens _ = 0

-- how many brackets a token closes
abbrev pub closes : Tok → ℕ
closes (Single m.Close) = 1
closes (Single m.CloseBracket) = 1
closes _ = 0

-- after so many brackets that open and that close, some of these tokens makes those over 100 more than these
unfoldable pub deep_after : ℕ → ℕ → List Tok → Bool
deep_after opened closed [] = false
deep_after opened closed (t ∷ ts) =
    nat_lt (closed + closes t + 100) (opened + opens t) || deep_after (opened + opens t) (closed + closes t) ts

-- some first tokens have over 100 more brackets that open than such that close
abbrev pub is_deep : List Tok → Bool
is_deep ts = deep_after 0 0 ts
