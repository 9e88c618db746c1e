-- Directive lines (Dynare manual, "Macro processing language"; blanks and comments are modpath's own).
use Rattle.std.specs.Prelude.{ℕ, suc, List, [], ◌∷◌, take, drop, codes, Bool, false, not, ◌||◌, ◌&&◌, ◌==◌, bytes_eq, if◌then◌else◌, Option, Some, None}
use Rattle.std.specs.List.{prefix_len}
use Rattle.mp_tokens.specs.Tokens.{is_blank, is_first, is_word}
use Rattle.mp_directive.specs.declared.keyword.Keyword.{Keyword}
use Rattle.mp_directive.specs.declared.keyword.Keyword.TheVariants as k

-- when the lines of a branch are taken: an expression holds, a name has a value, a name has none, or no earlier branch is
pub data Condition : Type 0 where
  Holds : (expr : List ℕ) → Condition
  Defined : (name : List ℕ) → Condition
  Undefined : (name : List ℕ) → Condition
  Otherwise : Condition

-- what one line does by itself: its text is written, a name gets a value (the number 1 where none is written), a text is
-- evaluated, or the user's fault
pub data Statement : Type 0 where
  Plain : (text : List ℕ) → Statement
  Define : (name : List ℕ) → (value : Option (List ℕ)) → Statement
  Echo : (expr : List ℕ) → Statement
  Error : (expr : List ℕ) → Statement

-- what a line is. `@#if`, `@#ifdef` and `@#ifndef` begin a choice, `@#elseif` and `@#else` a further branch of it.
pub data Content : Type 0 where
  Alone : Statement → Content
  Include : (expr : List ℕ) → Content
  If : Condition → Content
  Further : Condition → Content
  EndIf : Content
  For : (name array : List ℕ) → Content
  EndFor : Content
  IllFormed : Content

-- without the blanks in front: a line holds no line feed, so they are spaces, tabs, carriage returns and form feeds
abbrev pub trimmed : List ℕ → List ℕ
trimmed bs = drop (prefix_len is_blank bs) bs

-- the letters, digits and `_` in front
abbrev pub word : List ℕ → List ℕ
word bs = take (prefix_len is_word bs) bs

-- what follows them, past blanks
abbrev pub after_word : List ℕ → List ℕ
after_word bs = trimmed (drop (prefix_len is_word bs) bs)

-- a macro name: no digit first, and none of three words
abbrev pub is_name : List ℕ → Bool
is_name [] = false
is_name (b ∷ bs) =
    is_first b && not (bytes_eq (b ∷ bs) (codes "true") || bytes_eq (b ∷ bs) (codes "false") || bytes_eq (b ∷ bs) (codes "in"))

-- `//` begins here
abbrev pub begins_comment : ℕ → List ℕ → Bool
begins_comment b [] = false
begins_comment b (c ∷ bs) = b == 47 && c == 47

-- whether a `"` text is open after this byte
abbrev pub quoted_after : Bool → ℕ → Bool
quoted_after quoted b = if b == 34 then not quoted else quoted

-- how many bytes stand before the first `//` outside a `"` text
unfoldable pub code_length : Bool → List ℕ → ℕ
code_length quoted [] = 0
code_length quoted (b ∷ bs) =
    if not quoted && begins_comment b bs then 0 else suc (code_length (quoted_after quoted b) bs)

-- without the comment
abbrev pub code : List ℕ → List ℕ
code bs = take (code_length false bs) bs

-- the words of directives
unfoldable pub keyword_of : List ℕ → Option Keyword
keyword_of w =
    if bytes_eq w (codes "define") then Some k.Define else if bytes_eq w (codes "if") then Some k.If else if bytes_eq w (codes "elseif") then Some k.ElseIf else if bytes_eq w (codes "else") then Some k.Else else if bytes_eq w (codes "endif") then Some k.EndIf else if bytes_eq w (codes "ifdef") then Some k.IfDef else if bytes_eq w (codes "ifndef") then Some k.IfNDef else if bytes_eq w (codes "for") then Some k.For else if bytes_eq w (codes "endfor") then Some k.EndFor else if bytes_eq w (codes "include") then Some k.Include else if bytes_eq w (codes "echo") then Some k.Echo else if bytes_eq w (codes "error") then Some k.Error else None

-- nothing may follow
abbrev pub alone : Content → List ℕ → Content
alone c [] = c
alone c (b ∷ bs) = IllFormed

-- after the name: nothing, or `=` and an expression
abbrev pub define_of : List ℕ → List ℕ → Content
define_of name [] = Alone (Define name None)
define_of name (b ∷ bs) = if b == 61 then Alone (Define name (Some bs)) else IllFormed

-- after the name: `in` and an expression
abbrev pub for_of : List ℕ → List ℕ → Content
for_of name rest = if bytes_eq (word rest) (codes "in") then For name (after_word rest) else IllFormed

-- a macro name and what follows it
abbrev pub named : (List ℕ → List ℕ → Content) → List ℕ → Content
named next rest = if is_name (word rest) then next (word rest) (after_word rest) else IllFormed

-- by the word of the directive
abbrev pub content_by : Option Keyword → List ℕ → Content
content_by (Some k.Define) rest = named define_of rest
content_by (Some k.If) rest = If (Holds rest)
content_by (Some k.ElseIf) rest = Further (Holds rest)
content_by (Some k.Else) rest = alone (Further Otherwise) rest
content_by (Some k.EndIf) rest = alone EndIf rest
content_by (Some k.IfDef) rest = named (λ name. alone (If (Defined name))) rest
content_by (Some k.IfNDef) rest = named (λ name. alone (If (Undefined name))) rest
content_by (Some k.For) rest = named for_of rest
content_by (Some k.EndFor) rest = alone EndFor rest
content_by (Some k.Include) rest = Include rest
content_by (Some k.Echo) rest = Alone (Echo rest)
content_by (Some k.Error) rest = Alone (Error rest)
content_by None rest = IllFormed

-- what stands after `@#`
abbrev pub directive_of : List ℕ → Content
directive_of bs = let c = trimmed (code bs) in content_by (keyword_of (word c)) (after_word c)

-- what follows this byte, where it begins
abbrev pub past : ℕ → List ℕ → Option (List ℕ)
past c [] = None
past c (b ∷ bs) = if b == c then Some bs else None

-- what follows `@#`, where it begins
abbrev pub past_mark : List ℕ → Option (List ℕ)
past_mark bs = by (past 64 bs)
  where
    by : Option (List ℕ) → Option (List ℕ)
    by None = None
    by (Some more) = past 35 more

-- by what follows `@#`
abbrev pub content_past : List ℕ → Option (List ℕ) → Content
content_past line None = Alone (Plain line)
content_past line (Some rest) = directive_of rest

-- a line whose first bytes that are no blanks are `@#` is a directive; every other line is plain
abbrev pub content_of : List ℕ → Content
content_of line = content_past line (past_mark (trimmed line))
