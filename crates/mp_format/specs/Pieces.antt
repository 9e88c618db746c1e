-- A text that is written piece by piece, and what a token may run into.
use Rattle.std.specs.Prelude.{◌≡◌, ℕ, ◌+◌, ◌≤◌, ◌<◌, List, [], ◌∷◌, ◌++◌, length, Bool, true, false, not, ◌&&◌, ◌||◌, ◌==◌, Option, Some, None}
use Rattle.std.specs.Char.{is_ascii_digit}
use Rattle.std.specs.List.{list_all}
use Rattle.mp_tokens.specs.declared.token.TokenKind.{TokenKind}
use Rattle.mp_tokens.specs.declared.token.TokenKind.TheVariants as k
use Rattle.mp_tokens.specs.declared.terminal.Terminal.TheVariants as t
use Rattle.mp_tokens.specs.Tokens.{Tok, Token, is_blank, is_first, is_word, is_exponent, is_inside, number_length, begun_at}
use Rattle.mp_tokens.specs.Terminals.{word_of}

-- a token, or one blank
pub data Piece : Type 0 where
  Solid : (token : Tok) → Piece
  Blank : (byte : ℕ) → Piece

abbrev pub words : List Piece → List Tok
words [] = []
words (Solid u ∷ ps) = u ∷ words ps
words (Blank b ∷ ps) = words ps

abbrev pub blanks : List ℕ → List Piece
blanks [] = []
blanks (b ∷ bs) = Blank b ∷ blanks bs

-- the bytes
abbrev pub text_of : List Piece → List ℕ
text_of [] = []
text_of (Solid u ∷ ps) = u.bytes ++ text_of ps
text_of (Blank b ∷ ps) = b ∷ text_of ps

-- the tokens, where the pieces stand from this place on
abbrev pub placed : ℕ → List Piece → List Tok
placed at [] = []
placed at (Solid u ∷ ps) = record { kind = u.kind; bytes = u.bytes; at = at } ∷ placed (at + length u.bytes) ps
placed at (Blank b ∷ ps) = placed (at + 1) ps

-- the blanks that a token has before and after it
pub record Around : Type 0 where
  pub before : List ℕ
  pub after : List ℕ

abbrev pub close : Around
close = record { before = []; after = [] }

-- the four ways in which a token runs into what follows: a name goes on, a number goes on, a slash begins a comment, < and > take an equals sign
pub data Run : Type 0 where
  AfterName : Run
  AfterNumber : Run
  AfterSlash : Run
  AfterOrder : Run

abbrev pub run_of : TokenKind → Option Run
run_of k.Name = Some AfterName
run_of k.Whole = Some AfterNumber
run_of k.Number = Some AfterNumber
run_of k.Slash = Some AfterSlash
run_of k.Less = Some AfterOrder
run_of k.Greater = Some AfterOrder
run_of _ = None

-- a digit, a point or the letter of an exponent
abbrev pub is_numeric : ℕ → Bool
is_numeric b = is_ascii_digit b || b == 46 || is_exponent b

-- with which byte it does
abbrev pub runs_into : Run → ℕ → Bool
runs_into AfterName b = is_word b
runs_into AfterNumber b = is_numeric b
runs_into AfterSlash b = b == 47 || b == 42
runs_into AfterOrder b = b == 61

abbrev pub stops : Run → List ℕ → Bool
stops r [] = true
stops r (b ∷ bs) = not (runs_into r b)

abbrev pub clear : Option Run → List ℕ → Bool
clear None bs = true
clear (Some r) bs = stops r bs

-- these bytes are one token of this kind before all that it does not run into
abbrev pub IsOne : TokenKind → List ℕ → Type 0
IsOne kind [] = ⊥
IsOne kind (b ∷ bs) =
    (is_blank b ≡ false) × ((at : ℕ) (rest : List ℕ) → clear (run_of kind) rest ≡ true → begun_at at b (bs ++ rest) ≡ Token (record { kind = kind; bytes = b ∷ bs; at = at }))

-- each token is one, and none runs into what follows
abbrev pub Apart : List Piece → Type 0
Apart [] = Unit {0}
Apart (Solid u ∷ ps) = IsOne u.kind u.bytes × (clear (run_of u.kind) (text_of ps) ≡ true) × Apart ps
Apart (Blank b ∷ ps) = (is_blank b ≡ true) × Apart ps

-- for each way, yes or no
abbrev pub Edge : Type 0
Edge = Run → Bool

abbrev pub all_runs : Edge → Bool
all_runs p = p AfterName && (p AfterNumber && (p AfterSlash && p AfterOrder))

-- where text ends so and goes on so, nothing runs into it
abbrev pub free : Edge → Edge → Bool
free ending opening = all_runs (λ r. not (ending r && opening r))

abbrev pub within : Edge → Edge → Bool
within a b = all_runs (λ r. not (a r) || b r)

-- what ends so does not run into this text
abbrev pub Clears : Edge → List ℕ → Type 0
Clears e text = (r : Run) → e r ≡ true → stops r text ≡ true

-- how trees are written: their values, their pieces, what might run into the first and what the last might run into
pub record Script (T X : Type 0) : Type 0 where
  pub value : T → X
  pub pieces : T → List Piece
  pub opens : Run → Bool
  pub closes : Run → Bool

-- a letter or an underscore, then at most 127 letters, digits and underscores
abbrev pub IsWord : List ℕ → Type 0
IsWord [] = ⊥
IsWord (b ∷ bs) = (is_first b ≡ true) × (list_all is_word bs ≡ true) × (length bs ≤ 127)

-- a word that is not reserved
abbrev pub IsName : List ℕ → Type 0
IsName bs = IsWord bs × (word_of bs ≡ t.Name)

-- one number, to its end
abbrev pub IsLiteral : List ℕ → Type 0
IsLiteral bs = (0 < length bs) × (number_length bs ≡ length bs)

-- digits, one at least
abbrev pub AreDigits : List ℕ → Type 0
AreDigits digits = (0 < length digits) × (list_all is_ascii_digit digits ≡ true)

-- a quote, bytes of one line without it, and the quote again
abbrev pub IsText : List ℕ → Type 0
IsText bytes =
    (quote : ℕ) × (inside : List ℕ) × (bytes ≡ quote ∷ (inside ++ (quote ∷ []))) × ((quote == 39 || quote == 34) ≡ true) × (list_all (is_inside quote) inside ≡ true)
