-- The forms of tokens, and a text as tokens between blanks and comments: said without reading from left to right (modpath's own, after the Dynare manual, "Conventions").
use Rattle.std.specs.Prelude.{◌≡◌, ◌⊎◌, ℕ, ◌+◌, ◌<◌, ◌≤◌, List, [], ◌∷◌, ◌++◌, length, true, codes}
use Rattle.std.specs.Char.{is_ascii_digit}
use Rattle.std.specs.List.{list_all}
use Rattle.mp_tokens.specs.declared.token.TokenKind.{TokenKind}
use Rattle.mp_tokens.specs.declared.token.TokenKind.TheVariants as k
use Rattle.mp_tokens.specs.Tokens.{Tok, is_blank, is_first, is_word, is_exponent, is_inside, is_on_line}

-- a letter or an underscore, then letters, digits and underscores, 128 bytes at most
abbrev pub IsWord : List ℕ → Type 0
IsWord [] = ⊥
IsWord (b ∷ bs) = (is_first b ≡ true) × (list_all is_word bs ≡ true) × (length bs ≤ 127)

-- digits, or nothing
abbrev pub AreDigits : List ℕ → Type 0
AreDigits bs = list_all is_ascii_digit bs ≡ true

-- digits, one at least
abbrev pub IsWhole : List ℕ → Type 0
IsWhole bs = AreDigits bs × (0 < length bs)

-- digits, one at least, with a point among, before or after them
abbrev pub IsPointed : List ℕ → Type 0
IsPointed bs =
    (front back : List ℕ) × AreDigits front × AreDigits back × (0 < length front + length back) × (bs ≡ front ++ (46 ∷ back))

-- a plus, a minus, or nothing
abbrev pub IsSign : List ℕ → Type 0
IsSign bs = (bs ≡ []) ⊎ ((bs ≡ codes "+") ⊎ (bs ≡ codes "-"))

-- the letter of an exponent of ten, a sign and digits
abbrev pub IsScale : List ℕ → Type 0
IsScale bs =
    (letter : ℕ) × (sign digits : List ℕ) × (is_exponent letter ≡ true) × IsSign sign × IsWhole digits × (bs ≡ letter ∷ (sign ++ digits))

-- digits with a point or without, and maybe an exponent of ten
abbrev pub IsNumber : List ℕ → Type 0
IsNumber bs =
    (mantissa scale : List ℕ) × (IsWhole mantissa ⊎ IsPointed mantissa) × ((scale ≡ []) ⊎ IsScale scale) × (bs ≡ mantissa ++ scale)

-- bytes of one line between two of these bytes, which do not stand inside
abbrev pub IsEnclosed : ℕ → List ℕ → Type 0
IsEnclosed quote bs =
    (inside : List ℕ) × (list_all (is_inside quote) inside ≡ true) × (bs ≡ quote ∷ (inside ++ (quote ∷ [])))

-- these bytes are a token of this kind
abbrev pub IsToken : TokenKind → List ℕ → Type 0
IsToken k.Name bs = IsWord bs
IsToken k.Whole bs = IsWhole bs
IsToken k.Number bs = IsNumber bs × (IsWhole bs → ⊥)
IsToken k.Text bs = IsEnclosed 39 bs ⊎ IsEnclosed 34 bs
IsToken k.Tex bs = IsEnclosed 36 bs
IsToken k.Semicolon bs = bs ≡ codes ";"
IsToken k.Comma bs = bs ≡ codes ","
IsToken k.Equals bs = bs ≡ codes "="
IsToken k.Open bs = bs ≡ codes "("
IsToken k.Close bs = bs ≡ codes ")"
IsToken k.OpenBracket bs = bs ≡ codes "["
IsToken k.CloseBracket bs = bs ≡ codes "]"
IsToken k.Plus bs = bs ≡ codes "+"
IsToken k.Minus bs = bs ≡ codes "-"
IsToken k.Star bs = bs ≡ codes "*"
IsToken k.Slash bs = bs ≡ codes "/"
IsToken k.Caret bs = bs ≡ codes "^"
IsToken k.Hash bs = bs ≡ codes "#"
IsToken k.Colon bs = bs ≡ codes ":"
IsToken k.Less bs = bs ≡ codes "<"
IsToken k.Greater bs = bs ≡ codes ">"
IsToken k.AtMost bs = bs ≡ codes "<="
IsToken k.AtLeast bs = bs ≡ codes ">="

-- a percent sign or two slashes, and no newline
abbrev pub IsLineComment : List ℕ → Type 0
IsLineComment bs =
    (inside : List ℕ) × (list_all is_on_line inside ≡ true) × ((bs ≡ 37 ∷ inside) ⊎ (bs ≡ 47 ∷ 47 ∷ inside))

-- no "*/" stands in these bytes
abbrev pub IsOpen : List ℕ → Type 0
IsOpen bs = (front back : List ℕ) → bs ≡ front ++ (42 ∷ 47 ∷ back) → ⊥

-- from "/*" to the first "*/" after it
abbrev pub IsBlockComment : List ℕ → Type 0
IsBlockComment bs =
    (inside : List ℕ) × IsOpen (inside ++ (42 ∷ [])) × (bs ≡ 47 ∷ 42 ∷ (inside ++ (42 ∷ 47 ∷ [])))

-- the text or its line ends before these bytes
abbrev pub EndsLine : List ℕ → Type 0
EndsLine [] = Unit {0}
EndsLine (b ∷ bs) = b ≡ 10

-- a blank or a whole comment, before these bytes
abbrev pub IsBetween : List ℕ → List ℕ → Type 0
IsBetween bs rest =
    ((b : ℕ) × (is_blank b ≡ true) × (bs ≡ b ∷ [])) ⊎ ((IsLineComment bs × EndsLine rest) ⊎ IsBlockComment bs)

-- a comment begins these bytes
abbrev pub BeginsComment : List ℕ → Type 0
BeginsComment bs =
    (rest : List ℕ) × ((bs ≡ 37 ∷ rest) ⊎ ((bs ≡ 47 ∷ 47 ∷ rest) ⊎ (bs ≡ 47 ∷ 42 ∷ rest)))

-- a token before these bytes: no comment begins there, and no token of any kind that begins there is longer
pub record IsLongest (kind : TokenKind) (bs rest : List ℕ) : Type 0 where
  pub form : IsToken kind bs
  pub plain : BeginsComment (bs ++ rest) → ⊥
  pub longest : (other : TokenKind) (more left : List ℕ) → IsToken other more → bs ++ rest ≡ more ++ left → length more ≤ length bs

-- these bytes, from this place of a text on, are these tokens one after the other, with blanks and comments between
pub data Spelled : ℕ → List ℕ → List Tok → Type 0 where
  Nothing : (at : ℕ) → Spelled at [] []
  Between : (at : ℕ) (bs rest : List ℕ) (ts : List Tok) → IsBetween bs rest → Spelled (at + length bs) rest ts → Spelled at (bs ++ rest) ts
  Longest : (at : ℕ) (kind : TokenKind) (bs rest : List ℕ) (ts : List Tok) → IsLongest kind bs rest → Spelled (at + length bs) rest ts → Spelled at (bs ++ rest) (record { kind = kind; bytes = bs; at = at } ∷ ts)
