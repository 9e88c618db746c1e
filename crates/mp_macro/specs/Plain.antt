-- The pieces of a plain line.
use Rattle.std.specs.Prelude.{ℕ, zero, suc, ◌+◌, List, [], ◌∷◌, ◌++◌, take, drop, Bool, false, not, ◌&&◌, ◌||◌, ◌==◌, if◌then◌else◌, Option, Some, None, option_map}
use Rattle.mp_directive.specs.Directives.{begins_comment, quoted_after}

-- text that is written as it stands, an expression whose value is written, or an expression without an end
pub data Piece : Type 0 where
  Verbatim : (text : List ℕ) → Piece
  Expression : (expr : List ℕ) → Piece
  Unclosed : Piece

-- `@{` begins here
abbrev pub begins_expression : ℕ → List ℕ → Bool
begins_expression b [] = false
begins_expression b (c ∷ bs) = b == 64 && c == 123

-- how many bytes stand before the first `@{`; none is there after the first `//` or `%`
unfoldable pub mark_at : List ℕ → Option ℕ
mark_at [] = None
mark_at (b ∷ bs) =
    if b == 37 || begins_comment b bs then None else if begins_expression b bs then Some 0 else option_map (λ n. n + 1) (mark_at bs)

-- how many bytes stand before the first `}` outside a `"` text
unfoldable pub end_at : Bool → List ℕ → Option ℕ
end_at quoted [] = None
end_at quoted (b ∷ bs) =
    if not quoted && b == 125 then Some 0 else option_map (λ n. n + 1) (end_at (quoted_after quoted b) bs)

-- an expression and its `}`, and then the pieces after them, past so many bytes
abbrev pub expression_then : List ℕ → Option ℕ → (ℕ → List Piece) → List Piece
expression_then bs None rest = Unclosed ∷ []
expression_then bs (Some n) rest = Expression (take n bs) ∷ rest (n + 1)

-- what stands before the mark `@{` and the expression; or all the rest with the newline
abbrev pub pieces_by : List ℕ → Option ℕ → (ℕ → List Piece) → List Piece
pieces_by bs None rest = Verbatim (bs ++ 10 ∷ []) ∷ []
pieces_by bs (Some k) rest =
    Verbatim (take k bs) ∷ expression_then (drop (k + 2) bs) (end_at false (drop (k + 2) bs)) (λ n. rest (k + 1 + n))

-- the pieces of a line past so many of its bytes
unfoldable pub pieces_from : List ℕ → ℕ → List Piece
pieces_from [] past = Verbatim (10 ∷ []) ∷ []
pieces_from (b ∷ bs) (suc past) = pieces_from bs past
pieces_from (b ∷ bs) zero = pieces_by (b ∷ bs) (mark_at (b ∷ bs)) (pieces_from bs)

-- the pieces of a line: text and expressions in turn; what follows the last expression ends with the newline
abbrev pub pieces : List ℕ → List Piece
pieces line = pieces_from line 0
