-- What begins at a place is as long as each token that begins there.
use Rattle.std.proofs.Common.{◌≡◌, inl, inr, ℕ, suc, ◌+◌, ◌-◌, ◌≤◌, List, [], ◌∷◌, ◌++◌, length, drop, Bool, true, false, cond, ◌||◌, ◌==◌, nat_lt, Option, Some, None, refl, sym, ap, subst, ◌∙◌, arith, append_assoc, length-append, length-take}
use Rattle.std.proofs.lemmas.List.Folds.{length-prefix_len}
use Rattle.std.proofs.lemmas.Bool.Decides.{nat_tests}
use Rattle.std.specs.Char.{is_ascii_digit}
use Rattle.std.specs.List.{prefix_len, list_all}
use Rattle.mp_tokens.specs.declared.token.TokenKind.{TokenKind}
use Rattle.mp_tokens.specs.declared.token.TokenKind.TheVariants as k
use Rattle.mp_tokens.specs.Tokens.{Tok, Begun, Token, Comment, Wrong, LongName, BadByte, OpenText, is_first, is_word, begins, is_inside, number_length, number_kind, comment_length, token, enclosed_at, block_comment, begun_at}
use Rattle.mp_tokens.specs.Forms.{IsWord, IsWhole, IsNumber, IsEnclosed, IsToken, BeginsComment}
use Rattle.mp_tokens.proofs.Runs.{run_through}
use Rattle.mp_tokens.proofs.SliceLaws.{Makes, makes}
use Rattle.mp_tokens.proofs.NumberForms.{number_at_least, number_begins}

-- if a token begins, it has so many bytes
abbrev Reaches : ℕ → Begun → Type 0
Reaches n (Token t) = n ≤ length t.bytes
Reaches n (Comment more) = Unit {0}
Reaches n (Wrong fault) = Unit {0}

-- if a token begins where these bytes stand before others, it has them all
abbrev Reached : ℕ → List ℕ → List ℕ → Type 0
Reached at [] left = Unit {0}
Reached at (b ∷ bs) left = Reaches (suc (length bs)) (begun_at at b (bs ++ left))

reaches_first : (n : ℕ) (t : Bool) (x y : Begun) → t ≡ true → Reaches n x → Reaches n (cond t x y)
reaches_first n true x y e p = p
reaches_first n false x y e p = cc

reaches_next : (n : ℕ) (t : Bool) (x y : Begun) → t ≡ false → Reaches n y → Reaches n (cond t x y)
reaches_next n true x y e p = cc
reaches_next n false x y e p = p

-- a token has one byte at least
some_byte : (at : ℕ) (bs : List ℕ) (x : Begun) → Makes at bs x → Reaches 1 x
some_byte at bs (Token t) m = omega (arith, m.some)
some_byte at bs (Comment more) m = tt
some_byte at bs (Wrong fault) m = tt

one_reached : (at b : ℕ) (bs left : List ℕ) → bs ≡ b ∷ [] → Reached at bs left
one_reached at b bs left is =
    subst (λ l. Reached at l left) (sym is) (some_byte at (b ∷ left) (begun_at at b left) (makes at b left))

at_most_reached : (at : ℕ) (left : List ℕ) → Reached at (60 ∷ 61 ∷ []) left
unfolding begun_at
at_most_reached at left = omega arith

at_least_reached : (at : ℕ) (left : List ℕ) → Reached at (62 ∷ 61 ∷ []) left
unfolding begun_at
at_least_reached at left = omega arith

name_reached : (at : ℕ) (bs left : List ℕ) → IsWord bs → Reached at bs left
unfolding begun_at
name_reached at [] left is = absurd is
name_reached at (b ∷ bs) left is =
    reaches_first (suc (length bs)) (is_first b) _ _ is.0 (by (nat_lt 127 n))
  where
    n : ℕ
    n = prefix_len is_word (bs ++ left)

    by : (long : Bool) → Reaches (suc (length bs)) (cond long (Wrong (LongName at)) (token k.Name n at b (bs ++ left)))
    by true = tt
    by false =
        omega (arith, length-prefix_len is_word (bs ++ left), run_through is_word bs left is.1)

-- a digit and a point are neither letters nor underscores
numeric : (b : ℕ) → (is_ascii_digit b || b == 46) ≡ true → is_first b ≡ false
numeric b e = grind (arith, nat_tests)

number_reached : (at : ℕ) (bs left : List ℕ) → IsNumber bs → Reached at bs left
unfolding begun_at
number_reached at [] left is = tt
number_reached at (b ∷ bs) left is =
    reaches_next (suc (length bs)) (is_first b) _ _ (numeric b first) (reaches_first (suc (length bs)) (is_ascii_digit b || b == 46) _ _ first (by (n == 0)))
  where
    first : (is_ascii_digit b || b == 46) ≡ true
    first = number_begins b bs is

    n : ℕ
    n = number_length (b ∷ (bs ++ left))

    by : (none : Bool) → Reaches (suc (length bs)) (cond none (Wrong (BadByte at)) (token (number_kind (b ∷ (bs ++ left))) (n - 1) at b (bs ++ left)))
    by true = tt
    by false =
        omega (arith, length-take (n - 1) (bs ++ left), length-append bs left, number_at_least (b ∷ bs) left is)

-- digits alone are a number
whole_number : (bs : List ℕ) → IsWhole bs → IsNumber bs
whole_number bs is = (bs, [], inl is, inl refl, append-nil' bs)
  where
    append-nil' : (l : List ℕ) → l ≡ l ++ []
    append-nil' [] = refl
    append-nil' (x ∷ xs) = ap (λ l. x ∷ l) (append-nil' xs)

enclosed_at_reaches : (kind : TokenKind) (at b : ℕ) (inside left : List ℕ) → list_all (is_inside b) inside ≡ true → Reaches (suc (length (inside ++ (b ∷ [])))) (enclosed_at kind at b ((inside ++ (b ∷ [])) ++ left))
enclosed_at_reaches kind at b inside left all =
    by (begins b (drop (prefix_len (is_inside b) bs) bs))
  where
    bs : List ℕ
    bs = (inside ++ (b ∷ [])) ++ left

    counted : prefix_len (is_inside b) bs ≡ length inside + prefix_len (is_inside b) ((b ∷ []) ++ left)
    counted =
        ap (prefix_len (is_inside b)) (append_assoc inside (b ∷ []) left) ∙ run_through (is_inside b) inside ((b ∷ []) ++ left) all

    by : (t : Bool) → Reaches (suc (length (inside ++ (b ∷ [])))) (cond t (token kind (prefix_len (is_inside b) bs + 1) at b bs) (Wrong (OpenText at)))
    by false = tt
    by true =
        omega (arith, length-take (prefix_len (is_inside b) bs + 1) bs, length-append (inside ++ (b ∷ [])) left, length-append inside (b ∷ []), counted)

quote_reached : (at : ℕ) (bs left : List ℕ) → IsEnclosed 39 bs → Reached at bs left
unfolding begun_at
quote_reached at bs left (inside, all, is) =
    subst (λ l. Reached at l left) (sym is) (enclosed_at_reaches k.Text at 39 inside left all)

double_reached : (at : ℕ) (bs left : List ℕ) → IsEnclosed 34 bs → Reached at bs left
unfolding begun_at
double_reached at bs left (inside, all, is) =
    subst (λ l. Reached at l left) (sym is) (enclosed_at_reaches k.Text at 34 inside left all)

tex_reached : (at : ℕ) (bs left : List ℕ) → IsEnclosed 36 bs → Reached at bs left
unfolding begun_at
tex_reached at bs left (inside, all, is) =
    subst (λ l. Reached at l left) (sym is) (enclosed_at_reaches k.Tex at 36 inside left all)

reached : (at : ℕ) (kind : TokenKind) (bs left : List ℕ) → IsToken kind bs → Reached at bs left
reached at k.Name bs left is = name_reached at bs left is
reached at k.Whole bs left is = number_reached at bs left (whole_number bs is)
reached at k.Number bs left is = number_reached at bs left is.0
reached at k.Text bs left (inl is) = quote_reached at bs left is
reached at k.Text bs left (inr is) = double_reached at bs left is
reached at k.Tex bs left is = tex_reached at bs left is
reached at k.Semicolon bs left is = one_reached at 59 bs left is
reached at k.Comma bs left is = one_reached at 44 bs left is
reached at k.Equals bs left is = one_reached at 61 bs left is
reached at k.Open bs left is = one_reached at 40 bs left is
reached at k.Close bs left is = one_reached at 41 bs left is
reached at k.OpenBracket bs left is = one_reached at 91 bs left is
reached at k.CloseBracket bs left is = one_reached at 93 bs left is
reached at k.Plus bs left is = one_reached at 43 bs left is
reached at k.Minus bs left is = one_reached at 45 bs left is
reached at k.Star bs left is = one_reached at 42 bs left is
reached at k.Slash bs left is = one_reached at 47 bs left is
reached at k.Caret bs left is = one_reached at 94 bs left is
reached at k.Hash bs left is = one_reached at 35 bs left is
reached at k.Colon bs left is = one_reached at 58 bs left is
reached at k.Less bs left is = one_reached at 60 bs left is
reached at k.Greater bs left is = one_reached at 62 bs left is
reached at k.AtMost bs left is = subst (λ l. Reached at l left) (sym is) (at_most_reached at left)
reached at k.AtLeast bs left is = subst (λ l. Reached at l left) (sym is) (at_least_reached at left)

-- no token at the front of these bytes is longer than the one that begins there
pub as_long : (at b : ℕ) (bs : List ℕ) (t : Tok) (kind : TokenKind) (more left : List ℕ) → begun_at at b bs ≡ Token t → IsToken kind more → b ∷ bs ≡ more ++ left → length more ≤ length t.bytes
as_long at b bs t kind [] left e is split = omega arith
as_long at b bs t kind (c ∷ more) left e is split =
    let first : b ≡ c = cc in
    let rest : bs ≡ more ++ left = cc in
    let same : begun_at at c (more ++ left) ≡ Token t = ap (λ l. begun_at at c l) (sym rest) ∙ ap (λ d. begun_at at d bs) (sym first) ∙ e in
    subst (Reaches (suc (length more))) same (reached at kind (c ∷ more) left is)

-- where a comment begins no token does
abbrev IsNoToken : Begun → Type 0
IsNoToken (Token t) = ⊥
IsNoToken _ = Unit {0}

abbrev HasNoToken : ℕ → List ℕ → Type 0
HasNoToken at [] = Unit {0}
HasNoToken at (b ∷ bs) = IsNoToken (begun_at at b bs)

block_no_token : (at : ℕ) (o : Option ℕ) → IsNoToken (block_comment at o)
block_no_token at None = tt
block_no_token at (Some more) = tt

percent_no_token : (at : ℕ) (rest : List ℕ) → HasNoToken at (37 ∷ rest)
unfolding begun_at
percent_no_token at rest = tt

slashes_no_token : (at : ℕ) (rest : List ℕ) → HasNoToken at (47 ∷ 47 ∷ rest)
unfolding begun_at
slashes_no_token at rest = tt

star_no_token : (at : ℕ) (rest : List ℕ) → HasNoToken at (47 ∷ 42 ∷ rest)
unfolding begun_at
star_no_token at rest = block_no_token at (comment_length rest)

no_token : (at : ℕ) (bs : List ℕ) → BeginsComment bs → HasNoToken at bs
no_token at bs (rest, inl is) = subst (HasNoToken at) (sym is) (percent_no_token at rest)
no_token at bs (rest, inr (inl is)) = subst (HasNoToken at) (sym is) (slashes_no_token at rest)
no_token at bs (rest, inr (inr is)) = subst (HasNoToken at) (sym is) (star_no_token at rest)

pub no_comment : (at b : ℕ) (bs : List ℕ) (t : Tok) → begun_at at b bs ≡ Token t → BeginsComment (b ∷ bs) → ⊥
no_comment at b bs t e begins = subst IsNoToken e (no_token at (b ∷ bs) begins)
