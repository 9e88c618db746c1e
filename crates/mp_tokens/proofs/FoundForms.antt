-- What begins at a place has its form: a token is one of its kind, a comment a whole one.
use Rattle.std.proofs.Common.{◌≡◌, ◌⊎◌, inl, inr, ℕ, suc, ◌+◌, ◌-◌, ◌<◌, ◌≤◌, List, [], ◌∷◌, ◌++◌, length, take, drop, Bool, true, false, cond, not, ◌&&◌, ◌||◌, ◌==◌, nat_lt, Option, Some, None, option_map, get_or, true≢false, refl, sym, ap, subst, ◌∙◌, arith, length-append, take-append-drop, length-take-le}
use Rattle.std.proofs.lemmas.List.Folds.{length-prefix_len}
use Rattle.std.proofs.lemmas.List.Sums.{prefix_len-le-length}
use Rattle.std.proofs.lemmas.Bool.Decides.{nat_tests}
use Rattle.std.specs.Char.{is_ascii_digit}
use Rattle.std.specs.List.{prefix_len}
use Rattle.mp_tokens.specs.declared.token.TokenKind.{TokenKind}
use Rattle.mp_tokens.specs.declared.token.TokenKind.TheVariants as k
use Rattle.mp_tokens.specs.Tokens.{Begun, Token, Comment, Wrong, LongName, BadByte, OpenText, is_first, is_word, begins, is_inside, is_on_line, digits_length, mantissa_length, exponent_length, number_length, number_kind, comment_length, token, name_at, number_at, enclosed_at, line_comment, block_comment, symbol_of, or_equal, longest_symbol, symbol_at, begun_at}
use Rattle.mp_tokens.specs.Forms.{IsWhole, IsEnclosed, IsToken, IsOpen, EndsLine, IsBetween}
use Rattle.mp_tokens.proofs.Runs.{both_true, same_number, not_zero, not_less, one_more, run_passes, run_through, closes_with, take_one}
use Rattle.mp_tokens.proofs.NumberSizes.{number-le}
use Rattle.mp_tokens.proofs.NumberForms.{number_form}

-- a token has its form, and a comment is whole and ends within these bytes
abbrev pub Good : ℕ → List ℕ → Begun → Type 0
Good b bs (Token t) = IsToken t.kind t.bytes
Good b bs (Comment n) = (n ≤ length bs) × IsBetween (b ∷ take n bs) (drop n bs)
Good b bs (Wrong fault) = Unit {0}

good_if : (b : ℕ) (bs : List ℕ) (t : Bool) (x y : Begun) → (t ≡ true → Good b bs x) → Good b bs y → Good b bs (cond t x y)
good_if b bs true x y p q = p refl
good_if b bs false x y p q = q

-- ---- names, numbers and texts

name_good : (at b : ℕ) (bs : List ℕ) → is_first b ≡ true → Good b bs (name_at at b bs)
name_good at b bs first = by (nat_lt 127 (prefix_len is_word bs)) refl
  where
    by : (long : Bool) → nat_lt 127 (prefix_len is_word bs) ≡ long → Good b bs (cond long (Wrong (LongName at)) (token k.Name (prefix_len is_word bs) at b bs))
    by true e = tt
    by false e =
        (first, run_passes is_word bs, omega (arith, length-prefix_len is_word bs, not_less (prefix_len is_word bs) e))

-- the digits at the front are a part of the number there
digits_le_number : (bs : List ℕ) → digits_length bs ≤ number_length bs
digits_le_number bs = by (mantissa_length bs == 0) refl
  where
    none : (n : ℕ) → (n == 0) ≡ true → n ≡ 0
    none n e = grind (arith, nat_tests)

    by : (t : Bool) → (mantissa_length bs == 0) ≡ t → digits_length bs ≤ cond t 0 (mantissa_length bs + exponent_length (drop (mantissa_length bs) bs))
    by true e = omega (arith, none (mantissa_length bs) e)
    by false e = omega arith

-- a number that is longer than the digits at the front is no number of digits alone
not_whole : (bs : List ℕ) → (number_length bs == digits_length bs) ≡ false → IsWhole (take (number_length bs) bs) → ⊥
not_whole bs differ whole =
    unequal (number_length bs) (digits_length bs) differ (omega (arith, digits_le_number bs, counted, run_through is_ascii_digit (take (number_length bs) bs) (drop (number_length bs) bs) whole.0, ap digits_length (take-append-drop (number_length bs) bs)))
  where
    unequal : (m n : ℕ) → (m == n) ≡ false → m ≡ n → ⊥
    unequal m n e same = grind (arith, nat_tests)

    counted : length (take (number_length bs) bs) ≡ number_length bs
    counted = length-take-le (number_length bs) bs (number-le bs)

number_good : (at b : ℕ) (bs : List ℕ) → Good b bs (number_at at b bs)
number_good at b bs = by (n == 0) refl
  where
    n : ℕ
    n = number_length (b ∷ bs)

    whole : (bytes : List ℕ) → bytes ≡ take n (b ∷ bs) → n ≡ digits_length (b ∷ bs) → 0 < n → IsWhole bytes
    whole bytes is same some =
        subst IsWhole (sym is) (subst (λ m. IsWhole (take m (b ∷ bs))) (sym same) (run_passes is_ascii_digit (b ∷ bs), omega (arith, length-prefix_len is_ascii_digit (b ∷ bs))))

    of_kind : (t : Bool) → (n == digits_length (b ∷ bs)) ≡ t → (bytes : List ℕ) → bytes ≡ take n (b ∷ bs) → 0 < n → IsToken (cond t k.Whole k.Number) bytes
    of_kind true e bytes is some = whole bytes is (same_number n (digits_length (b ∷ bs)) e) some
    of_kind false e bytes is some =
        subst (IsToken k.Number) (sym is) (number_form (b ∷ bs) some, not_whole (b ∷ bs) e)

    by : (none : Bool) → (n == 0) ≡ none → Good b bs (cond none (Wrong (BadByte at)) (token (number_kind (b ∷ bs)) (n - 1) at b bs))
    by true e = tt
    by false e =
        let front : suc (n - 1) ≡ n = omega (arith, not_zero n e) in
        of_kind (n == digits_length (b ∷ bs)) refl (b ∷ take (n - 1) bs) (ap (λ m. take m (b ∷ bs)) front) (not_zero n e)

-- what closes with the byte that it opens with
enclosed_good : (kind : TokenKind) (at b : ℕ) (bs : List ℕ) → ((bytes : List ℕ) → IsEnclosed b bytes → IsToken kind bytes) → Good b bs (enclosed_at kind at b bs)
enclosed_good kind at b bs is = by (begins b (drop (prefix_len (is_inside b) bs) bs)) refl
  where
    by : (c : Bool) → begins b (drop (prefix_len (is_inside b) bs) bs) ≡ c → Good b bs (cond c (token kind (prefix_len (is_inside b) bs + 1) at b bs) (Wrong (OpenText at)))
    by false e = tt
    by true e =
        let h = closes_with b (drop (prefix_len (is_inside b) bs) bs) e in
        is (b ∷ take (prefix_len (is_inside b) bs + 1) bs) (take (prefix_len (is_inside b) bs) bs, run_passes (is_inside b) bs, ap (λ l. b ∷ l) (take_one (prefix_len (is_inside b) bs) bs h.0 b h.1))

quoted : (p q : Bool) (b : ℕ) (bytes : List ℕ) → (b == 39) ≡ p → (b == 34) ≡ q → (p || q) ≡ true → IsEnclosed b bytes → IsEnclosed 39 bytes ⊎ IsEnclosed 34 bytes
quoted true q b bytes g h e is = inl (subst (λ c. IsEnclosed c bytes) (same_number b 39 g) is)
quoted false true b bytes g h e is = inr (subst (λ c. IsEnclosed c bytes) (same_number b 34 h) is)
quoted false false b bytes g h e is = cc

text_good : (at b : ℕ) (bs : List ℕ) → (b == 39 || b == 34) ≡ true → Good b bs (enclosed_at k.Text at b bs)
text_good at b bs e = enclosed_good k.Text at b bs (λ bytes is. quoted (b == 39) (b == 34) b bytes refl refl e is)

tex_good : (at b : ℕ) (bs : List ℕ) → (b == 36) ≡ true → Good b bs (enclosed_at k.Tex at b bs)
tex_good at b bs e = enclosed_good k.Tex at b bs (λ bytes is. subst (λ c. IsEnclosed c bytes) (same_number b 36 e) is)

-- ---- symbols

-- a symbol is its byte, and the longer one has an equals sign after it
abbrev IsLonger : Option TokenKind → ℕ → Type 0
IsLonger None b = Unit {0}
IsLonger (Some kind) b = IsToken kind (b ∷ 61 ∷ [])

abbrev IsSymbol : Option TokenKind → ℕ → Type 0
IsSymbol None b = Unit {0}
IsSymbol (Some kind) b = IsToken kind (b ∷ []) × IsLonger (or_equal kind) b

symbol_if : (t : Bool) (kind : TokenKind) (o : Option TokenKind) (b : ℕ) → (t ≡ true → IsSymbol (Some kind) b) → IsSymbol o b → IsSymbol (cond t (Some kind) o) b
symbol_if true kind o b p q = p refl
symbol_if false kind o b p q = q

one : (b c : ℕ) → (b == c) ≡ true → b ∷ [] ≡ c ∷ []
one b c e = ap (λ x. x ∷ []) (same_number b c e)

two : (b c : ℕ) → (b == c) ≡ true → b ∷ 61 ∷ [] ≡ c ∷ 61 ∷ []
two b c e = ap (λ x. x ∷ 61 ∷ []) (same_number b c e)

symbol_is : (b : ℕ) → IsSymbol (symbol_of b) b
symbol_is b =
    symbol_if (b == 59) k.Semicolon _ b (λ e. (one b 59 e, tt)) (symbol_if (b == 44) k.Comma _ b (λ e. (one b 44 e, tt)) (symbol_if (b == 61) k.Equals _ b (λ e. (one b 61 e, tt)) (symbol_if (b == 40) k.Open _ b (λ e. (one b 40 e, tt)) (symbol_if (b == 41) k.Close _ b (λ e. (one b 41 e, tt)) (symbol_if (b == 91) k.OpenBracket _ b (λ e. (one b 91 e, tt)) (symbol_if (b == 93) k.CloseBracket _ b (λ e. (one b 93 e, tt)) (symbol_if (b == 43) k.Plus _ b (λ e. (one b 43 e, tt)) (symbol_if (b == 45) k.Minus _ b (λ e. (one b 45 e, tt)) (symbol_if (b == 42) k.Star _ b (λ e. (one b 42 e, tt)) (symbol_if (b == 47) k.Slash _ b (λ e. (one b 47 e, tt)) (symbol_if (b == 94) k.Caret _ b (λ e. (one b 94 e, tt)) (symbol_if (b == 35) k.Hash _ b (λ e. (one b 35 e, tt)) (symbol_if (b == 58) k.Colon _ b (λ e. (one b 58 e, tt)) (symbol_if (b == 60) k.Less _ b (λ e. (one b 60 e, two b 60 e)) (symbol_if (b == 62) k.Greater _ b (λ e. (one b 62 e, two b 62 e)) tt)))))))))))))))

longest_good : (kind : TokenKind) (o : Option TokenKind) (at b : ℕ) (bs : List ℕ) → IsToken kind (b ∷ []) → IsLonger o b → Good b bs (longest_symbol kind o at b bs)
longest_good kind None at b bs is longer = is
longest_good kind (Some other) at b bs is longer = by (begins 61 bs) refl
  where
    by : (c : Bool) → begins 61 bs ≡ c → Good b bs (cond c (token other 1 at b bs) (token kind 0 at b bs))
    by false e = is
    by true e =
        let h = closes_with 61 bs e in subst (λ l. IsToken other (b ∷ take 1 l)) (sym h.1) longer

symbol_good : (o : Option TokenKind) (at b : ℕ) (bs : List ℕ) → IsSymbol o b → Good b bs (symbol_at o at b bs)
symbol_good None at b bs is = tt
symbol_good (Some kind) at b bs is = longest_good kind (or_equal kind) at b bs is.0 is.1

-- ---- comments

line_ends : (bs : List ℕ) → EndsLine (drop (prefix_len is_on_line bs) bs)
line_ends [] = tt
line_ends (b ∷ bs) = by (b == 10) refl (line_ends bs)
  where
    by : (t : Bool) → (b == 10) ≡ t → EndsLine (drop (prefix_len is_on_line bs) bs) → EndsLine (drop (cond (not t) (1 + prefix_len is_on_line bs) 0) (b ∷ bs))
    by true e more = same_number b 10 e
    by false e more =
        subst (λ n. EndsLine (drop n (b ∷ bs))) (one_more (prefix_len is_on_line bs)) more

percent_good : (b : ℕ) (bs : List ℕ) → (b == 37) ≡ true → Good b bs (line_comment bs)
percent_good b bs e =
    let n = prefix_len is_on_line bs in
    (prefix_len-le-length is_on_line bs, inr (inl ((take n bs, run_passes is_on_line bs, inl (ap (λ c. c ∷ take n bs) (same_number b 37 e))), line_ends bs)))

slashes_good : (b : ℕ) (bs : List ℕ) → (b == 47 && begins 47 bs) ≡ true → Good b bs (line_comment bs)
slashes_good b bs e =
    let h = both_true (b == 47) (begins 47 bs) e in
    let g = closes_with 47 bs h.1 in
    subst (λ l. Good b l (line_comment l)) (sym g.1) (subst (λ c. Good c (47 ∷ g.0) (line_comment (47 ∷ g.0))) (sym (same_number b 47 h.0)) (whole g.0))
  where
    whole : (cs : List ℕ) → Good 47 (47 ∷ cs) (line_comment (47 ∷ cs))
    whole cs =
        let n = prefix_len is_on_line cs in
        let inside : take (1 + n) (47 ∷ cs) ≡ 47 ∷ take n cs = ap (λ m. take m (47 ∷ cs)) (sym (one_more n)) in
        (prefix_len-le-length is_on_line (47 ∷ cs), inr (inl ((take n cs, run_passes is_on_line cs, inr (ap (λ l. 47 ∷ l) inside)), line_ends (47 ∷ cs))))

-- what a comment holds up to its first end
record Closed (bs : List ℕ) (n : ℕ) : Type 0 where
  inside : List ℕ
  front : take n bs ≡ inside ++ (42 ∷ 47 ∷ [])
  unended : IsOpen (inside ++ (42 ∷ []))
  within : n ≤ length bs

lone_star : IsOpen (42 ∷ [])
lone_star front back e = absurd (omega (arith, ap length e, length-append front (42 ∷ 47 ∷ back)))

-- an end that begins with the first of these bytes
ends_here : (b : ℕ) (inside left back : List ℕ) → b ∷ (inside ++ (42 ∷ [])) ≡ 42 ∷ 47 ∷ back → (b == 42 && begins 47 ((inside ++ (42 ∷ 47 ∷ [])) ++ left)) ≡ true
ends_here b [] left back e =
    let second : 42 ≡ 47 = ap (λ l. get_or l 1 0) e in absurd (omega (arith, second))
ends_here b (i ∷ is) left back e =
    let first : b ≡ 42 = ap (λ l. get_or l 0 0) e in
    let second : i ≡ 47 = ap (λ l. get_or l 1 0) e in
    ap (λ c. c == 42 && i == 47) first ∙ ap (λ c. c == 47) second

-- one byte more, where no end begins
open_more : (b : ℕ) (bs inside left : List ℕ) → bs ≡ (inside ++ (42 ∷ 47 ∷ [])) ++ left → (b == 42 && begins 47 bs) ≡ false → IsOpen (inside ++ (42 ∷ [])) → IsOpen (b ∷ (inside ++ (42 ∷ [])))
open_more b bs inside left is differ unended [] back e =
    true≢false (sym (ap (λ l. b == 42 && begins 47 l) is ∙ ends_here b inside left back e) ∙ differ)
open_more b bs inside left is differ unended (c ∷ front) back e = unended front back (ap (drop 1) e)

closed : (bs : List ℕ) (n : ℕ) → comment_length bs ≡ Some n → Closed bs n
unfolding comment_length
closed [] n e = cc
closed (b ∷ bs) n e = by (b == 42 && begins 47 bs) refl e (closed bs)
  where
    later : (o : Option ℕ) → comment_length bs ≡ o → (b == 42 && begins 47 bs) ≡ false → option_map suc o ≡ Some n → ((m : ℕ) → comment_length bs ≡ Some m → Closed bs m) → Closed (b ∷ bs) n
    later None k differ g further = cc
    later (Some m) k differ g further =
        let more = further m k in
        let is : suc m ≡ n = cc in
        let split : bs ≡ (more.inside ++ (42 ∷ 47 ∷ [])) ++ drop m bs = sym (take-append-drop m bs) ∙ ap (λ l. l ++ drop m bs) more.front in
        subst (Closed (b ∷ bs)) is (record { inside = b ∷ more.inside; front = ap (λ l. b ∷ l) more.front; unended = open_more b bs more.inside (drop m bs) split differ more.unended; within = omega (arith, more.within) })

    by : (t : Bool) → (b == 42 && begins 47 bs) ≡ t → cond t (Some 2) (option_map suc (comment_length bs)) ≡ Some n → ((m : ℕ) → comment_length bs ≡ Some m → Closed bs m) → Closed (b ∷ bs) n
    by true h g further =
        let p = both_true (b == 42) (begins 47 bs) h in
        let q = closes_with 47 bs p.1 in
        let is : 2 ≡ n = cc in
        subst (Closed (b ∷ bs)) is (subst (λ l. Closed (b ∷ l) 2) (sym q.1) (record { inside = []; front = ap (λ c. c ∷ 47 ∷ []) (same_number b 42 p.0); unended = lone_star; within = omega arith }))
    by false h g further = later (comment_length bs) refl h g further

block_good : (at b : ℕ) (bs : List ℕ) → (b == 47 && begins 42 bs) ≡ true → Good b bs (block_comment at (comment_length (drop 1 bs)))
block_good at b bs e =
    let h = both_true (b == 47) (begins 42 bs) e in
    let g = closes_with 42 bs h.1 in
    subst (λ l. Good b l (block_comment at (comment_length (drop 1 l)))) (sym g.1) (subst (λ c. Good c (42 ∷ g.0) (block_comment at (comment_length g.0))) (sym (same_number b 47 h.0)) (whole g.0 (comment_length g.0) refl))
  where
    whole : (cs : List ℕ) (o : Option ℕ) → comment_length cs ≡ o → Good 47 (42 ∷ cs) (block_comment at o)
    whole cs None k = tt
    whole cs (Some m) k =
        let c = closed cs m k in
        let inside : take (1 + m) (42 ∷ cs) ≡ 42 ∷ (c.inside ++ (42 ∷ 47 ∷ [])) = ap (λ n. take n (42 ∷ cs)) (sym (one_more m)) ∙ ap (λ l. 42 ∷ l) c.front in
        (omega (arith, c.within), inr (inr (c.inside, c.unended, ap (λ l. 47 ∷ l) inside)))

-- what this byte begins before these has its form
pub begun_good : (at b : ℕ) (bs : List ℕ) → Good b bs (begun_at at b bs)
unfolding begun_at
begun_good at b bs =
    good_if b bs (is_first b) _ _ (name_good at b bs) (good_if b bs (is_ascii_digit b || b == 46) _ _ (λ e. number_good at b bs) (good_if b bs (b == 37) _ _ (percent_good b bs) (good_if b bs (b == 47 && begins 47 bs) _ _ (slashes_good b bs) (good_if b bs (b == 47 && begins 42 bs) _ _ (block_good at b bs) (good_if b bs (b == 39 || b == 34) _ _ (text_good at b bs) (good_if b bs (b == 36) _ _ (tex_good at b bs) (symbol_good (symbol_of b) at b bs (symbol_is b))))))))
