-- What the bytes of a text's tokens are: words and numbers.
use Rattle.std.proofs.Common.{◌≡◌, ℕ, zero, suc, ◌+◌, ◌-◌, ◌<◌, ◌≤◌, List, [], ◌∷◌, ◌++◌, length, take, drop, Bool, true, false, cond, ◌&&◌, ◌||◌, ◌==◌, nat_lt, Option, Some, None, Result, Ok, Err, refl, sym, ap, subst, ◌∙◌, arith}
use Rattle.std.specs.Char.{is_ascii_digit}
use Rattle.std.specs.List.{prefix_len, list_all}
use Rattle.std.proofs.lemmas.Bool.Decides.{nat_tests}
use Rattle.std.proofs.lemmas.List.{take-append-drop, length-take-le}
use Rattle.std.proofs.Math.Seq.{take-add}
use Rattle.std.proofs.lemmas.List.Folds.{length-prefix_len}
use Rattle.mp_tokens.specs.declared.token.TokenKind.{TokenKind}
use Rattle.mp_tokens.specs.declared.token.TokenKind.TheVariants as k
use Rattle.mp_tokens.specs.Tokens.{Tok, Fault, Begun, Token, Comment, Wrong, LongName, BadByte, is_blank, is_first, is_word, begins, is_inside, OpenText, enclosed_at, digits_length, number_length, number_kind, comment_length, token, name_at, number_at, block_comment, symbol_of, symbol_at, begun_at, before, and_then, tokens_from, tokens}
use Rattle.mp_format.specs.Pieces.{IsLiteral, AreDigits}
use Rattle.mp_format.specs.Format.{Every}
use Rattle.mp_format.proofs.TokenForms.{Carries, IsToken}
use Rattle.mp_tokens.proofs.NumberSizes.{number-le}
use Rattle.mp_format.proofs.Numbers.{number-within}

-- if a token begins, its bytes are what its kind says
abbrev Good : Begun → Type 0
Good (Token t) = IsToken t
Good (Comment more) = Unit {0}
Good (Wrong fault) = Unit {0}

good_if : (t : Bool) (x y : Begun) → (t ≡ true → Good x) → Good y → Good (cond t x y)
good_if true x y p q = p refl
good_if false x y p q = q

one_more : (n : ℕ) → suc n ≡ 1 + n
one_more n = omega arith

-- a run passes its test
run_passes : (p : ℕ → Bool) (bs : List ℕ) → list_all p (take (prefix_len p bs) bs) ≡ true
run_passes p [] = refl
run_passes p (b ∷ bs) = by (p b) refl (run_passes p bs)
  where
    by : (t : Bool) → p b ≡ t → list_all p (take (prefix_len p bs) bs) ≡ true → list_all p (take (cond t (1 + prefix_len p bs) 0) (b ∷ bs)) ≡ true
    by false e more = refl
    by true e more =
        ap (λ n. list_all p (take n (b ∷ bs))) (sym (one_more (prefix_len p bs))) ∙ ap (λ t. t && list_all p (take (prefix_len p bs) bs)) e ∙ more

not_less : (n : ℕ) → nat_lt 127 n ≡ false → n ≤ 127
not_less n e = grind (arith, nat_tests)

name_good : (at b : ℕ) (bs : List ℕ) → is_first b ≡ true → Good (name_at at b bs)
name_good at b bs first = by (nat_lt 127 (prefix_len is_word bs)) refl
  where
    by : (long : Bool) → nat_lt 127 (prefix_len is_word bs) ≡ long → Good (cond long (Wrong (LongName at)) (token k.Name (prefix_len is_word bs) at b bs))
    by true e = tt
    by false e =
        (first, run_passes is_word bs, omega (arith, length-prefix_len is_word bs, not_less (prefix_len is_word bs) e))

not_zero : (n : ℕ) → (n == 0) ≡ false → 0 < n
not_zero n e = grind (arith, nat_tests)

same_number : (m n : ℕ) → (m == n) ≡ true → m ≡ n
same_number m n e = grind (arith, nat_tests)

-- the longest number at the front of a text, of which there is some
number_literal : (b : ℕ) (bs : List ℕ) → 0 < number_length (b ∷ bs) → IsLiteral (b ∷ take (number_length (b ∷ bs) - 1) bs)
number_literal b bs some =
    let n = number_length (b ∷ bs) - 1 in
    let all : b ∷ (take n bs ++ drop n bs) ≡ b ∷ bs = ap (λ l. b ∷ l) (take-append-drop n bs) in
    let same : number_length (b ∷ (take n bs ++ drop n bs)) ≡ number_length (b ∷ bs) = ap number_length all in
    let within : number_length (b ∷ bs) ≤ suc (length bs) = number-le (b ∷ bs) in
    let counted : length (take n bs) ≡ n = length-take-le n bs (omega arith) in
    let ends : suc (length (take n bs)) ≡ number_length (b ∷ bs) = omega arith in
    (omega arith, number-within (b ∷ take n bs) (drop n bs) (omega arith) ∙ same ∙ sym ends)

number_digits : (b : ℕ) (bs : List ℕ) → 0 < number_length (b ∷ bs) → number_length (b ∷ bs) ≡ digits_length (b ∷ bs) → AreDigits (b ∷ take (number_length (b ∷ bs) - 1) bs)
number_digits b bs some same =
    let n = number_length (b ∷ bs) - 1 in
    let whole : suc n ≡ digits_length (b ∷ bs) = omega arith in
    (omega arith, ap (λ m. list_all is_ascii_digit (take m (b ∷ bs))) whole ∙ run_passes is_ascii_digit (b ∷ bs))

number_good : (at b : ℕ) (bs : List ℕ) → Good (number_at at b bs)
number_good at b bs = by (number_length (b ∷ bs) == 0) refl
  where
    n : ℕ
    n = number_length (b ∷ bs)

    of_kind : (whole : Bool) → (n == digits_length (b ∷ bs)) ≡ whole → 0 < n → Carries (cond whole k.Whole k.Number) (b ∷ take (n - 1) bs)
    of_kind true e some = (number_literal b bs some, number_digits b bs some (same_number n (digits_length (b ∷ bs)) e))
    of_kind false e some = number_literal b bs some

    by : (none : Bool) → (n == 0) ≡ none → Good (cond none (Wrong (BadByte at)) (token (number_kind (b ∷ bs)) (n - 1) at b bs))
    by true e = tt
    by false e = of_kind (n == digits_length (b ∷ bs)) refl (not_zero n e)

-- up to a byte that closes
closes_with : (b : ℕ) (bs : List ℕ) → begins b bs ≡ true → (rest : List ℕ) × (bs ≡ b ∷ rest)
closes_with b [] e = cc
closes_with b (c ∷ cs) e = let same : c ≡ b = same_number c b e in (cs, ap (λ x. x ∷ cs) same)

take_one : (n : ℕ) (bs rest : List ℕ) (b : ℕ) → drop n bs ≡ b ∷ rest → take (n + 1) bs ≡ take n bs ++ (b ∷ [])
take_one n bs rest b e = take-add n 1 bs ∙ ap (λ l. take n bs ++ take 1 l) e

text_good : (at b : ℕ) (bs : List ℕ) → (b == 39 || b == 34) ≡ true → Good (enclosed_at k.Text at b bs)
text_good at b bs quote = by (begins b (drop (prefix_len (is_inside b) bs) bs)) refl
  where
    by : (c : Bool) → begins b (drop (prefix_len (is_inside b) bs) bs) ≡ c → Good (cond c (token k.Text (prefix_len (is_inside b) bs + 1) at b bs) (Wrong (OpenText at)))
    by false e = tt
    by true e =
        let h = closes_with b (drop (prefix_len (is_inside b) bs) bs) e in
        (b, take (prefix_len (is_inside b) bs) bs, ap (λ l. b ∷ l) (take_one (prefix_len (is_inside b) bs) bs h.0 b h.1), quote, run_passes (is_inside b) bs)

comment_good : (at : ℕ) (o : Option ℕ) → Good (block_comment at o)
comment_good at None = tt
comment_good at (Some more) = tt

-- a symbol's kind says nothing of its bytes
abbrev Bare : Option TokenKind → Type 0
Bare o = (at b : ℕ) (bs : List ℕ) → Good (symbol_at o at b bs)

bare_if : (t : Bool) (x y : Option TokenKind) → Bare x → Bare y → Bare (cond t x y)
bare_if true x y p q = p
bare_if false x y p q = q

symbol_good : (c : ℕ) → Bare (symbol_of c)
symbol_good c =
    bare_if (c == 59) _ _ (λ at b bs. tt) (bare_if (c == 44) _ _ (λ at b bs. tt) (bare_if (c == 61) _ _ (λ at b bs. tt) (bare_if (c == 40) _ _ (λ at b bs. tt) (bare_if (c == 41) _ _ (λ at b bs. tt) (bare_if (c == 91) _ _ (λ at b bs. tt) (bare_if (c == 93) _ _ (λ at b bs. tt) (bare_if (c == 43) _ _ (λ at b bs. tt) (bare_if (c == 45) _ _ (λ at b bs. tt) (bare_if (c == 42) _ _ (λ at b bs. tt) (bare_if (c == 47) _ _ (λ at b bs. tt) (bare_if (c == 94) _ _ (λ at b bs. tt) (bare_if (c == 35) _ _ (λ at b bs. tt) (bare_if (c == 58) _ _ (λ at b bs. tt) (bare_if (c == 60) _ _ (λ at b bs. good_if (begins 61 bs) _ _ (λ e. tt) tt) (bare_if (c == 62) _ _ (λ at b bs. good_if (begins 61 bs) _ _ (λ e. tt) tt) (λ at b bs. tt))))))))))))))))

begun_good : (at b : ℕ) (bs : List ℕ) → Good (begun_at at b bs)
unfolding begun_at
begun_good at b bs =
    good_if (is_first b) _ _ (name_good at b bs) (good_if (is_ascii_digit b || b == 46) _ _ (λ e. number_good at b bs) (good_if (b == 37) _ _ (λ e. tt) (good_if (b == 47 && begins 47 bs) _ _ (λ e. tt) (good_if (b == 47 && begins 42 bs) _ _ (λ e. comment_good at (comment_length (drop 1 bs))) (good_if (b == 39 || b == 34) _ _ (λ e. text_good at b bs e) (good_if (b == 36) _ _ (λ e. good_if (begins b (drop (prefix_len (is_inside b) bs) bs)) _ _ (λ f. tt) tt) (symbol_good b at b bs)))))))

words_then : (bs : List ℕ) (at : ℕ) (ts : List Tok) → ((n : ℕ) (us : List Tok) → tokens_from bs (at + 1) n ≡ Ok us → Every IsToken us) → (x : Begun) → Good x → and_then x (tokens_from bs (at + 1)) ≡ Ok ts → Every IsToken ts
words_then bs at ts more (Wrong f) good h = absurd cc
words_then bs at ts more (Comment n) good h = more n ts h
words_then bs at ts more (Token t) good h = by (tokens_from bs (at + 1) (length t.bytes - 1)) refl h
  where
    by : (r : Result (List Tok) Fault) → tokens_from bs (at + 1) (length t.bytes - 1) ≡ r → before (t ∷ []) r ≡ Ok ts → Every IsToken ts
    by (Err f) e g = absurd cc
    by (Ok us) e g = let s : t ∷ us ≡ ts = cc in subst (Every IsToken) s (good, more (length t.bytes - 1) us e)

words_from : (bs : List ℕ) (at inside : ℕ) (ts : List Tok) → tokens_from bs at inside ≡ Ok ts → Every IsToken ts
unfolding tokens_from
words_from [] at inside ts h = let e : [] ≡ ts = cc in subst (Every IsToken) e tt
words_from (b ∷ bs) at (suc inside) ts h = words_from bs (at + 1) inside ts h
words_from (b ∷ bs) at zero ts h = by (is_blank b) h (λ n us. words_from bs (at + 1) n us)
  where
    by : (blank : Bool) → cond blank (tokens_from bs (at + 1) 0) (and_then (begun_at at b bs) (tokens_from bs (at + 1))) ≡ Ok ts → ((n : ℕ) (us : List Tok) → tokens_from bs (at + 1) n ≡ Ok us → Every IsToken us) → Every IsToken ts
    by true e more = more 0 ts e
    by false e more = words_then bs at ts more (begun_at at b bs) (begun_good at b bs) e

pub tokens-words : (text : List ℕ) (ts : List Tok) → tokens text ≡ Ok ts → Every IsToken ts
tokens-words text ts h = words_from text 0 0 ts h
