-- Names, numbers and symbols are one token each.
use Rattle.std.proofs.Common.{◌≡◌, ℕ, suc, ◌+◌, ◌-◌, ◌<◌, ◌≤◌, List, [], ◌∷◌, ◌++◌, length, drop, Bool, true, false, cond, ◌&&◌, ◌||◌, ◌==◌, not, nat_lt, refl, sym, ap, subst, ◌∙◌, arith, append_assoc, length-append, codes}
use Rattle.std.proofs.Math.Seq.{take-append_seam, drop-append_seam}
use Rattle.std.proofs.lemmas.Bool.{and_parts}
use Rattle.std.proofs.lemmas.Bool.Decides.{nat_tests}
use Rattle.std.specs.Char.{is_ascii_digit}
use Rattle.std.specs.List.{prefix_len, list_all}
use Rattle.mp_tokens.specs.declared.token.TokenKind.{TokenKind}
use Rattle.mp_tokens.specs.declared.token.TokenKind.TheVariants as k
use Rattle.mp_tokens.specs.Tokens.{Token, Wrong, LongName, BadByte, OpenText, is_inside, is_on_line, begins, line_comment, block_comment, comment_length, enclosed_at, symbol_at, symbol_of, is_blank, is_first, is_word, is_exponent, digits_length, fraction_length, mantissa_length, exponent_length, number_length, number_kind, token, name_at, number_at, begun_at}
use Rattle.mp_tokens.specs.declared.terminal.Terminal.{Terminal}
use Rattle.mp_tokens.specs.declared.terminal.Terminal.TheVariants as t
use Rattle.mp_format.specs.Format.{token_of}
use Rattle.mp_format.specs.Spelling.{varies}
use Rattle.mp_tokens.proofs.NumberSizes.{number-le}
use Rattle.mp_format.proofs.Numbers.{NoMore, run-before, number-before, is_zero}
use Rattle.mp_format.specs.Pieces.{is_numeric, run_of, AfterName, AfterNumber, AfterSlash, AfterOrder, stops, clear, IsOne, IsWord, IsLiteral, AreDigits, IsText}

pub pick : {X : Type 0} (t : Bool) (x y : X) → t ≡ true → cond t x y ≡ x
pick true x y e = refl
pick false x y e = cc

pub skip : {X : Type 0} (t : Bool) (x y : X) → t ≡ false → cond t x y ≡ y
skip false x y e = refl
skip true x y e = cc

not_true : (t : Bool) → not t ≡ true → t ≡ false
not_true false e = refl
not_true true e = cc

neither : (s t : Bool) → (s || t) ≡ false → (s ≡ false) × (t ≡ false)
neither false t e = (refl, e)
neither true t e = cc

-- all bytes pass, so the run ends where they do
run_all : (p : ℕ → Bool) (bs : List ℕ) → list_all p bs ≡ true → prefix_len p bs ≡ length bs
run_all p [] all = refl
run_all p (b ∷ bs) all =
    let q = and_parts (p b) (list_all p bs) all in
    let more : prefix_len p bs ≡ length bs = run_all p bs q.1 in
    let n : 1 + prefix_len p bs ≡ suc (length bs) = omega arith in
    pick (p b) (1 + prefix_len p bs) 0 q.0 ∙ n

no_word : (rest : List ℕ) → stops AfterName rest ≡ true → prefix_len is_word rest ≡ 0
no_word [] s = refl
no_word (c ∷ rest) s = skip (is_word c) (1 + prefix_len is_word rest) 0 (not_true (is_word c) s)

first_blank : (b : ℕ) → is_first b ≡ true → is_blank b ≡ false
first_blank b e = grind (arith, nat_tests)

short : (n : ℕ) → n ≤ 127 → nat_lt 127 n ≡ false
short n le = grind (arith, nat_tests)

pub name_one : (bytes : List ℕ) → IsWord bytes → IsOne k.Name bytes
unfolding begun_at
name_one [] is = absurd is
name_one (b ∷ bs) is = (first_blank b is.0, at_rest)
  where
    at_rest : (at : ℕ) (rest : List ℕ) → stops AfterName rest ≡ true → begun_at at b (bs ++ rest) ≡ Token (record { kind = k.Name; bytes = b ∷ bs; at = at })
    at_rest at rest s =
        let n : prefix_len is_word (bs ++ rest) ≡ length bs = run-before is_word bs rest (no_word rest s) ∙ run_all is_word bs is.1 in
        pick (is_first b) (name_at at b (bs ++ rest)) _ is.0
        ∙ ap (λ m. cond (nat_lt 127 m) (Wrong (LongName at)) (token k.Name m at b (bs ++ rest))) n
        ∙ skip (nat_lt 127 (length bs)) _ (token k.Name (length bs) at b (bs ++ rest)) (short (length bs) is.2)
        ∙ ap (λ l. Token (record { kind = k.Name; bytes = b ∷ l; at = at })) (take-append_seam bs rest)

no_more : (rest : List ℕ) → stops AfterNumber rest ≡ true → NoMore rest
no_more [] s = record { digits = refl; fraction = λ n. refl; exponent = refl }
no_more (c ∷ rest) s =
    let p = neither (is_ascii_digit c || c == 46) (is_exponent c) (not_true (is_numeric c) s) in
    let q = neither (is_ascii_digit c) (c == 46) p.0 in
    record { digits = skip (is_ascii_digit c) _ 0 q.0; fraction = λ n. ap (λ t. cond (t && nat_lt 0 (n + digits_length rest)) (1 + digits_length rest) 0) q.1; exponent = skip (is_exponent c) _ 0 p.1 }

-- a number begins with a digit or a point
pub number_first : (b : ℕ) (bs : List ℕ) → 0 < number_length (b ∷ bs) → (is_ascii_digit b || b == 46) ≡ true
number_first b bs some = by (is_ascii_digit b) (b == 46) refl refl
  where
    by : (digit point : Bool) → is_ascii_digit b ≡ digit → (b == 46) ≡ point → (digit || point) ≡ true
    by true point e f = refl
    by false true e f = refl
    by false false e f =
        let d : digits_length (b ∷ bs) ≡ 0 = skip (is_ascii_digit b) _ 0 e in
        let m : mantissa_length (b ∷ bs) ≡ 0 = ap (λ n. n + fraction_length n (drop n (b ∷ bs))) d ∙ ap (λ t. 0 + cond (t && nat_lt 0 (0 + digits_length bs)) (1 + digits_length bs) 0) f in
        let none : number_length (b ∷ bs) ≡ 0 = ap (λ n. cond (n == 0) 0 (n + exponent_length (drop n (b ∷ bs)))) m in
        absurd (omega arith)

numeric_first : (b : ℕ) → (is_ascii_digit b || b == 46) ≡ true → is_first b ≡ false
numeric_first b e = grind (arith, nat_tests)

numeric_blank : (b : ℕ) → (is_ascii_digit b || b == 46) ≡ true → is_blank b ≡ false
numeric_blank b e = grind (arith, nat_tests)

is_some : (m : ℕ) → 0 < m → (m == 0) ≡ false
is_some m lt = grind (arith, nat_tests)

-- what does not go on with a number does not go on with either kind
pub kind_stops : (whole : Bool) (rest : List ℕ) → clear (run_of (cond whole k.Whole k.Number)) rest ≡ stops AfterNumber rest
kind_stops true rest = refl
kind_stops false rest = refl

pub number_one : (bytes : List ℕ) → IsLiteral bytes → IsOne (number_kind bytes) bytes
unfolding begun_at
number_one [] is = absurd (omega (arith, is.0))
number_one (b ∷ bs) is = (numeric_blank b first, at_rest)
  where
    n : ℕ
    n = number_length (b ∷ bs)

    first : (is_ascii_digit b || b == 46) ≡ true
    first = number_first b bs (omega (arith, is.1))

    at_rest : (at : ℕ) (rest : List ℕ) → clear (run_of (number_kind (b ∷ bs))) rest ≡ true → begun_at at b (bs ++ rest) ≡ Token (record { kind = number_kind (b ∷ bs); bytes = b ∷ bs; at = at })
    at_rest at rest s =
        let none = no_more rest (sym (kind_stops (n == digits_length (b ∷ bs)) rest) ∙ s) in
        let d = digits_length (b ∷ (bs ++ rest)) in
        let m : n - 1 ≡ length bs = omega (arith, is.1) in
        skip (is_first b) _ _ (numeric_first b first)
        ∙ pick (is_ascii_digit b || b == 46) (number_at at b (bs ++ rest)) _ first
        ∙ ap (λ j. cond (j == 0) (Wrong (BadByte at)) (token (cond (j == d) k.Whole k.Number) (j - 1) at b (bs ++ rest))) (number-before (b ∷ bs) rest none is.0 is.1)
        ∙ skip (n == 0) _ (token (cond (n == d) k.Whole k.Number) (n - 1) at b (bs ++ rest)) (is_some n (omega (arith, is.1)))
        ∙ ap (λ j. token (cond (n == j) k.Whole k.Number) (n - 1) at b (bs ++ rest)) (run-before is_ascii_digit (b ∷ bs) rest none.digits)
        ∙ ap (λ j. token (number_kind (b ∷ bs)) j at b (bs ++ rest)) m
        ∙ ap (λ l. Token (record { kind = number_kind (b ∷ bs); bytes = b ∷ l; at = at })) (take-append_seam bs rest)

same_number : (m n : ℕ) → m ≡ n → (m == n) ≡ true
same_number m n e = grind (arith, nat_tests)

digits_number : (ds : List ℕ) → AreDigits ds → number_length ds ≡ length ds
digits_number ds is = by (m == 0) refl
  where
    m : ℕ
    m = mantissa_length ds

    all : digits_length ds ≡ length ds
    all = run_all is_ascii_digit ds is.1

    by : (none : Bool) → (m == 0) ≡ none → number_length ds ≡ length ds
    by true e = absurd (omega (arith, is.0, all, is_zero m e))
    by false e =
        let n : number_length ds ≡ m + exponent_length (drop m ds) = skip (m == 0) 0 _ e in
        omega (arith, all, number-le ds)

pub digits_one : (ds : List ℕ) → AreDigits ds → IsOne k.Whole ds
digits_one ds is =
    let n = digits_number ds is in
    let whole : number_kind ds ≡ k.Whole = pick (number_length ds == digits_length ds) k.Whole k.Number (same_number (number_length ds) (digits_length ds) (n ∙ sym (run_all is_ascii_digit ds is.1))) in
    subst (λ (kind : TokenKind). IsOne kind ds) whole (number_one ds (is.0, n))

slash_begins : (at : ℕ) (rest : List ℕ) → stops AfterSlash rest ≡ true → begun_at at 47 ([] ++ rest) ≡ Token (record { kind = k.Slash; bytes = 47 ∷ []; at = at })
unfolding begun_at
slash_begins at [] s = refl
slash_begins at (c ∷ rest) s =
    let p = neither (c == 47) (c == 42) (not_true (c == 47 || c == 42) s) in
    skip (c == 47) _ _ p.0 ∙ skip (c == 42) _ _ p.1

greater_begins : (at : ℕ) (rest : List ℕ) → stops AfterOrder rest ≡ true → begun_at at 62 ([] ++ rest) ≡ Token (record { kind = k.Greater; bytes = 62 ∷ []; at = at })
unfolding begun_at
greater_begins at [] s = refl
greater_begins at (c ∷ rest) s = skip (c == 61) _ _ (not_true (c == 61) s)

less_begins : (at : ℕ) (rest : List ℕ) → stops AfterOrder rest ≡ true → begun_at at 60 ([] ++ rest) ≡ Token (record { kind = k.Less; bytes = 60 ∷ []; at = at })
unfolding begun_at
less_begins at [] s = refl
less_begins at (c ∷ rest) s = skip (c == 61) _ _ (not_true (c == 61) s)

quote_first : (q : ℕ) → (q == 39 || q == 34) ≡ true → is_first q ≡ false
quote_first q e = grind (arith, nat_tests)

quote_numeric : (q : ℕ) → (q == 39 || q == 34) ≡ true → (is_ascii_digit q || q == 46) ≡ false
quote_numeric q e = grind (arith, nat_tests)

quote_slash : (q : ℕ) → (q == 39 || q == 34) ≡ true → (q == 47) ≡ false
quote_slash q e = grind (arith, nat_tests)

quote_percent : (q : ℕ) → (q == 39 || q == 34) ≡ true → (q == 37) ≡ false
quote_percent q e = grind (arith, nat_tests)

quote_blank : (q : ℕ) → (q == 39 || q == 34) ≡ true → is_blank q ≡ false
quote_blank q e = grind (arith, nat_tests)

same : (q : ℕ) → (q == q) ≡ true
same q = grind (arith, nat_tests)

-- up to the quote that closes
inside_run : (q : ℕ) (inside rest : List ℕ) → list_all (is_inside q) inside ≡ true → prefix_len (is_inside q) (inside ++ (q ∷ rest)) ≡ length inside
inside_run q inside rest all =
    let closed : prefix_len (is_inside q) (q ∷ rest) ≡ 0 = ap (λ t. cond (not t && is_on_line q) (1 + prefix_len (is_inside q) rest) 0) (same q) in
    run-before (is_inside q) inside (q ∷ rest) closed ∙ run_all (is_inside q) inside all

text_begins : (q : ℕ) (inside rest : List ℕ) (at : ℕ) → (q == 39 || q == 34) ≡ true → list_all (is_inside q) inside ≡ true → begun_at at q ((inside ++ (q ∷ [])) ++ rest) ≡ Token (record { kind = k.Text; bytes = q ∷ (inside ++ (q ∷ [])); at = at })
unfolding begun_at
text_begins q inside rest at e all =
    let ends = append_assoc inside (q ∷ []) rest in
    let n = inside_run q inside rest all in
    let more : length inside + 1 ≡ length (inside ++ (q ∷ [])) = omega (arith, length-append inside (q ∷ [])) in
    skip (is_first q) _ _ (quote_first q e)
    ∙ skip (is_ascii_digit q || q == 46) _ _ (quote_numeric q e)
    ∙ skip (q == 37) _ _ (quote_percent q e)
    ∙ ap (λ t. cond (t && begins 47 ((inside ++ (q ∷ [])) ++ rest)) (line_comment ((inside ++ (q ∷ [])) ++ rest)) (cond (t && begins 42 ((inside ++ (q ∷ [])) ++ rest)) (block_comment at (comment_length (drop 1 ((inside ++ (q ∷ [])) ++ rest)))) (cond (q == 39 || q == 34) (enclosed_at k.Text at q ((inside ++ (q ∷ [])) ++ rest)) (cond (q == 36) (enclosed_at k.Tex at q ((inside ++ (q ∷ [])) ++ rest)) (symbol_at (symbol_of q) at q ((inside ++ (q ∷ [])) ++ rest)))))) (quote_slash q e)
    ∙ pick (q == 39 || q == 34) (enclosed_at k.Text at q ((inside ++ (q ∷ [])) ++ rest)) _ e
    ∙ ap (λ l. cond (begins q (drop (prefix_len (is_inside q) l) l)) (token k.Text (prefix_len (is_inside q) l + 1) at q ((inside ++ (q ∷ [])) ++ rest)) (Wrong (OpenText at))) ends
    ∙ ap (λ m. cond (begins q (drop m (inside ++ (q ∷ rest)))) (token k.Text (m + 1) at q ((inside ++ (q ∷ [])) ++ rest)) (Wrong (OpenText at))) n
    ∙ ap (λ l. cond (begins q l) (token k.Text (length inside + 1) at q ((inside ++ (q ∷ [])) ++ rest)) (Wrong (OpenText at))) (drop-append_seam inside (q ∷ rest))
    ∙ pick (q == q) (token k.Text (length inside + 1) at q ((inside ++ (q ∷ [])) ++ rest)) _ (same q)
    ∙ ap (λ m. token k.Text m at q ((inside ++ (q ∷ [])) ++ rest)) more
    ∙ ap (λ l. Token (record { kind = k.Text; bytes = q ∷ l; at = at })) (take-append_seam (inside ++ (q ∷ [])) rest)

pub text_one : (bytes : List ℕ) → IsText bytes → IsOne k.Text bytes
text_one bytes (q, inside, is, e, all) =
    subst (IsOne k.Text) (sym is) (quote_blank q e, λ at rest s. text_begins q inside rest at e all)

-- a number that is not whole
pub number_alone : (bytes : List ℕ) → IsLiteral bytes → number_kind bytes ≡ k.Number → IsOne k.Number bytes
number_alone bytes is kind = subst (λ (c : TokenKind). IsOne c bytes) kind (number_one bytes is)

-- a token that is always the same
pub the_one : (c : Terminal) → varies c ≡ false → IsOne (token_of c).kind (token_of c).bytes
unfolding begun_at
the_one t.Var e = name_one (codes "var") (refl, refl, omega arith)
the_one t.Varexo e = name_one (codes "varexo") (refl, refl, omega arith)
the_one t.Parameters e = name_one (codes "parameters") (refl, refl, omega arith)
the_one t.Model e = name_one (codes "model") (refl, refl, omega arith)
the_one t.End e = name_one (codes "end") (refl, refl, omega arith)
the_one t.Initval e = name_one (codes "initval") (refl, refl, omega arith)
the_one t.Endval e = name_one (codes "endval") (refl, refl, omega arith)
the_one t.Histval e = name_one (codes "histval") (refl, refl, omega arith)
the_one t.Shocks e = name_one (codes "shocks") (refl, refl, omega arith)
the_one t.Steady e = name_one (codes "steady") (refl, refl, omega arith)
the_one t.SteadyStateModel e = name_one (codes "steady_state_model") (refl, refl, omega arith)
the_one t.PerfectForesightSetup e = name_one (codes "perfect_foresight_setup") (refl, refl, omega arith)
the_one t.PerfectForesightSolver e = name_one (codes "perfect_foresight_solver") (refl, refl, omega arith)
the_one t.OccbinConstraints e = name_one (codes "occbin_constraints") (refl, refl, omega arith)
the_one t.OccbinSetup e = name_one (codes "occbin_setup") (refl, refl, omega arith)
the_one t.OccbinSolver e = name_one (codes "occbin_solver") (refl, refl, omega arith)
the_one t.Check e = name_one (codes "check") (refl, refl, omega arith)
the_one t.Resid e = name_one (codes "resid") (refl, refl, omega arith)
the_one t.Rplot e = name_one (codes "rplot") (refl, refl, omega arith)
the_one t.ModelDiagnostics e = name_one (codes "model_diagnostics") (refl, refl, omega arith)
the_one t.Min e = name_one (codes "min") (refl, refl, omega arith)
the_one t.Max e = name_one (codes "max") (refl, refl, omega arith)
the_one t.Diff e = name_one (codes "diff") (refl, refl, omega arith)
the_one t.Abs e = name_one (codes "abs") (refl, refl, omega arith)
the_one t.Pick e = name_one (codes "pick") (refl, refl, omega arith)
the_one t.SteadyState e = name_one (codes "STEADY_STATE") (refl, refl, omega arith)
the_one t.Reserved e = name_one (codes "exp") (refl, refl, omega arith)
the_one t.Name e = cc
the_one t.Whole e = cc
the_one t.Number e = cc
the_one t.Text e = cc
the_one t.Slash e = (refl, slash_begins)
the_one t.Less e = (refl, less_begins)
the_one t.Greater e = (refl, greater_begins)
the_one _ e = (refl, λ at rest s. refl)
