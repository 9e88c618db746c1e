-- What stands at the front of a text as its longest number has the form of a number, and no number there is longer.
use Rattle.std.proofs.Common.{◌≡◌, ◌⊎◌, inl, inr, ℕ, zero, suc, ◌+◌, ◌<◌, ◌≤◌, List, [], ◌∷◌, ◌++◌, length, take, drop, Bool, true, false, cond, ◌&&◌, ◌||◌, ◌==◌, nat_lt, refl, sym, ap, subst, ◌∙◌, arith, append_assoc, append-nil, length-append}
use Rattle.std.proofs.lemmas.Bool.Decides.{nat_tests}
use Rattle.std.proofs.lemmas.List.Folds.{length-prefix_len}
use Rattle.std.proofs.Math.Seq.{take-add, drop-append_seam}
use Rattle.std.specs.Char.{is_ascii_digit}
use Rattle.std.specs.List.{list_all}
use Rattle.mp_tokens.specs.Tokens.{digits_length, fraction_length, is_exponent, sign_length, scale_length, exponent_length, mantissa_length, number_length}
use Rattle.mp_tokens.specs.Forms.{AreDigits, IsWhole, IsPointed, IsSign, IsScale, IsNumber}
use Rattle.mp_tokens.proofs.Runs.{both_true, same_number, is_less, one_more, run_passes, run_through}

-- ---- the front of a text has the form

-- digits, and what a point with its digits adds
with_fraction : (front : List ℕ) (d : ℕ) (rest : List ℕ) → AreDigits front → length front ≡ d → 0 < d + fraction_length d rest → IsWhole (front ++ take (fraction_length d rest) rest) ⊎ IsPointed (front ++ take (fraction_length d rest) rest)
with_fraction front d [] digits counted some =
    inl (subst IsWhole (sym (append-nil front)) (digits, omega arith))
with_fraction front d (c ∷ cs) digits counted some =
    by (c == 46 && nat_lt 0 (d + digits_length cs)) refl some
  where
    by : (t : Bool) → (c == 46 && nat_lt 0 (d + digits_length cs)) ≡ t → 0 < d + cond t (1 + digits_length cs) 0 → IsWhole (front ++ take (cond t (1 + digits_length cs) 0) (c ∷ cs)) ⊎ IsPointed (front ++ take (cond t (1 + digits_length cs) 0) (c ∷ cs))
    by false e more = inl (subst IsWhole (sym (append-nil front)) (digits, omega arith))
    by true e more =
        let h = both_true (c == 46) (nat_lt 0 (d + digits_length cs)) e in
        let counts : length (take (digits_length cs) cs) ≡ digits_length cs = length-prefix_len is_ascii_digit cs in
        let split : take (1 + digits_length cs) (c ∷ cs) ≡ 46 ∷ take (digits_length cs) cs = ap (λ n. take n (c ∷ cs)) (sym (one_more (digits_length cs))) ∙ ap (λ b. b ∷ take (digits_length cs) cs) (same_number c 46 h.0) in
        inr (front, take (digits_length cs) cs, digits, run_passes is_ascii_digit cs, omega (arith, is_less 0 (d + digits_length cs) h.1), ap (λ l. front ++ l) split)

mantissa_form : (bs : List ℕ) → 0 < mantissa_length bs → IsWhole (take (mantissa_length bs) bs) ⊎ IsPointed (take (mantissa_length bs) bs)
mantissa_form bs some =
    let d = digits_length bs in
    subst (λ l. IsWhole l ⊎ IsPointed l) (sym (take-add d (fraction_length d (drop d bs)) bs)) (with_fraction (take d bs) d (drop d bs) (run_passes is_ascii_digit bs) (length-prefix_len is_ascii_digit bs) some)

-- a letter, a sign that is taken, and digits
scaled : (letter : ℕ) (sign rest : List ℕ) (k : ℕ) → is_exponent letter ≡ true → IsSign sign → k ≡ digits_length rest → 0 < scale_length (length sign) k → IsScale (letter ∷ (sign ++ take k rest))
scaled letter sign rest zero e signed is some = absurd (omega arith)
scaled letter sign rest (suc k) e signed is some =
    (letter, sign, take (suc k) rest, e, signed, (ap (λ n. list_all is_ascii_digit (take n rest)) is ∙ run_passes is_ascii_digit rest, omega (arith, ap (λ n. length (take n rest)) is, length-prefix_len is_ascii_digit rest)), refl)

taken : (sign k : ℕ) (letter : ℕ) (bs : List ℕ) → 0 < scale_length sign k → take (scale_length sign k) (letter ∷ bs) ≡ letter ∷ (take sign bs ++ take k (drop sign bs))
taken sign zero letter bs some = absurd (omega arith)
taken sign (suc k) letter bs some =
    let n : 2 + sign + k ≡ suc (sign + suc k) = omega arith in
    ap (λ m. take m (letter ∷ bs)) n ∙ ap (λ l. letter ∷ l) (take-add sign (suc k) bs)

scale_form : (bs : List ℕ) → 0 < exponent_length bs → IsScale (take (exponent_length bs) bs)
scale_form [] some = absurd (omega arith)
scale_form (b ∷ bs) some = by (is_exponent b) refl some
  where
    signed : (l : List ℕ) → is_exponent b ≡ true → 0 < scale_length (sign_length l) (digits_length (drop (sign_length l) l)) → IsScale (b ∷ (take (sign_length l) l ++ take (digits_length (drop (sign_length l) l)) (drop (sign_length l) l)))
    signed [] e more = absurd (omega arith)
    signed (c ∷ cs) e more = by_sign (c == 43 || c == 45) refl more
      where
        sign_is : (p q : Bool) → (c == 43) ≡ p → (c == 45) ≡ q → (p || q) ≡ true → IsSign (c ∷ [])
        sign_is true q g h k = inr (inl (ap (λ x. x ∷ []) (same_number c 43 g)))
        sign_is false true g h k = inr (inr (ap (λ x. x ∷ []) (same_number c 45 h)))
        sign_is false false g h k = cc

        by_sign : (t : Bool) → (c == 43 || c == 45) ≡ t → 0 < scale_length (cond t 1 0) (digits_length (drop (cond t 1 0) (c ∷ cs))) → IsScale (b ∷ (take (cond t 1 0) (c ∷ cs) ++ take (digits_length (drop (cond t 1 0) (c ∷ cs))) (drop (cond t 1 0) (c ∷ cs))))
        by_sign true g some = scaled b (c ∷ []) cs (digits_length cs) e (sign_is (c == 43) (c == 45) refl refl g) refl some
        by_sign false g some = scaled b [] (c ∷ cs) (digits_length (c ∷ cs)) e (inl refl) refl some

    by : (t : Bool) → is_exponent b ≡ t → 0 < cond t (scale_length (sign_length bs) (digits_length (drop (sign_length bs) bs))) 0 → IsScale (take (cond t (scale_length (sign_length bs) (digits_length (drop (sign_length bs) bs))) 0) (b ∷ bs))
    by false e more = absurd (omega arith)
    by true e more =
        subst IsScale (sym (taken (sign_length bs) (digits_length (drop (sign_length bs) bs)) b bs more)) (signed bs e more)

-- the longest number at the front of these bytes is one
pub number_form : (bs : List ℕ) → 0 < number_length bs → IsNumber (take (number_length bs) bs)
number_form bs = by (m == 0) refl
  where
    m : ℕ
    m = mantissa_length bs

    x : ℕ
    x = exponent_length (drop m bs)

    scale_is : (n : ℕ) → n ≡ x → (take n (drop m bs) ≡ []) ⊎ IsScale (take n (drop m bs))
    scale_is zero is = inl refl
    scale_is (suc n) is =
        inr (subst (λ k. IsScale (take k (drop m bs))) (sym is) (scale_form (drop m bs) (omega arith)))

    nonzero : (n : ℕ) → (n == 0) ≡ false → 0 < n
    nonzero n e = grind (arith, nat_tests)

    by : (t : Bool) → (m == 0) ≡ t → 0 < cond t 0 (m + x) → IsNumber (take (cond t 0 (m + x)) bs)
    by true e some = absurd (omega arith)
    by false e some =
        (take m bs, take x (drop m bs), mantissa_form bs (nonzero m e), scale_is x refl, take-add m x bs)

-- ---- and none is longer

-- a byte that is the letter of an exponent is neither a digit nor a point
exponent_ends : (b : ℕ) (bs : List ℕ) → is_exponent b ≡ true → (digits_length (b ∷ bs) ≡ 0) × ((d : ℕ) → fraction_length d (b ∷ bs) ≡ 0)
exponent_ends b bs e = (ap (λ t. cond t (1 + digits_length bs) 0) no_digit, λ d. ap (λ t. cond (t && nat_lt 0 (d + digits_length bs)) (1 + digits_length bs) 0) no_point)
  where
    no_digit : is_ascii_digit b ≡ false
    no_digit = grind (arith, nat_tests)

    no_point : (b == 46) ≡ false
    no_point = grind (arith, nat_tests)

-- nothing more of a mantissa
record Ends (rest : List ℕ) : Type 0 where
  digits : digits_length rest ≡ 0
  fraction : (d : ℕ) → fraction_length d rest ≡ 0

whole_counts : (bs rest : List ℕ) → AreDigits bs → mantissa_length (bs ++ rest) ≡ length bs + digits_length rest + fraction_length (length bs + digits_length rest) (drop (length bs + digits_length rest) (bs ++ rest))
whole_counts bs rest all =
    ap (λ n. n + fraction_length n (drop n (bs ++ rest))) (run_through is_ascii_digit bs rest all)

pointed_counts : (front back rest : List ℕ) → AreDigits front → AreDigits back → 0 < length front + length back → mantissa_length (front ++ (46 ∷ (back ++ rest))) ≡ length front + (1 + (length back + digits_length rest))
pointed_counts front back rest f b some =
    let d = length front in
    let n = length back + digits_length rest in
    let before : digits_length (front ++ (46 ∷ (back ++ rest))) ≡ d = run_through is_ascii_digit front (46 ∷ (back ++ rest)) f ∙ omega arith in
    let after : digits_length (back ++ rest) ≡ n = run_through is_ascii_digit back rest b in
    let positive : nat_lt 0 (d + n) ≡ true = grind (arith, nat_tests) in
    ap (λ k. k + fraction_length k (drop k (front ++ (46 ∷ (back ++ rest))))) before
    ∙ ap (λ l. d + fraction_length d l) (drop-append_seam front (46 ∷ (back ++ rest)))
    ∙ ap (λ k. d + cond (nat_lt 0 (d + k)) (1 + k) 0) after
    ∙ ap (λ t. d + cond t (1 + n) 0) positive

mantissa_at_least : (bs rest : List ℕ) → IsWhole bs ⊎ IsPointed bs → length bs ≤ mantissa_length (bs ++ rest)
mantissa_at_least bs rest (inl whole) = omega (arith, whole_counts bs rest whole.0)
mantissa_at_least bs rest (inr (front, back, f, b, some, is)) =
    subst (λ l. length l ≤ mantissa_length (l ++ rest)) (sym is) (subst (λ l. length (front ++ (46 ∷ back)) ≤ mantissa_length l) (sym (append_assoc front (46 ∷ back) rest)) (omega (arith, length-append front (46 ∷ back), pointed_counts front back rest f b some)))

mantissa_exact : (bs rest : List ℕ) → IsWhole bs ⊎ IsPointed bs → Ends rest → mantissa_length (bs ++ rest) ≡ length bs
mantissa_exact bs rest (inl whole) ends =
    let n : length bs + digits_length rest ≡ length bs = omega (arith, ends.digits) in
    whole_counts bs rest whole.0
    ∙ ap (λ k. k + fraction_length k (drop k (bs ++ rest))) n
    ∙ ap (λ l. length bs + fraction_length (length bs) l) (drop-append_seam bs rest)
    ∙ ap (λ k. length bs + k) (ends.fraction (length bs))
    ∙ omega arith
mantissa_exact bs rest (inr (front, back, f, b, some, is)) ends =
    subst (λ l. mantissa_length (l ++ rest) ≡ length l) (sym is) (subst (λ l. mantissa_length l ≡ length (front ++ (46 ∷ back))) (sym (append_assoc front (46 ∷ back) rest)) (pointed_counts front back rest f b some ∙ omega (arith, length-append front (46 ∷ back), ends.digits)))

scale_long : (sign n : ℕ) → 0 < n → 1 + sign + n ≤ scale_length sign n
scale_long sign zero some = absurd (omega arith)
scale_long sign (suc n) some = omega arith

-- a sign is taken, and a digit is none
sign_taken : (sign digits rest : List ℕ) → IsSign sign → IsWhole digits → (sign_length ((sign ++ digits) ++ rest) ≡ length sign) × (drop (length sign) ((sign ++ digits) ++ rest) ≡ digits ++ rest)
sign_taken sign [] rest s w = absurd (omega (arith, w.1))
sign_taken sign (d ∷ ds) rest (inl s) w = subst (λ l. (sign_length ((l ++ (d ∷ ds)) ++ rest) ≡ length l) × (drop (length l) ((l ++ (d ∷ ds)) ++ rest) ≡ (d ∷ ds) ++ rest)) (sym s) (ap (λ t. cond t 1 0) no_sign, refl)
  where
    digit : is_ascii_digit d ≡ true
    digit = (both_true (is_ascii_digit d) (list_all is_ascii_digit ds) w.0).0

    no_sign : (d == 43 || d == 45) ≡ false
    no_sign = grind (arith, nat_tests, digit)
sign_taken sign (d ∷ ds) rest (inr (inl s)) w = subst (λ l. (sign_length ((l ++ (d ∷ ds)) ++ rest) ≡ length l) × (drop (length l) ((l ++ (d ∷ ds)) ++ rest) ≡ (d ∷ ds) ++ rest)) (sym s) (refl, refl)
sign_taken sign (d ∷ ds) rest (inr (inr s)) w = subst (λ l. (sign_length ((l ++ (d ∷ ds)) ++ rest) ≡ length l) × (drop (length l) ((l ++ (d ∷ ds)) ++ rest) ≡ (d ∷ ds) ++ rest)) (sym s) (refl, refl)

scale_at_least : (bs rest : List ℕ) → IsScale bs → length bs ≤ exponent_length (bs ++ rest)
scale_at_least bs rest (letter, sign, digits, e, s, w, is) =
    subst (λ l. length l ≤ exponent_length (l ++ rest)) (sym is) (subst (λ n. suc (length (sign ++ digits)) ≤ n) (sym value) (omega (arith, length-append sign digits, counted, scale_long (length sign) (length digits + digits_length rest) (omega (arith, w.1)))))
  where
    all : List ℕ
    all = (sign ++ digits) ++ rest

    h : (sign_length all ≡ length sign) × (drop (length sign) all ≡ digits ++ rest)
    h = sign_taken sign digits rest s w

    counted : digits_length (digits ++ rest) ≡ length digits + digits_length rest
    counted = run_through is_ascii_digit digits rest w.0

    value : exponent_length (letter ∷ all) ≡ scale_length (length sign) (length digits + digits_length rest)
    value =
        ap (λ t. cond t (scale_length (sign_length all) (digits_length (drop (sign_length all) all))) 0) e
        ∙ ap (λ n. scale_length n (digits_length (drop n all))) h.0
        ∙ ap (λ l. scale_length (length sign) (digits_length l)) h.1
        ∙ ap (scale_length (length sign)) counted

mantissa_some : (bs : List ℕ) → IsWhole bs ⊎ IsPointed bs → 0 < length bs
mantissa_some bs (inl w) = w.1
mantissa_some bs (inr (front, back, f, b, some, is)) = omega (arith, ap length is, length-append front (46 ∷ back))

-- a mantissa of some bytes, and what is added
number_value : (bs : List ℕ) → 0 < mantissa_length bs → number_length bs ≡ mantissa_length bs + exponent_length (drop (mantissa_length bs) bs)
number_value bs some =
    ap (λ t. cond t 0 (mantissa_length bs + exponent_length (drop (mantissa_length bs) bs))) (nonzero (mantissa_length bs) some)
  where
    nonzero : (n : ℕ) → 0 < n → (n == 0) ≡ false
    nonzero n some = grind (arith, nat_tests)

-- no number at the front of these bytes is longer
pub number_at_least : (bs rest : List ℕ) → IsNumber bs → length bs ≤ number_length (bs ++ rest)
number_at_least bs rest (m, s, counted, scale, is) =
    subst (λ l. length l ≤ number_length (l ++ rest)) (sym is) (subst (λ l. length (m ++ s) ≤ number_length l) (sym (append_assoc m s rest)) (by scale))
  where
    some : 0 < mantissa_length (m ++ (s ++ rest))
    some = omega (arith, mantissa_some m counted, mantissa_at_least m (s ++ rest) counted)

    ends : IsScale s → Ends (s ++ rest)
    ends (letter, sign, digits, e, g, w, k) =
        let h = exponent_ends letter ((sign ++ digits) ++ rest) e in
        subst (λ l. Ends (l ++ rest)) (sym k) (record { digits = h.0; fraction = h.1 })

    by : (s ≡ []) ⊎ IsScale s → length (m ++ s) ≤ number_length (m ++ (s ++ rest))
    by (inl none) =
        omega (arith, number_value (m ++ (s ++ rest)) some, mantissa_at_least m (s ++ rest) counted, length-append m s, ap length none)
    by (inr g) =
        let exact : mantissa_length (m ++ (s ++ rest)) ≡ length m = mantissa_exact m (s ++ rest) counted (ends g) in
        let left : drop (mantissa_length (m ++ (s ++ rest))) (m ++ (s ++ rest)) ≡ s ++ rest = ap (λ n. drop n (m ++ (s ++ rest))) exact ∙ drop-append_seam m (s ++ rest) in
        omega (arith, number_value (m ++ (s ++ rest)) some, exact, ap exponent_length left, scale_at_least s rest g, length-append m s)

-- a number begins with a digit or a point
pub number_begins : (b : ℕ) (bs : List ℕ) → IsNumber (b ∷ bs) → (is_ascii_digit b || b == 46) ≡ true
number_begins b bs (m, s, counted, scale, is) = by m counted is
  where
    digit_first : (d : ℕ) (ds l : List ℕ) → AreDigits (d ∷ ds) → b ∷ bs ≡ d ∷ l → (is_ascii_digit b || b == 46) ≡ true
    digit_first d ds l all e =
        let same : b ≡ d = cc in
        ap (λ c. is_ascii_digit c || c == 46) same ∙ ap (λ t. t || d == 46) (both_true (is_ascii_digit d) (list_all is_ascii_digit ds) all).0

    pointed : (front l : List ℕ) → AreDigits front → b ∷ bs ≡ front ++ (46 ∷ l) → (is_ascii_digit b || b == 46) ≡ true
    pointed [] l all e = let same : b ≡ 46 = cc in ap (λ c. is_ascii_digit c || c == 46) same
    pointed (d ∷ ds) l all e = digit_first d ds (ds ++ (46 ∷ l)) all e

    by : (m : List ℕ) → IsWhole m ⊎ IsPointed m → b ∷ bs ≡ m ++ s → (is_ascii_digit b || b == 46) ≡ true
    by [] (inl w) e = absurd (omega (arith, w.1))
    by (d ∷ ds) (inl w) e = digit_first d ds (ds ++ s) w.0 e
    by m (inr (front, back, f, g, some, k)) e =
        pointed front (back ++ s) f (e ∙ ap (λ l. l ++ s) k ∙ append_assoc front (46 ∷ back) s)
