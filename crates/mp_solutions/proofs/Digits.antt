-- The decimal digits of a number of any size: digits, which write the number.
use Rattle.std.proofs.Common.{◌≡◌, ℕ, zero, suc, ◌+◌, ◌-◌, ◌*◌, ◌/◌, ◌%◌, ◌^◌, ◌<◌, ◌≤◌, List, [], ◌∷◌, ◌++◌, cond, false, fold, refl, sym, ap, ◌∙◌, subst, ⊎_elim, arith, append_assoc, eq-eqb, ne_eqb, lt-ltb}
use Rattle.std.specs.List.{AllByRecursion as Each}
use Rattle.std.specs.Fmt.{digits, digits_onto, digit_glyph, decimal}
use Rattle.std.proofs.lemmas.Bool.{cases_lt}
use Rattle.mp_solutions.specs.Auxiliaries.{decimal_digits}
use Rattle.mp_solutions.proofs.Lists.{each_append}

-- the number with one more digit
abbrev with_digit : ℕ → ℕ → ℕ
with_digit m c = m * 10 + (c - 48)

fold-append : (a : ℕ) (xs ys : List ℕ) → fold with_digit a (xs ++ ys) ≡ fold with_digit (fold with_digit a xs) ys
fold-append a [] ys = refl
fold-append a (x ∷ xs) ys = fold-append (with_digit a x) xs ys

abbrev pub IsDigit : ℕ → Type 0
IsDigit c = (48 ≤ c) × (c ≤ 57)

-- these digits write this number
record Writes (n : ℕ) (ds : List ℕ) : Type 0 where
  digits : Each IsDigit ds
  value : fold with_digit 0 ds ≡ n

one_digit : (n : ℕ) → n < 10 → Writes n ((48 + n) ∷ [])
one_digit n low = record { digits = ((omega arith, omega arith), tt); value = omega arith }

one_more : (n : ℕ) (ds : List ℕ) → Writes (n / 10) ds → Writes n (ds ++ (48 + n % 10) ∷ [])
one_more n ds w = record {
  digits = each_append IsDigit ds ((48 + n % 10) ∷ []) w.digits ((omega arith, omega arith), tt);
  value = fold-append 0 ds ((48 + n % 10) ∷ []) ∙ ap (λ m. with_digit m (48 + n % 10)) w.value ∙ last n;
}
  where
    last : (n : ℕ) → with_digit (n / 10) (48 + n % 10) ≡ n
    last n = omega arith

-- ---- what is spelled

abbrev pub spell : ℕ → ℕ → List ℕ → List ℕ
spell k n rest = digits_onto k 10 false n rest

abbrev pub last_glyph : ℕ → ℕ
last_glyph n = digit_glyph false (n % 10)

pub glyph : (n : ℕ) → n < 10 → digit_glyph false n ≡ 48 + n
glyph n low = ap (λ t. cond t (48 + n) (87 + n)) (lt-ltb n 10 low)

pub spell_last : (k n : ℕ) (rest : List ℕ) → n < 10 → spell (suc k) n rest ≡ last_glyph n ∷ rest
spell_last k n rest low = ap (λ t. cond t (last_glyph n ∷ rest) (spell k (n / 10) (last_glyph n ∷ rest))) (eq-eqb (n / 10) 0 (omega arith))

pub spell_next : (k n : ℕ) (rest : List ℕ) → 10 ≤ n → spell (suc k) n rest ≡ spell k (n / 10) (last_glyph n ∷ rest)
spell_next k n rest high = ap (λ t. cond t (last_glyph n ∷ rest) (spell k (n / 10) (last_glyph n ∷ rest))) (ne_eqb (n / 10) 0 (λ e. omega arith))

pub spell-append : (k n : ℕ) (rest : List ℕ) → spell k n rest ≡ spell k n [] ++ rest
spell-append zero n rest = refl
spell-append (suc k) n rest = ⊎_elim
    (λ low. spell_last k n rest low ∙ ap (λ l. l ++ rest) (sym (spell_last k n [] low)))
    (λ high. spell_next k n rest high ∙ spell-append k (n / 10) (last_glyph n ∷ rest) ∙ sym (append_assoc (spell k (n / 10) []) (last_glyph n ∷ []) rest) ∙ ap (λ l. l ++ rest) (sym (spell_next k n [] high ∙ spell-append k (n / 10) (last_glyph n ∷ []))))
    (cases_lt n 10)

-- how many digits there may be does not matter where there may be enough
spell_enough : (j k n : ℕ) (rest : List ℕ) → n < 10 ^ suc j → n ≤ k → spell (suc j) n rest ≡ spell (suc k) n rest
spell_enough zero k n rest p q = spell_last zero n rest (omega arith) ∙ sym (spell_last k n rest (omega arith))
spell_enough (suc j) zero n rest p q = spell_last (suc j) n rest (omega arith) ∙ sym (spell_last zero n rest (omega arith))
spell_enough (suc j) (suc k) n rest p q = ⊎_elim
    (λ low. spell_last (suc j) n rest low ∙ sym (spell_last (suc k) n rest low))
    (λ high. spell_next (suc j) n rest high ∙ spell_enough j k (n / 10) (last_glyph n ∷ rest) (omega arith) (omega arith) ∙ sym (spell_next (suc k) n rest high))
    (cases_lt n 10)

-- what the standard library writes, with 64 digits at most
pub decimal_of_any_size : (n : ℕ) → n < 2 ^ 128 → decimal n ≡ decimal_digits n
unfolding digits
decimal_of_any_size n small = spell_enough 63 n n [] (omega arith) (omega arith)

spelled_writes : (k n : ℕ) → n < k → Writes n (spell k n [])
spelled_writes zero n small = absurd (omega arith)
spelled_writes (suc k) n small = ⊎_elim
    (λ low. subst (Writes n) (sym (spell_last k n [] low ∙ ap (λ d. d ∷ []) (ap (digit_glyph false) (omega arith) ∙ glyph n low))) (one_digit n low))
    (λ high. subst (Writes n) (sym (spell_next k n [] high ∙ spell-append k (n / 10) (last_glyph n ∷ []) ∙ ap (λ d. spell k (n / 10) [] ++ d ∷ []) (glyph (n % 10) (omega arith)))) (one_more n (spell k (n / 10) []) (spelled_writes k (n / 10) (omega arith))))
    (cases_lt n 10)

pub all_digits : (n : ℕ) → Each IsDigit (decimal_digits n)
all_digits n = (spelled_writes (suc n) n (omega arith)).digits

pub digits_same : (m n : ℕ) → decimal_digits m ≡ decimal_digits n → m ≡ n
digits_same m n e = sym (spelled_writes (suc m) m (omega arith)).value ∙ ap (fold with_digit 0) e ∙ (spelled_writes (suc n) n (omega arith)).value
