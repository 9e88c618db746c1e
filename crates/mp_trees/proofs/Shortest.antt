-- The number of a literal has no digit too many after its point.
use Rattle.std.proofs.Common.{◌≡◌, ◌≢◌, ◌⊎◌, ℕ, zero, suc, ◌+◌, ◌%◌, ℤ, pos, negsuc, List, [], ◌∷◌, take, drop, fold, cond, Bool, true, false, ◌&&◌, ◌==◌, refl, sym, ap, ◌∙◌, subst, inl, inr, arith, leb}
use Rattle.std.specs.Char.{is_ascii_digit}
use Rattle.std.specs.List.{list_all}
use Rattle.std.proofs.lemmas.Bool.{and_parts, and_from, leb-true, eqb-false}
use Rattle.std.proofs.lemmas.List.{drop-drop, drop-take}
use Rattle.std.proofs.lemmas.List.Folds.{list_all-append}
use Rattle.mp_tokens.specs.Tokens.{digits_length, fraction_length}
use Rattle.mp_tokens.specs.Literals.{Decimal, with_digit, number_of, whole_digits, fraction_digits, kept, without_end_zeros, all_digits, digits_kept, scale_of, decimal_by, decimal_of}

abbrev AllDigits : List ℕ → Type 0
AllDigits ds = list_all is_ascii_digit ds ≡ true

front : (bs : List ℕ) → AllDigits (take (digits_length bs) bs)
front [] = refl
front (b ∷ bs) = by (is_ascii_digit b) refl (front bs)
  where
    by : (t : Bool) → is_ascii_digit b ≡ t → AllDigits (take (digits_length bs) bs) → AllDigits (take (cond t (1 + digits_length bs) 0) (b ∷ bs))
    by true is further =
        let e : 1 + digits_length bs ≡ suc (digits_length bs) = omega arith in
        subst (λ (n : ℕ). AllDigits (take n (b ∷ bs))) (sym e) (and_from (is_ascii_digit b) (list_all is_ascii_digit (take (digits_length bs) bs)) is further)
    by false is further = refl

after_point : (n : ℕ) (bs : List ℕ) → AllDigits (drop 1 (take (fraction_length n bs) bs))
after_point n [] = refl
after_point n (b ∷ bs) = by (b == 46 && leb 1 (n + digits_length bs)) (front bs)
  where
    by : (t : Bool) → AllDigits (take (digits_length bs) bs) → AllDigits (drop 1 (take (cond t (1 + digits_length bs) 0) (b ∷ bs)))
    by true further =
        let e : 1 + digits_length bs ≡ suc (digits_length bs) = omega arith in
        subst (λ (n : ℕ). AllDigits (drop 1 (take n (b ∷ bs)))) (sym e) further
    by false further = refl

fraction : (bs : List ℕ) → AllDigits (fraction_digits bs)
fraction bs =
    let n = digits_length bs in
    let p = fraction_length n (drop n bs) in
    let e : n + 1 ≡ suc n = omega arith in
    subst AllDigits (ap (drop 1) (sym (drop-take n p bs)) ∙ drop-drop 1 n (take (n + p) bs) ∙ ap (λ (m : ℕ). drop m (take (n + p) bs)) e) (after_point n (drop n bs))

digits : (literal : List ℕ) → AllDigits (all_digits literal)
digits literal =
    list_all-append is_ascii_digit (whole_digits literal) (fraction_digits literal)
    ∙ and_from (list_all is_ascii_digit (whole_digits literal)) (list_all is_ascii_digit (fraction_digits literal)) (front literal) (fraction literal)

-- digits that do not end with 0 write a number that does not
abbrev Ends : ℕ → List ℕ → Type 0
Ends n ds = (ds ≡ []) ⊎ (fold with_digit n ds % 10 ≢ 0)

one_digit : (n d : ℕ) → is_ascii_digit d ≡ true → (d == 48) ≡ false → with_digit n d % 10 ≢ 0
one_digit n d is other e =
    let p = and_parts (leb 48 d) (leb d 57) is in
    let low = leb-true 48 d p.0 in
    let high = leb-true d 57 p.1 in
    eqb-false d 48 other (omega (arith, low, high, e))

ends : (n : ℕ) (ds : List ℕ) → AllDigits ds → Ends n (without_end_zeros ds)
ends n [] all = inl refl
ends n (d ∷ ds) all =
    let p = and_parts (is_ascii_digit d) (list_all is_ascii_digit ds) all in
    by (without_end_zeros ds) (ends (with_digit n d) ds p.1) p.0
  where
    alone : (t : Bool) → (d == 48) ≡ t → is_ascii_digit d ≡ true → Ends n (cond t [] (d ∷ []))
    alone true is digit = inl refl
    alone false is digit = inr (one_digit n d digit is)

    by : (es : List ℕ) → Ends (with_digit n d) es → is_ascii_digit d ≡ true → Ends n (kept d es)
    by [] h digit = alone (d == 48) refl digit
    by (e ∷ es) (inl none) digit = absurd (let z : ⊥ = cc in z)
    by (e ∷ es) (inr h) digit = inr h

abbrev pub IsShortest : Decimal → Type 0
IsShortest d = (d.s ≡ 0) ⊎ (d.m % 10 ≢ 0)

scaled : (n : ℕ) (k : ℤ) → (n ≡ 0) ⊎ (n % 10 ≢ 0) → IsShortest (decimal_by n k)
scaled zero k h = inl refl
scaled (suc n) (pos k) h = inl refl
scaled (suc n) (negsuc k) (inl e) = absurd (omega (arith, e))
scaled (suc n) (negsuc k) (inr h) = inr h

pub decimal_shortest : (literal : List ℕ) → IsShortest (decimal_of literal)
unfolding decimal_of
decimal_shortest literal =
    scaled (number_of (digits_kept literal)) (scale_of literal) (elim (ends 0 (all_digits literal) (digits literal)) [
      | inl none ↦ inl (ap number_of none)
      | inr h ↦ inr h
    ])

-- the same of a number that was read from it
pub shortest_by : (literal : List ℕ) (m s : ℕ) → m ≡ (decimal_of literal).m → s ≡ (decimal_of literal).s → (s ≡ 0) ⊎ (m % 10 ≢ 0)
shortest_by literal m s e f =
    subst (λ (n : ℕ). (s ≡ 0) ⊎ (n % 10 ≢ 0)) (sym e) (subst (λ (n : ℕ). (n ≡ 0) ⊎ ((decimal_of literal).m % 10 ≢ 0)) (sym f) (decimal_shortest literal))
