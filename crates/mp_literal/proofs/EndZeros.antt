-- Digits without the zeros at their end.
use Rattle.std.proofs.Common.{◌≡◌, ℕ, ◌+◌, ◌-◌, ◌<◌, ◌≤◌, List, [], ◌∷◌, ◌++◌, length, get_or, take, true, false, cond, ◌==◌, refl, sym, ap, ◌∙◌, arith, length-append, append-nil}
use Rattle.std.proofs.lemmas.Bool.Decides.{nat_tests}
use Rattle.std.proofs.lemmas.List.{take_more}
use Rattle.mp_tokens.specs.Literals.{kept, without_end_zeros}
use Rattle.mp_literal.specs.Accepted.{end_zeros}

-- a digit before some is kept
kept-before : (d : ℕ) (ds : List ℕ) → 0 < length ds → kept d ds ≡ d ∷ ds
kept-before d [] some = absurd (omega arith)
kept-before d (e ∷ es) some = refl

pub without_end_zeros-zero : (ds : List ℕ) → without_end_zeros (ds ++ 48 ∷ []) ≡ without_end_zeros ds
without_end_zeros-zero [] = refl
without_end_zeros-zero (d ∷ ds) = ap (kept d) (without_end_zeros-zero ds)

pub without_end_zeros-other : (ds : List ℕ) (e : ℕ) → (e == 48) ≡ false → without_end_zeros (ds ++ e ∷ []) ≡ ds ++ e ∷ []
without_end_zeros-other [] e h = ap (λ t. cond t [] (e ∷ [])) h
without_end_zeros-other (d ∷ ds) e h =
    ap (kept d) (without_end_zeros-other ds e h) ∙ kept-before d (ds ++ e ∷ []) (omega (arith, length-append ds (e ∷ [])))

pub without_end_zeros-append_none : (ds es : List ℕ) → without_end_zeros es ≡ [] → without_end_zeros (ds ++ es) ≡ without_end_zeros ds
without_end_zeros-append_none [] es h = h
without_end_zeros-append_none (d ∷ ds) es h = ap (kept d) (without_end_zeros-append_none ds es h)

pub without_end_zeros-append_some : (ds es : List ℕ) → 0 < length (without_end_zeros es) → without_end_zeros (ds ++ es) ≡ ds ++ without_end_zeros es
without_end_zeros-append_some [] es h = refl
without_end_zeros-append_some (d ∷ ds) es h =
    ap (kept d) (without_end_zeros-append_some ds es h) ∙ kept-before d (ds ++ without_end_zeros es) (omega (arith, length-append ds (without_end_zeros es)))

-- the first digits are those before the last one of them
last : (ds : List ℕ) (n : ℕ) → 0 < n → n ≤ length ds → take (n - 1) ds ++ get_or ds (n - 1) 0 ∷ [] ≡ take n ds
last ds n some le =
    let e : n - 1 + 1 ≡ n = omega arith in
    sym (take_more ds (n - 1) 0 (omega arith)) ∙ ap (λ i. take i ds) e

differs : (d : ℕ) → (d ≡ 48 → ⊥) → (d == 48) ≡ false
differs d other = grind (arith, nat_tests)

pub zero-last : (ds : List ℕ) (n : ℕ) → 0 < n → n ≤ length ds → get_or ds (n - 1) 0 ≡ 48 → without_end_zeros (take n ds) ≡ without_end_zeros ds → without_end_zeros (take (n - 1) ds) ≡ without_end_zeros ds
zero-last ds n some le zero told =
    sym (without_end_zeros-zero (take (n - 1) ds))
    ∙ ap (λ d. without_end_zeros (take (n - 1) ds ++ d ∷ [])) (sym zero)
    ∙ ap without_end_zeros (last ds n some le)
    ∙ told

pub other-last : (ds : List ℕ) (n : ℕ) → 0 < n → n ≤ length ds → (get_or ds (n - 1) 0 ≡ 48 → ⊥) → without_end_zeros (take n ds) ≡ without_end_zeros ds → take n ds ≡ without_end_zeros ds
other-last ds n some le other told =
    sym (last ds n some le)
    ∙ sym (without_end_zeros-other (take (n - 1) ds) (get_or ds (n - 1) 0) (differs (get_or ds (n - 1) 0) other))
    ∙ ap without_end_zeros (last ds n some le)
    ∙ told

pub none-left : (ds : List ℕ) (n : ℕ) → n ≡ 0 → without_end_zeros (take n ds) ≡ without_end_zeros ds → take n ds ≡ without_end_zeros ds
none-left ds n e told = ap (λ i. take i ds) e ∙ ap (λ i. without_end_zeros (take i ds)) (sym e) ∙ told

pub kept-none : (ws fs w f : List ℕ) → w ≡ without_end_zeros ws → f ≡ without_end_zeros fs → (length f == 0) ≡ true → w ++ f ≡ without_end_zeros (ws ++ fs)
kept-none ws fs w [] e h none = append-nil w ∙ e ∙ sym (without_end_zeros-append_none ws fs (sym h))
kept-none ws fs w (d ∷ f) e h none = absurd (grind (arith, nat_tests))

pub kept-some : (ws fs f : List ℕ) → f ≡ without_end_zeros fs → (length f == 0) ≡ false → ws ++ f ≡ without_end_zeros (ws ++ fs)
kept-some ws fs [] h some = cc
kept-some ws fs (d ∷ f) h some =
    ap (λ l. ws ++ l) h ∙ sym (without_end_zeros-append_some ws fs (omega (arith, ap length h)))

-- as many zeros are gone as were gone before and after the point
pub zeros-gone : (ws fs w f : List ℕ) → w ++ f ≡ without_end_zeros (ws ++ fs) → length w ≤ length ws → length f ≤ length fs → length ws - length w + (length fs - length f) ≡ end_zeros (ws ++ fs)
zeros-gone ws fs w f e whole fraction = omega (arith, ap length e, length-append w f, length-append ws fs)
