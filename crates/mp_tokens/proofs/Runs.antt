-- Runs of bytes that pass a test.
use Rattle.std.proofs.Common.{◌≡◌, ℕ, suc, ◌+◌, ◌<◌, ◌≤◌, List, [], ◌∷◌, ◌++◌, length, take, drop, Bool, true, false, cond, ◌&&◌, ◌==◌, nat_lt, refl, sym, ap, ◌∙◌, arith}
use Rattle.std.proofs.lemmas.Bool.Decides.{nat_tests}
use Rattle.std.proofs.Math.Seq.{take-add}
use Rattle.std.specs.List.{prefix_len, list_all}
use Rattle.mp_tokens.specs.Tokens.{begins}

pub both_true : (a b : Bool) → (a && b) ≡ true → (a ≡ true) × (b ≡ true)
both_true true b e = (refl, e)
both_true false b e = cc

pub same_number : (m n : ℕ) → (m == n) ≡ true → m ≡ n
same_number m n e = grind (arith, nat_tests)

pub not_zero : (n : ℕ) → (n == 0) ≡ false → 0 < n
not_zero n e = grind (arith, nat_tests)

pub is_less : (m n : ℕ) → nat_lt m n ≡ true → m < n
is_less m n e = grind (arith, nat_tests)

pub not_less : (n : ℕ) → nat_lt 127 n ≡ false → n ≤ 127
not_less n e = grind (arith, nat_tests)

pub one_more : (n : ℕ) → suc n ≡ 1 + n
one_more n = omega arith

-- a run passes its test
pub run_passes : (p : ℕ → Bool) (bs : List ℕ) → list_all p (take (prefix_len p bs) bs) ≡ true
run_passes p [] = refl
run_passes p (b ∷ bs) = by (p b) refl (run_passes p bs)
  where
    by : (t : Bool) → p b ≡ t → list_all p (take (prefix_len p bs) bs) ≡ true → list_all p (take (cond t (1 + prefix_len p bs) 0) (b ∷ bs)) ≡ true
    by false e more = refl
    by true e more =
        ap (λ n. list_all p (take n (b ∷ bs))) (sym (one_more (prefix_len p bs))) ∙ ap (λ t. t && list_all p (take (prefix_len p bs) bs)) e ∙ more

-- a run goes through bytes that pass
pub run_through : (p : ℕ → Bool) (bs rest : List ℕ) → list_all p bs ≡ true → prefix_len p (bs ++ rest) ≡ length bs + prefix_len p rest
run_through p [] rest all = omega arith
run_through p (b ∷ bs) rest all =
    let h = both_true (p b) (list_all p bs) all in
    ap (λ t. cond t (1 + prefix_len p (bs ++ rest)) 0) h.0 ∙ ap (λ n. 1 + n) (run_through p bs rest h.1) ∙ omega arith

-- up to a byte that closes
pub closes_with : (b : ℕ) (bs : List ℕ) → begins b bs ≡ true → (rest : List ℕ) × (bs ≡ b ∷ rest)
closes_with b [] e = cc
closes_with b (c ∷ cs) e = let same : c ≡ b = same_number c b e in (cs, ap (λ x. x ∷ cs) same)

pub take_one : (n : ℕ) (bs rest : List ℕ) (b : ℕ) → drop n bs ≡ b ∷ rest → take (n + 1) bs ≡ take n bs ++ (b ∷ [])
take_one n bs rest b e = take-add n 1 bs ∙ ap (λ l. take n bs ++ take 1 l) e
