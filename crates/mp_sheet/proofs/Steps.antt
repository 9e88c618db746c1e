-- Each step of the code is a step of the definition.
use Rattle.std.proofs.Common.{◌≡◌, ℕ, ℤ, suc, ◌+◌, ◌-◌, ◌*◌, ◌<◌, ◌≤◌, cond, Result, Ok, Err, refl, ap, sym, ◌∙◌, arith}
use Rattle.std.specs.Prelude.{nat_lt}
use Rattle.std.specs.Int.RustNames.{unsigned_abs}
use Rattle.std.proofs.lemmas.Bool.Decides.{nat_tests}
use Rattle.mp_elim.specs.declared.ElimFault.{ElimFault}
use Rattle.mp_turns.specs.Turns.{and_then}
use Rattle.mp_elim.specs.Elimination.{System, put, less_product, lessened, pivot_row}
use Rattle.mp_sheet.specs.Walks.{Leads}

-- a chain's first answer
pub then_ok : {A B : Type 0} (r : Result A ElimFault) (next : A → Result B ElimFault) (x : A) (q : Result B ElimFault) → r ≡ Ok x → next x ≡ q → and_then r next ≡ q
then_ok r next x q h k = rw h k

pub then_err : {A B : Type 0} (r : Result A ElimFault) (next : A → Result B ElimFault) (e : ElimFault) → r ≡ Err e → and_then r next ≡ Err e
then_err r next e h = rw h refl

pub product_is : (j : ℕ) (z a y u v : ℤ) (r q : Result ℤ ElimFault) → z ≡ u → y ≡ v → r ≡ less_product j z a y → r ≡ q → less_product j u a v ≡ q
product_is j z a y u v r q hz hy hr hq = ap (λ (x : ℤ). less_product j x a v) (sym hz) ∙ (ap (λ (x : ℤ). less_product j z a x) (sym hy) ∙ (sym hr ∙ hq))

pub lessened_ok : (j i : ℕ) (f : ℤ) (k : ℕ) (s t : System) (z y x : ℤ) (r : Result ℤ ElimFault)
    → z ≡ s.at i k → y ≡ s.at j k → r ≡ less_product j z f y → r ≡ Ok x → t ≡ put s i k x → lessened j i f k s ≡ Ok t
lessened_ok j i f k s t z y x r hz hy hr hx ht =
    then_ok (less_product j (s.at i k) f (s.at j k)) (λ w. Ok (put s i k w)) x (Ok t) (product_is j z f y (s.at i k) (s.at j k) r (Ok x) hz hy hr hx) (rw ht refl)

pub lessened_err : (j i : ℕ) (f : ℤ) (k : ℕ) (s : System) (z y : ℤ) (e : ElimFault) (r : Result ℤ ElimFault)
    → z ≡ s.at i k → y ≡ s.at j k → r ≡ less_product j z f y → r ≡ Err e → lessened j i f k s ≡ Err e
lessened_err j i f k s z y e r hz hy hr he =
    then_err (less_product j (s.at i k) f (s.at j k)) (λ w. Ok (put s i k w)) e (product_is j z f y (s.at i k) (s.at j k) r (Err e) hz hy hr he)

-- one row more in the search of a pivot
pub pivot_more : (s : System) (j low i best next : ℕ) → i < low → cond (nat_lt (unsigned_abs (s.at best j)) (unsigned_abs (s.at i j))) i best ≡ next
    → pivot_row s j (i + 1) (low - (i + 1)) next ≡ pivot_row s j i (low - i) best
pivot_more s j low i best next h e =
    let k : low - i ≡ suc (low - (i + 1)) = omega arith in
    sym (ap (λ (n : ℕ). pivot_row s j i n best) k ∙ ap (λ (n : ℕ). pivot_row s j (i + 1) (low - (i + 1)) n) e)

pub takes_greater : (a b i best : ℕ) → a < b → cond (nat_lt a b) i best ≡ i
takes_greater a b i best h = grind (arith, nat_tests)

pub keeps_best : (a b i best : ℕ) → b ≤ a → cond (nat_lt a b) i best ≡ best
keeps_best a b i best h = grind (arith, nat_tests)

-- one row more in a bound of so much for each row
pub cost_more : (old new start i j c : ℕ) → j < i → old ≤ start + (i - (j + 1)) * c → new ≤ old + c → new ≤ start + (i + 1 - (j + 1)) * c
cost_more old new start i j c h a b =
    let e : i + 1 - (j + 1) ≡ (i - (j + 1)) + 1 = omega arith in
    rw e (omega arith)

pub product_at : (j : ℕ) (z a x u v : ℤ) (r q : Result ℤ ElimFault) → a ≡ u → x ≡ v → r ≡ less_product j z a x → r ≡ q → less_product j z u v ≡ q
product_at j z a x u v r q ha hx hr hq = ap (λ (b : ℤ). less_product j z b v) (sym ha) ∙ (ap (λ (b : ℤ). less_product j z a b) (sym hx) ∙ (sym hr ∙ hq))

-- what leads somewhere by one walk does so by the same walk
pub leads_by : (r : Result (Unit {0}) ElimFault) (w v : Result System ElimFault) (t : System) → w ≡ v → Leads r w t → Leads r v t
leads_by (Ok x) w v t e h = sym e ∙ h
leads_by (Err x) w v t e h = sym e ∙ h
