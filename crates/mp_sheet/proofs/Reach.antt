-- What a column reaches is kept, and how many operations it takes.
use Rattle.std.proofs.Common.{◌≡◌, ℕ, suc, ◌+◌, ◌-◌, ◌*◌, ◌/◌, ◌^◌, ◌<◌, ◌≤◌, pos, Result, Ok, Err, refl, ap, ◌∙◌, subst, arith, inl, inr}
use Rattle.std.proofs.lemmas.Bool.{cases_lt}
use Rattle.std.proofs.lemmas.Nat.{le-div}
use Rattle.std.proofs.Math.Nat.{div-mul-le_self, lt-div-mul-add, div-lt_iff_lt-mul, mul-le-mul_right, mul-le-mul_left, mul_assoc, mul_left_comm, mul-add, mul-one, pow-zero, pow-succ'}
use Rattle.mp_elim.specs.declared.ElimFault.{ElimFault}
use Rattle.mp_turns.specs.Turns.{each_down}
use Rattle.mp_elim.specs.Elimination.{System}
use Rattle.mp_elim.specs.Shape.{low_of, past_of}
use Rattle.mp_elim.proofs.Band.{Shape}
use Rattle.mp_sheet.specs.Layout.{Form, IsKept, IsRoomy}
use Rattle.mp_sheet.specs.Walks.{IsWindow}

-- a row of the block of column j, or of the next one, keeps the columns of this block and of the next two
pub reach_kept : (f : Form) (i j k : ℕ) → 0 < f.block → IsRoomy f → j ≤ i → i < low_of f.block f.count j → j ≤ k → k < past_of f.block f.count j → IsKept f i k
reach_kept f i j k z r a b c d =
    let n : ℕ = f.block in
    let lo : j / n * n ≤ j = div-mul-le_self j n in
    let one : j / n ≤ i / n = le-div (j / n) i n z (omega arith) in
    let wide : j / n * n ≤ i / n * n = mul-le-mul_right n one in
    let two : i / n < j / n + 2 = (div-lt_iff_lt-mul z).1 (omega arith) in
    let three : i / n ≤ j / n + 1 = omega arith in
    let high : i / n * n ≤ (j / n + 1) * n = mul-le-mul_right n three in
    r.keeps i k (omega arith) (omega arith) (omega arith) (omega arith)

pub window : (f : Form) (s0 s : System) (j : ℕ) → 0 < f.block → j < f.count → IsRoomy f → ((i k : ℕ) → f.count ≤ k → s.at i k ≡ pos 0) → Shape f.block f.count (j / f.block) j s0 s
    → IsWindow f s j (low_of f.block f.count j) (past_of f.block f.count j)
window f s0 s j z l r out p = record {
  rows = omega arith;
  kept = λ i k a b c d. reach_kept f i j k z r a b c d;
  before = λ i k a b c. p.before i k a (omega arith) (omega arith) c;
  behind = λ i k a b c. elim (cases_lt k f.count) [
    | inl d ↦ p.after i k a (omega arith) (omega arith) (omega arith)
    | inr d ↦ out i k d
  ];
}

pub each_down_ok : {S : Type 0} (step : ℕ → S → Result S ElimFault) (j : ℕ) (s t : S) → 0 < j → step (j - 1) s ≡ Ok t → each_down step j s ≡ each_down step (j - 1) t
each_down_ok step j s t h e = let k : j ≡ suc (j - 1) = omega arith in ap (λ (n : ℕ). each_down step n s) k ∙ rw e refl

pub each_down_err : {S : Type 0} (step : ℕ → S → Result S ElimFault) (j : ℕ) (s : S) (d : ElimFault) → 0 < j → step (j - 1) s ≡ Err d → each_down step j s ≡ Err d
each_down_err step j s d h e = let k : j ≡ suc (j - 1) = omega arith in ap (λ (n : ℕ). each_down step n s) k ∙ rw e refl

-- the operations of a column
pub product_bound : (a b n : ℕ) → a + 1 ≤ 2 * n → b ≤ 6 * n + 1 → a * b ≤ 12 * n * n
product_bound a b n h k =
    let p : a * b ≤ a * (6 * n + 1) = mul-le-mul_left a k in
    let q : (a + 1) * (6 * n + 1) ≤ 2 * n * (6 * n + 1) = mul-le-mul_right (6 * n + 1) h in
    omega (arith, p, q)

pub column_cost : (n m j : ℕ) → 0 < n → j < m → (low_of n m j - (j + 1)) * (2 * (past_of n m j - j) + 1) ≤ 12 * n * n
column_cost n m j z l =
    let lo : j / n * n ≤ j = div-mul-le_self j n in
    product_bound (low_of n m j - (j + 1)) (2 * (past_of n m j - j) + 1) n (omega arith) (omega arith)

pub answer_cost : (n m j : ℕ) → 0 < n → 2 * (past_of n m j - j) ≤ 6 * n
answer_cost n m j z = let lo : j / n * n ≤ j = div-mul-le_self j n in omega arith

pub all_cost : (new start j m c : ℕ) → j < m → new ≤ start + (j + 1) * c → new ≤ start + m * c
all_cost new start j m c h k = let l : j + 1 ≤ m = omega arith in let p : (j + 1) * c ≤ m * c = mul-le-mul_right c l in omega (arith, p)

-- in the words of the code
pub window_at : (f : Form) (s0 s : System) (n m j low past : ℕ) → n ≡ f.block → m ≡ f.count → low ≡ low_of n m j → past ≡ past_of n m j → 0 < n → j < m → IsRoomy f
    → ((i k : ℕ) → f.count ≤ k → s.at i k ≡ pos 0) → Shape n m (j / n) j s0 s → IsWindow f s j low past
window_at f s0 s n m j low past hn hm hl hp z l r out p =
    let z2 : 0 < f.block = subst (λ (x : ℕ). 0 < x) hn z in
    let l2 : j < f.count = subst (λ (x : ℕ). j < x) hm l in
    let p2 : Shape f.block m (j / f.block) j s0 s = subst (λ (x : ℕ). Shape x m (j / x) j s0 s) hn p in
    let p3 : Shape f.block f.count (j / f.block) j s0 s = subst (λ (x : ℕ). Shape f.block x (j / f.block) j s0 s) hm p2 in
    rw (hl, hp, hn, hm) (window f s0 s j z2 l2 r out p3)

pub own_kept : (f : Form) (n m j past k : ℕ) → n ≡ f.block → m ≡ f.count → past ≡ past_of n m j → 0 < n → j < m → IsRoomy f → j ≤ k → k < past → IsKept f j k
own_kept f n m j past k hn hm hp z l r a b =
    let z2 : 0 < f.block = subst (λ (x : ℕ). 0 < x) hn z in
    let l2 : j < f.count = subst (λ (x : ℕ). j < x) hm l in
    let e : past ≡ past_of f.block f.count j = hp ∙ (ap (λ (x : ℕ). past_of x m j) hn ∙ ap (λ (x : ℕ). past_of f.block x j) hm) in
    let b2 : k < past_of f.block f.count j = subst (λ (x : ℕ). k < x) e b in
    let hi : j < j / f.block * f.block + f.block = lt-div-mul-add z2 in
    reach_kept f j j k z2 r (omega arith) (omega arith) a b2

pub cost_next : (n m j low past start old new : ℕ) → low ≡ low_of n m j → past ≡ past_of n m j → 0 < n → j < m
    → old ≤ start + j * (12 * n * n) → new ≤ old + (low - (j + 1)) * (2 * (past - j) + 1) → new ≤ start + (j + 1) * (12 * n * n)
cost_next n m j low past start old new hl hp z l a b =
    let c : (low - (j + 1)) * (2 * (past - j) + 1) ≤ 12 * n * n = rw (hl, hp) (column_cost n m j z l) in
    omega (arith, c)

pub cost_back : (n m j past start old new : ℕ) → past ≡ past_of n m (j - 1) → 0 < n → 0 < j → j ≤ m
    → old ≤ start + (m - j) * (6 * n) → new ≤ old + 2 * (past - (j - 1)) → new ≤ start + (m - (j - 1)) * (6 * n)
cost_back n m j past start old new hp z p l a b =
    let c : 2 * (past - (j - 1)) ≤ 6 * n = rw hp (answer_cost n m (j - 1) z) in
    let e : m - (j - 1) ≡ (m - j) + 1 = omega arith in
    rw e (omega (arith, c))

-- n times the operations of a row of n
pub cube : (n : ℕ) → n * (12 * n * n + 6 * n) ≡ 12 * n ^ 3 + 6 * n ^ 2
cube n =
    let square : n ^ 2 ≡ n * n = pow-succ' n 1 ∙ ap (λ (x : ℕ). n * x) (pow-succ' n 0 ∙ (ap (λ (x : ℕ). n * x) (pow-zero n) ∙ mul-one n)) in
    let all : n ^ 3 ≡ n * (n * n) = pow-succ' n 2 ∙ ap (λ (x : ℕ). n * x) square in
    let first : n * (12 * n * n) ≡ 12 * (n * (n * n)) = ap (λ (x : ℕ). n * x) (mul_assoc 12 n n) ∙ mul_left_comm n 12 (n * n) in
    let second : n * (6 * n) ≡ 6 * (n * n) = mul_left_comm n 6 n in
    mul-add n (12 * n * n) (6 * n) ∙ omega (arith, square, all, first, second)
