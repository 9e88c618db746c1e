-- What the values of a boundary come to, and what stands for a slot.
use Rattle.std.proofs.Common.{rules, ◌≡◌, ◌∙◌, ℕ, ℤ, zero, suc, pos, negsuc, ◌+◌, ◌-◌, ◌*◌, ◌/◌, ◌<◌, ◌≤◌, Bool, true, false, cond, List, [], ◌∷◌, length, map, get_or, Option, Some, ap, sym, refl, subst, arith}
use Rattle.std.specs.Prelude.{slice_get, IsSome, IsTrue, nat_lt, nat_le}
use Rattle.std.proofs.lemmas.Bool.Decides.{nat_tests}
use Rattle.std.proofs.lemmas.List.{length-map}
use Rattle.std.proofs.Math.Nat.{div-mul-le_self}
use Rattle.mp_rational.specs.Fraction.{Fraction}
use Rattle.mp_frac.specs.Value.{value_of}
use Rattle.mp_frac.specs.declared.frac.Frac.{Frac}
use Rattle.mp_semantics.specs.Term.{Variable, endogenous, exogenous}
use Rattle.mp_semantics.specs.Solves.{is_inside, is_near}
use Rattle.mp_walk.specs.Cells.{Cell}
use Rattle.mp_path.specs.Points.{Points, point_of, IsFilled}
use Rattle.mp_path.specs.Edges.{Edges, edge_of, parameter_of, listed_edge, periods_to, outside_to}
use Rattle.mp_trial.specs.Full.{IsFull}

some_at : (xs : List Fraction) (i : ℕ) → i < length xs → IsSome (slice_get xs i)
some_at [] i h = absurd (omega arith)
some_at (x ∷ xs) zero h = refl
some_at (x ∷ xs) (suc i) h = some_at xs i (omega arith)

row_below : (q w v r : ℕ) → v < q → r < w → v * w + r < q * w
row_below q w v r h k = search rules

part_below : (n w v r : ℕ) → v < n / w → r < w → v * w + r < n
part_below n w v r h k = omega (arith, row_below (n / w) w v r h k, div-mul-le_self n w)

either_below : (b : Bool) (p q n : ℕ) → (b ≡ true → p < n) → (b ≡ false → q < n) → cond b p q < n
either_below true p q n h k = h refl
either_below false p q n h k = k refl

-- a period beside the horizon has one of 49 places
beside_within : (T : ℕ) (t : ℤ) → is_near T t ≡ true → is_inside T t ≡ false → outside_to T t < 49
beside_within T (negsuc k) near out = either_below (nat_le (23 - k) 24) (23 - k) (23 - k - T) 49 (λ e. omega arith) (λ e. omega arith)
beside_within T (pos zero) near out = either_below (nat_le (0 + 24) 24) (0 + 24) (0 + 24 - T) 49 (λ e. omega arith) (λ e. omega arith)
beside_within T (pos (suc s)) near out =
    let last : suc s < T + 25 = grind (arith, nat_tests) in
    let first : T ≤ s = grind (arith, nat_tests) in
    either_below (nat_le (suc s + 24) 24) (suc s + 24) (suc s + 24 - T) 49
    (λ e. let small : suc s + 24 ≤ 24 = grind (arith, nat_tests) in omega (arith, small))
    (λ e. omega (arith, last, first))

near_within : (T : ℕ) (t : ℤ) → is_near T t ≡ true → periods_to t < T + 49
near_within T (pos t) near = let last : t < T + 25 = grind (arith, nat_tests) in omega (arith, last)
near_within T (negsuc k) near = omega arith

endo_there : (T : ℕ) (es xs : List Fraction) (v : ℕ) (t : ℤ) → v < length es / 49 → is_near T t ≡ true → is_inside T t ≡ false
    → IsSome (listed_edge T es xs (endogenous v) t)
endo_there T es xs v t h near out =
    rw (near, out) (some_at es (v * 49 + outside_to T t) (part_below (length es) 49 v (outside_to T t) h (beside_within T t near out)))

exo_there : (T : ℕ) (es xs : List Fraction) (v : ℕ) (t : ℤ) → v < length xs / (T + 49) → is_near T t ≡ true
    → IsSome (listed_edge T es xs (exogenous v) t)
exo_there T es xs v t h near =
    rw near (some_at xs (v * (T + 49) + periods_to t) (part_below (length xs) (T + 49) v (periods_to t) h (near_within T t near)))

-- a boundary has what these lists come to
pub full_new : (b : Edges) (T : ℕ) (ps es xs : List Frac) (p e x : ℕ) → p ≡ length ps → e ≡ length es → x ≡ length xs → b.periods ≡ T → ((p : ℕ) → parameter_of b p ≡ slice_get (map value_of ps) p)
    → ((x : Variable) (t : ℤ) → edge_of b x t ≡ listed_edge T (map value_of es) (map value_of xs) x t)
    → IsFull b p (e / 49) (x / (T + 49))
full_new b T ps es xs p e x lp le lx hT hp hv = record {
  parameters = λ n h. subst (λ (q : Option Fraction). IsSome q) (sym (hp n)) (some_at (map value_of ps) n (subst (λ (m : ℕ). n < m) (lp ∙ sym (length-map ps value_of)) h));
  endogenous = λ v t h near out.
      subst (λ (q : Option Fraction). IsSome q) (sym (hv (endogenous v) t))
      (endo_there T (map value_of es) (map value_of xs) v t (subst (λ (m : ℕ). v < m / 49) (le ∙ sym (length-map es value_of)) h)
      (subst (λ (n : ℕ). is_near n t ≡ true) hT near) (subst (λ (n : ℕ). is_inside n t ≡ false) hT out));
  exogenous = λ v t h near.
      subst (λ (q : Option Fraction). IsSome q) (sym (hv (exogenous v) t))
      (exo_there T (map value_of es) (map value_of xs) v t (subst (λ (m : ℕ). v < m / (T + 49)) (lx ∙ sym (length-map xs value_of)) h)
      (subst (λ (n : ℕ). is_near n t ≡ true) hT near));
}

-- a slot inside the horizon has a number
pub slot_there : (g : Points) (v : ℕ) (t : ℤ) → IsFilled g → is_inside g.edges.periods t ≡ true → v < g.slots → IsSome (point_of g (endogenous v) t)
slot_there g v (pos zero) filled inside below = cc
slot_there g v (negsuc k) filled inside below = cc
slot_there g v (pos (suc s)) filled inside below =
    let last : suc s ≤ g.edges.periods = grind (arith, nat_tests) in
    let first : 1 ≤ suc s = omega arith in
    filled v (suc s) below first last
