-- Elimination is refused for a pivot or an overflow alone.
use Rattle.std.proofs.Common.{◌≡◌, ℕ, ℤ, pos, ◌+◌, ◌-◌, Bool, true, false, cond, List, length, map, Result, Ok, Err, refl}
use Rattle.std.specs.Prelude.{int_lt}
use Rattle.std.specs.List.{range_with_len}
use Rattle.std.specs.Ordering.{int_eq}
use Rattle.std.specs.Int.RustNames.{unsigned_abs}
use Rattle.mp_base.specs.declared.kinds.FixFault.{FixFault}
use Rattle.mp_base.specs.declared.kinds.Op.{Op}
use Rattle.mp_base.specs.declared.kinds.Op.TheVariants.{Mul, Sub, Div}
use Rattle.mp_fix.specs.Points.{product_down, difference_of, quotient_down}
use Rattle.mp_turns.specs.Turns.{and_then, each, each_down}
use Rattle.mp_turns.proofs.Each.{and_then_fault, each_fault, each_down_fault}
use Rattle.mp_elim.specs.declared.ElimFault.{ElimFault}
use Rattle.mp_elim.specs.declared.ElimFault.TheVariants.{Pivot, NoMemory}
use Rattle.mp_elim.specs.Elimination.{System, put, put_right, swapped, attempt, less_product, lessened, less_row, over, pivot_of, cleared, column, answered, system, solution}

abbrev Other : ElimFault → Type 0
Other e = e ≡ NoMemory → ⊥

attempt_other : (j : ℕ) (op : Op) (r : Result ℤ FixFault) (e : ElimFault) → attempt j op r ≡ Err e → Other e
attempt_other j op (Ok x) e h = cc
attempt_other j op (Err d) e h = λ k. cc

-- a value is no fault
made_other : {A : Type 0} (x : A) (e : ElimFault) → Ok x ≡ Err e → Other e
made_other x e h = cc

product_other : (j : ℕ) (z a x : ℤ) (e : ElimFault) → less_product j z a x ≡ Err e → Other e
product_other j z a x e =
    and_then_fault Other (attempt j Mul (product_down a x)) (λ p. attempt j Sub (difference_of z p)) (attempt_other j Mul (product_down a x))
    (λ p. attempt_other j Sub (difference_of z p)) e

lessened_other : (j i : ℕ) (f : ℤ) (k : ℕ) (s : System) (e : ElimFault) → lessened j i f k s ≡ Err e → Other e
lessened_other j i f k s e =
    and_then_fault Other (less_product j (s.at i k) f (s.at j k)) (λ x. Ok (put s i k x)) (product_other j (s.at i k) f (s.at j k)) (λ x. made_other (put s i k x)) e

row_other : (past j i : ℕ) (f : ℤ) (s : System) (e : ElimFault) → less_row past j i f s ≡ Err e → Other e
row_other past j i f s e =
    and_then_fault Other (each (lessened j i f) (j + 1) (past - (j + 1)) s)
    (λ t. and_then (less_product j (t.right i) f (t.right j)) (λ x. Ok (put (put_right t i x) i j (pos 0))))
    (each_fault Other (lessened j i f) (lessened_other j i f) (past - (j + 1)) (j + 1) s)
    (λ t. and_then_fault Other (less_product j (t.right i) f (t.right j)) (λ x. Ok (put (put_right t i x) i j (pos 0)))
    (product_other j (t.right i) f (t.right j)) (λ x. made_other (put (put_right t i x) i j (pos 0)))) e

-- either of two walks
either_other : {A : Type 0} (b : Bool) (r q : Result A ElimFault) → ((e : ElimFault) → r ≡ Err e → Other e) → ((e : ElimFault) → q ≡ Err e → Other e)
    → (e : ElimFault) → cond b r q ≡ Err e → Other e
either_other true r q h k = h
either_other false r q h k = k

cleared_other : (past j i : ℕ) (s : System) (e : ElimFault) → cleared past j i s ≡ Err e → Other e
cleared_other past j i s =
    either_other (int_eq (s.at i j) (pos 0)) (Ok s) (and_then (over j (s.at i j) (s.at j j)) (λ f. less_row past j i f s)) (made_other s)
    (and_then_fault Other (over j (s.at i j) (s.at j j)) (λ f. less_row past j i f s) (attempt_other j Div (quotient_down (s.at i j) (s.at j j))) (λ f. row_other past j i f s))

pivot_other : (j : ℕ) (x : ℤ) (e : ElimFault) → (let r : Result System ElimFault = Err (Pivot j x) in r) ≡ Err e → Other e
pivot_other j x e h = λ k. cc

column_other : (threshold : ℤ) (m j : ℕ) (s : System) (e : ElimFault) → column threshold m m j s ≡ Err e → Other e
column_other threshold m j s =
    let p : ℕ = pivot_of m j s in
    either_other (int_lt (pos (unsigned_abs (s.at p j))) threshold) (Err (Pivot (j + 1) (pos (unsigned_abs (s.at p j))))) (each (cleared m j) (j + 1) (m - (j + 1)) (swapped s j p))
    (pivot_other (j + 1) (pos (unsigned_abs (s.at p j)))) (each_fault Other (cleared m j) (cleared_other m j) (m - (j + 1)) (j + 1) (swapped s j p))

answered_other : (m j : ℕ) (s : System) (e : ElimFault) → answered m j s ≡ Err e → Other e
answered_other m j s =
    and_then_fault Other (each (λ k z. less_product j z (s.at j k) (s.right k)) (j + 1) (m - (j + 1)) (s.right j))
    (λ z. and_then (over j z (s.at j j)) (λ x. Ok (put_right s j x)))
    (each_fault Other (λ k z. less_product j z (s.at j k) (s.right k)) (λ k z. product_other j z (s.at j k) (s.right k)) (m - (j + 1)) (j + 1) (s.right j))
    (λ z. and_then_fault Other (over j z (s.at j j)) (λ x. Ok (put_right s j x)) (attempt_other j Div (quotient_down z (s.at j j))) (λ x. made_other (put_right s j x)))

pub solution_other : (a : List (List ℤ)) (b : List ℤ) (threshold : ℤ) → solution a b threshold ≡ Err NoMemory → ⊥
solution_other a b threshold h =
    let n : ℕ = length a in
    and_then_fault Other (and_then (each (λ j. column threshold n n j) 0 n (system a b)) (λ t. each_down (λ j. answered n j) n t)) (λ s. Ok (map s.right (range_with_len 0 n)))
    (and_then_fault Other (each (λ j. column threshold n n j) 0 n (system a b)) (λ t. each_down (λ j. answered n j) n t)
    (each_fault Other (λ j. column threshold n n j) (column_other threshold n) n 0 (system a b))
    (each_down_fault Other (λ j. answered n j) (answered_other n) n))
    (λ s. made_other (map s.right (range_with_len 0 n))) NoMemory h refl
