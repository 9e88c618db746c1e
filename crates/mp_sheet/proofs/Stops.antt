-- A row that is 0 from some column on takes nothing from other rows there.
use Rattle.std.proofs.Common.{◌≡◌, ℕ, ℤ, ◌+◌, ◌-◌, ◌*◌, ◌<◌, ◌≤◌, Bool, true, false, cond, pos, get_or, Result, Ok, Err, refl, ap, sym, ◌∙◌, subst, arith}
use Rattle.std.specs.Prelude.{int_lt}
use Rattle.std.specs.Ordering.{int_eq}
use Rattle.std.specs.Int.RustNames.{unsigned_abs}
use Rattle.std.proofs.Math.Nat.{mul-le-mul_left}
use Rattle.mp_fix.specs.Units.{most}
use Rattle.mp_elim.specs.declared.ElimFault.{ElimFault}
use Rattle.mp_elim.specs.declared.ElimFault.TheVariants.{Pivot}
use Rattle.mp_turns.specs.Turns.{and_then, each}
use Rattle.mp_turns.proofs.Turn.{and_then_same}
use Rattle.mp_turns.proofs.Each.{and_then-ok, each_parts, each_idle, each_same}
use Rattle.mp_elim.specs.Elimination.{System, over, less_product, put, put_right, swapped, lessened, less_row, cleared, pivot_of, column}
use Rattle.mp_elim.proofs.Zeros.{lessened_idle}
use Rattle.mp_elim.proofs.Rows.{walk_walks}
use Rattle.mp_elim.proofs.Columns.{Partly, partly_more, partly_none}
use Rattle.mp_sheet.specs.Layout.{Layout, is_kept, place_of, system_of, HasLimit}

by_test : (b : Bool) (x : ℤ) → unsigned_abs x ≤ most → unsigned_abs (cond b x (pos 0)) ≤ most
by_test true x h = h
by_test false x h = omega arith

pub has_limit : (l : Layout) → ((i : ℕ) → unsigned_abs (get_or l.places i (pos 0)) ≤ most) → HasLimit (system_of l)
unfolding system_of
has_limit l h i k = by_test (is_kept l.form i k) (get_or l.places (place_of l.form i k) (pos 0)) (h (place_of l.form i k))

walk_stops : (past end j i : ℕ) (f : ℤ) (s : System) → j < end → end ≤ past
    → ((k : ℕ) → end ≤ k → k < past → s.at j k ≡ pos 0) → ((k : ℕ) → unsigned_abs (s.at i k) ≤ most) → (i ≡ j → ⊥)
    → each (lessened j i f) (j + 1) (past - (j + 1)) s ≡ each (lessened j i f) (j + 1) (end - (j + 1)) s
walk_stops past end j i f s l h z small ne =
    each_parts (lessened j i f) (j + 1) end past s (omega arith) h
    ∙ (and_then_same (each (lessened j i f) (j + 1) (end - (j + 1)) s) (λ t. each (lessened j i f) end (past - end) t) (λ t. Ok t)
    (λ t e. let w = walk_walks j i f (j + 1) (end - (j + 1)) s t e in
    each_idle (lessened j i f) (past - end) end t
    (λ k a b. lessened_idle j i f k t (w.same j k (λ x y o. omega arith) ∙ z k a (omega arith))
    (subst (λ (x : ℤ). unsigned_abs x ≤ most) (sym (w.same i k (λ x y o. omega arith))) (small k))))
    ∙ and_then-ok (each (lessened j i f) (j + 1) (end - (j + 1)) s))

cleared_stops : (past end j i : ℕ) (s : System) → j < end → end ≤ past
    → ((k : ℕ) → end ≤ k → k < past → s.at j k ≡ pos 0) → ((k : ℕ) → unsigned_abs (s.at i k) ≤ most) → (i ≡ j → ⊥)
    → cleared past j i s ≡ cleared end j i s
cleared_stops past end j i s l h z small ne =
    ap (λ (r : Result System ElimFault). cond (int_eq (s.at i j) (pos 0)) (Ok s) r)
    (and_then_same (over j (s.at i j) (s.at j j)) (λ f. less_row past j i f s) (λ f. less_row end j i f s)
    (λ f e. ap (λ (r : Result System ElimFault). and_then r (λ t. and_then (less_product j (t.right i) f (t.right j)) (λ x. Ok (put (put_right t i x) i j (pos 0)))))
    (walk_stops past end j i f s l h z small ne)))

-- the rows below lose nothing in the columns where row j is 0
pub clear_stops : (low past end j : ℕ) (s : System) → j < low → j < end → end ≤ past → HasLimit s
    → ((k : ℕ) → end ≤ k → k < past → s.at j k ≡ pos 0)
    → each (cleared past j) (j + 1) (low - (j + 1)) s ≡ each (cleared end j) (j + 1) (low - (j + 1)) s
clear_stops low past end j s jl je ep small zeros =
    each_same (cleared past j) (cleared end j) (λ i t. Partly end j i s t) low
    (λ i t a p. let b = p.behind in cleared_stops past end j i t je ep
    (λ k c d. p.same j k (λ x y z w. omega arith) ∙ zeros k c d)
    (λ k. subst (λ (x : ℤ). unsigned_abs x ≤ most) (sym (p.same i k (λ x y z w. omega arith))) (small i k)) (λ e. omega arith))
    (λ i t u a p e. partly_more end j i s t u je p e)
    (low - (j + 1)) (j + 1) s (omega arith) (partly_none end j s)

pub cost_stops : (rows past end j : ℕ) → end ≤ past → rows * (2 * (end - j) + 1) ≤ rows * (2 * (past - j) + 1)
cost_stops rows past end j h = let l : 2 * (end - j) + 1 ≤ 2 * (past - j) + 1 = omega arith in mul-le-mul_left rows l

chosen_second : (b : Bool) (x y : Result System ElimFault) → b ≡ false → cond b x y ≡ y
chosen_second true x y h = cc
chosen_second false x y h = refl

-- a column whose pivot is not below the threshold
pub column_goes : (threshold : ℤ) (low past j p : ℕ) (s t : System) → p ≡ pivot_of low j s → int_lt (pos (unsigned_abs (s.at p j))) threshold ≡ false → t ≡ swapped s j p
    → each (cleared past j) (j + 1) (low - (j + 1)) t ≡ column threshold low past j s
column_goes threshold low past j p s t e h st =
    let go : ℕ → Result System ElimFault = λ q. cond (int_lt (pos (unsigned_abs (s.at q j))) threshold) (Err (Pivot (j + 1) (pos (unsigned_abs (s.at q j))))) (each (cleared past j) (j + 1) (low - (j + 1)) (swapped s j q)) in
    ap (λ (u : System). each (cleared past j) (j + 1) (low - (j + 1)) u) st
    ∙ (sym (chosen_second (int_lt (pos (unsigned_abs (s.at p j))) threshold) (Err (Pivot (j + 1) (pos (unsigned_abs (s.at p j))))) (each (cleared past j) (j + 1) (low - (j + 1)) (swapped s j p)) h)
    ∙ ap go e)
