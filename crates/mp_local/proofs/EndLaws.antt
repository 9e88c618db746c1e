-- The ends of shifts together, and in differences; and how far they go.
use Rattle.std.proofs.Common.{◌≡◌, ◌⊎◌, inl, inr, ℕ, zero, suc, ◌≤◌, max, ℤ, pos, negsuc, ◌-ℤ◌, ◌≤ℤ◌, unsigned_abs, int_lt, Bool, true, false, cond, List, [], ◌∷◌, ◌++◌, map, refl, ap, subst, arith}
use Rattle.std.specs.Int.{int_min, int_max}
use Rattle.std.proofs.lemmas.Int.{ints, clamps}
use Rattle.mp_values.specs.Shifts.{differenced, greatest_shift}
use Rattle.mp_local.specs.Ends.{IsAmong, AreEnds}
use Rattle.mp_local.proofs.Among.{among_left, among_right, among_cases, among_map, among_mapped}

-- a number that is chosen from two is one of them
chosen : (P : ℤ → Type 0) (b : Bool) (x y : ℤ) → P x → P y → P (cond b x y)
chosen P true x y p q = p
chosen P false x y p q = q

pub min_near : (x y r : ℤ) (n : ℕ) → unsigned_abs x ≤ n → unsigned_abs y ≤ n → r ≡ int_min x y → unsigned_abs r ≤ n
min_near x y r n p q is = rw is (chosen (λ (k : ℤ). unsigned_abs k ≤ n) (int_lt y x) y x q p)

pub max_near : (x y r : ℤ) (n : ℕ) → unsigned_abs x ≤ n → unsigned_abs y ≤ n → r ≡ int_max x y → unsigned_abs r ≤ n
max_near x y r n p q is = rw is (chosen (λ (k : ℤ). unsigned_abs k ≤ n) (int_lt y x) x y p q)

-- ---- together

module _ (l g m h : ℤ) (ks js : List ℤ) (a : AreEnds l g ks) (b : AreEnds m h js) where
  both_within : (k : ℤ) → IsAmong k ks ⊎ IsAmong k js → (int_min l m ≤ℤ k) × (k ≤ℤ int_max g h)
  both_within k (inl e) = let w = a.within k e in (omega (arith, ints, clamps, w.0), omega (arith, ints, clamps, w.1))
  both_within k (inr e) = let w = b.within k e in (omega (arith, ints, clamps, w.0), omega (arith, ints, clamps, w.1))

  pub ends_append : AreEnds (int_min l m) (int_max g h) (ks ++ js)
  ends_append = record {
    least_in = chosen (λ k. IsAmong k (ks ++ js)) (int_lt m l) m l (among_right m ks js b.least_in) (among_left l ks js a.least_in);
    greatest_in = chosen (λ k. IsAmong k (ks ++ js)) (int_lt h g) g h (among_left g ks js a.greatest_in) (among_right h ks js b.greatest_in);
    within = λ k e. both_within k (among_cases k ks js e);
  }

  pub ends_joined : (r t : ℤ) → r ≡ int_min l m → t ≡ int_max g h → AreEnds r t (ks ++ js)
  ends_joined r t least greatest = rw (least, greatest) ends_append

-- ---- in differences

module _ (l g : ℤ) (ks : List ℤ) (a : AreEnds l g ks) where
  one_within : (k : ℤ) → IsAmong k ks ⊎ IsAmong k (map (λ j. j -ℤ pos 1) ks) → ((l -ℤ pos 1) ≤ℤ k) × (k ≤ℤ g)
  one_within k (inl e) = let w = a.within k e in (omega (arith, ints, w.0), w.1)
  one_within k (inr e) =
      let j = among_mapped (λ i. i -ℤ pos 1) k ks e in
      let w = a.within j.0 j.1 in
      let is : k ≡ j.0 -ℤ pos 1 = j.2 in
      (omega (arith, ints, w.0, is), omega (arith, ints, w.1, is))

  ends_once : AreEnds (l -ℤ pos 1) g (ks ++ map (λ j. j -ℤ pos 1) ks)
  ends_once = record {
    least_in = among_right (l -ℤ pos 1) ks (map (λ j. j -ℤ pos 1) ks) (among_map (λ j. j -ℤ pos 1) l ks a.least_in);
    greatest_in = among_left g ks (map (λ j. j -ℤ pos 1) ks) a.greatest_in;
    within = λ k e. one_within k (among_cases k ks (map (λ j. j -ℤ pos 1) ks) e);
  }

pub ends_differenced : (d : ℕ) (l g : ℤ) (ks : List ℤ) → AreEnds l g ks → AreEnds (l -ℤ pos d) g (differenced d ks)
ends_differenced zero l g ks a = let e : l ≡ l -ℤ pos 0 = omega (arith, ints) in subst (λ (k : ℤ). AreEnds k g ks) e a
ends_differenced (suc d) l g ks a =
    let e : (l -ℤ pos 1) -ℤ pos d ≡ l -ℤ pos (suc d) = omega (arith, ints) in
    subst (λ (k : ℤ). AreEnds k g (differenced d (ks ++ map (λ j. j -ℤ pos 1) ks))) e (ends_differenced d (l -ℤ pos 1) g (ks ++ map (λ j. j -ℤ pos 1) ks) (ends_once l g ks a))

-- ---- how far

pub shift_at_most : (n : ℕ) (ks : List ℤ) → ((k : ℤ) → IsAmong k ks → unsigned_abs k ≤ n) → greatest_shift ks ≤ n
shift_at_most n [] each = omega arith
shift_at_most n (k ∷ ks) each = omega (arith, each k (inl refl), shift_at_most n ks (λ j e. each j (inr e)))

pub shift_at_least : (k : ℤ) (ks : List ℤ) → IsAmong k ks → unsigned_abs k ≤ greatest_shift ks
shift_at_least k [] e = absurd e
shift_at_least k (x ∷ ks) (inl e) = omega (arith, ap unsigned_abs e)
shift_at_least k (x ∷ ks) (inr e) = omega (arith, shift_at_least k ks e)

between : (l k g : ℤ) → l ≤ℤ k → k ≤ℤ g → unsigned_abs k ≤ max (unsigned_abs l) (unsigned_abs g)
between l (pos n) (pos m) p q = omega (arith, ints, q)
between l (pos n) (negsuc m) p q = omega (arith, ints, q)
between (pos m) (negsuc n) g p q = omega (arith, ints, p)
between (negsuc m) (negsuc n) g p q = omega (arith, ints, p)

pub shift_of_ends : (l g : ℤ) (ks : List ℤ) → AreEnds l g ks → greatest_shift ks ≡ max (unsigned_abs l) (unsigned_abs g)
shift_of_ends l g ks a =
    let most = shift_at_most (max (unsigned_abs l) (unsigned_abs g)) ks (λ k e. between l k g (a.within k e).0 (a.within k e).1) in
    omega (arith, most, shift_at_least l ks a.least_in, shift_at_least g ks a.greatest_in)

-- differences leave the shifts there
pub differenced_in : (d : ℕ) (k : ℤ) (ks : List ℤ) → IsAmong k ks → IsAmong k (differenced d ks)
differenced_in zero k ks e = e
differenced_in (suc d) k ks e = differenced_in d k (ks ++ map (λ j. j -ℤ pos 1) ks) (among_left k ks (map (λ j. j -ℤ pos 1) ks) e)

pub differenced_further : (d : ℕ) (ks : List ℤ) → greatest_shift ks ≤ greatest_shift (differenced d ks)
differenced_further d ks = shift_at_most (greatest_shift (differenced d ks)) ks (λ k e. shift_at_least k (differenced d ks) (differenced_in d k ks e))
