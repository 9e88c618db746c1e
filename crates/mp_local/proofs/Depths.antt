-- Ends in differences, where both ends and the number of differences are told up to a limit.
use Rattle.std.proofs.Common.{◌≡◌, ◌⊎◌, inl, inr, ℕ, ◌+◌, ◌<◌, ◌≤◌, min, max, ℤ, pos, negsuc, ◌-ℤ◌, unsigned_abs, List, sym, ap, subst, ◌∙◌, arith}
use Rattle.std.proofs.lemmas.Int.{ints}
use Rattle.std.proofs.lemmas.Bool.{cases_lt}
use Rattle.mp_values.specs.Shifts.{differenced, greatest_shift}
use Rattle.mp_local.specs.Ends.{AreEnds}
use Rattle.mp_local.proofs.EndLaws.{ends_differenced, shift_of_ends, differenced_further}

-- so deep, what is near goes far
deep_far : (l : ℤ) (n F : ℕ) → unsigned_abs l ≤ F → F + F ≤ n → F ≤ unsigned_abs (l -ℤ pos n)
deep_far (pos a) n F near deep = let e : ℤ = pos a -ℤ pos n in omega (arith, ints)
deep_far (negsuc a) n F near deep = omega (arith, ints)

-- what is beyond stays so, and what is near does not
abbrev pub Goes_on : (F limit most : ℕ) (least g : ℤ) (ks : List ℤ) → Type 0
Goes_on F limit most least g ks =
    (most ≤ limit → (greatest_shift ks ≤ limit) × AreEnds least g ks) × (limit < most → (limit < greatest_shift ks) × (min most F ≡ min (greatest_shift ks) F))

module _ (l g : ℤ) (F depth d limit most : ℕ) (least : ℤ) (ks : List ℤ) (is_depth : depth ≡ min d (F + F)) (l_near : unsigned_abs l ≤ F) (small : limit < F) (is_least : least ≡ l -ℤ pos depth) (is_most : most ≡ max (unsigned_abs least) (unsigned_abs g)) where
  abbrev gone : ℕ
  gone = greatest_shift (differenced d ks)

  shallow : d ≤ F + F → AreEnds l g ks → Goes_on F limit most least g (differenced d ks)
  shallow low a =
      let same : depth ≡ d = omega (arith, is_depth, low) in
      let e : least ≡ l -ℤ pos d = is_least ∙ ap (λ (n : ℕ). l -ℤ pos n) same in
      let b : AreEnds least g (differenced d ks) = subst (λ (k : ℤ). AreEnds k g (differenced d ks)) (sym e) (ends_differenced d l g ks a) in
      let far = shift_of_ends least g (differenced d ks) b in
      ((λ near. (omega (arith, far, is_most, near), b)), λ beyond. (omega (arith, far, is_most, beyond), omega (arith, far, is_most)))

  deep : F + F < d → AreEnds l g ks → Goes_on F limit most least g (differenced d ks)
  deep high a =
      let far = shift_of_ends (l -ℤ pos d) g (differenced d ks) (ends_differenced d l g ks a) in
      let there = deep_far l d F l_near (omega (arith, high)) in
      let here : F ≤ unsigned_abs least = rw is_least (deep_far l depth F l_near (omega (arith, is_depth, high))) in
      ((λ near. absurd (omega (arith, near, here, is_most, small))), λ beyond. (omega (arith, far, there, small), omega (arith, far, there, here, is_most)))

  beyond_stays : F ≤ unsigned_abs g → F ≤ greatest_shift ks → Goes_on F limit most least g (differenced d ks)
  beyond_stays here there =
      let further = differenced_further d ks in
      ((λ near. absurd (omega (arith, near, here, is_most, small))), λ beyond. (omega (arith, further, there, small), omega (arith, further, there, here, is_most)))

  pub goes_on : AreEnds l g ks ⊎ ((F ≤ unsigned_abs g) × (F ≤ greatest_shift ks)) → Goes_on F limit most least g (differenced d ks)
  goes_on (inl a) = elim (cases_lt (F + F) d) [
    | inl high ↦ deep high a
    | inr low ↦ shallow low a
  ]
  goes_on (inr h) = beyond_stays h.0 h.1
