-- A name has a place in a list where it is in the list.
use Rattle.std.proofs.Common.{◌≡◌, ℕ, suc, ◌+◌, nat_lt, length, Bool, true, false, cond, not, ◌||◌, Some, None, is_some, position, List, [], ◌∷◌, refl, ◌∙◌, arith}
use Rattle.std.specs.List.{list_any, prefix_len, position_or_len}
use Rattle.std.proofs.lemmas.Bool.Decides.{nat_tests}

is_some-cond : (b : Bool) (n : ℕ) → is_some (cond b (Some n) None) ≡ b
is_some-cond true n = refl
is_some-cond false n = refl

within : {X : Type 0} (p : X → Bool) (xs : List X) → nat_lt (prefix_len (λ x. not (p x)) xs) (length xs) ≡ list_any p xs
within p [] = refl
within p (x ∷ xs) = by (p x) (within p xs)
  where
    by : (t : Bool) → nat_lt (prefix_len (λ y. not (p y)) xs) (length xs) ≡ list_any p xs → nat_lt (cond (not t) (1 + prefix_len (λ y. not (p y)) xs) 0) (suc (length xs)) ≡ t || list_any p xs
    by true further = grind (arith, nat_tests)
    by false further = let e : nat_lt (1 + prefix_len (λ y. not (p y)) xs) (suc (length xs)) ≡ nat_lt (prefix_len (λ y. not (p y)) xs) (length xs) = grind (arith, nat_tests) in e ∙ further

pub is_some-position : {X : Type 0} (p : X → Bool) (xs : List X) → is_some (position p xs) ≡ list_any p xs
is_some-position p xs = is_some-cond (nat_lt (position_or_len p xs) (length xs)) (position_or_len p xs) ∙ within p xs
