-- How far shifts go that are written in range.
use Rattle.std.proofs.Common.{◌≡◌, ℕ, zero, suc, ◌+◌, ◌≤◌, ◌^◌, max, nat_le, ℤ, pos, ◌-ℤ◌, unsigned_abs, Bool, true, false, cond, List, [], ◌∷◌, ◌++◌, map, Option, Some, None, refl, sym, ap, ◌∙◌, arith}
use Rattle.std.specs.List.{AllByRecursion, flat_map}
use Rattle.std.specs.Option.{option_or}
use Rattle.std.specs.Str.{bytes_eq}
use Rattle.std.proofs.lemmas.Int.{ints}
use Rattle.std.proofs.lemmas.Bool.Decides.{nat_tests}
use Rattle.mp_statements.specs.Statements.{Item, Local, Equates}
use Rattle.mp_values.specs.Names.{shift_of}
use Rattle.mp_values.specs.Shifts.{Reading, Shifts, FarName, own_shifts, differenced, shifts_from, greatest_shift, first_far, item_readings, readings, with_item, far_name}
use Rattle.mp_local.specs.Written.{IsWritten, AreWritten}

greatest-append : (ks js : List ℤ) → greatest_shift (ks ++ js) ≡ max (greatest_shift ks) (greatest_shift js)
greatest-append [] js = omega arith
greatest-append (k ∷ ks) js = omega (arith, greatest-append ks js)

one_back : (k : ℤ) → unsigned_abs (k -ℤ pos 1) ≤ unsigned_abs k + 1
one_back k = omega (arith, ints)

back_near : (ks : List ℤ) → greatest_shift (map (λ k. k -ℤ pos 1) ks) ≤ greatest_shift ks + 1
back_near [] = omega arith
back_near (k ∷ ks) = omega (arith, one_back k, back_near ks)

-- each difference goes one further at most
differenced_near : (d : ℕ) (ks : List ℤ) → greatest_shift (differenced d ks) ≤ greatest_shift ks + d
differenced_near zero ks = omega arith
differenced_near (suc d) ks =
    omega (arith, differenced_near d (ks ++ map (λ k. k -ℤ pos 1) ks), greatest-append ks (map (λ k. k -ℤ pos 1) ks), back_near ks)

-- locals whose shifts are within the limit
abbrev AreNear : ℕ → List (List ℕ × List ℤ) → Type 0
AreNear limit ls = AllByRecursion (λ l. greatest_shift l.1 ≤ limit) ls

own_near : (limit most : ℕ) (counts : Bool) (name : List ℕ) (k : ℤ) (ls : List (List ℕ × List ℤ)) → limit ≤ most → unsigned_abs k ≤ most → AreNear limit ls → greatest_shift (own_shifts ls counts name k) ≤ most
own_near limit most true name k [] low near all = omega (arith, near)
own_near limit most false name k [] low near all = omega arith
own_near limit most counts name k (l ∷ ls) low near all = by (bytes_eq name l.0) (own_near limit most counts name k ls low near all.1)
  where
    by : (b : Bool) → greatest_shift (own_shifts ls counts name k) ≤ most → greatest_shift (cond b l.1 (own_shifts ls counts name k)) ≤ most
    by true h = omega (arith, all.0, low)
    by false h = h

-- a name that is written in range
from_near : (limit : ℕ) (s : Shifts) (r : Reading) → limit ≤ 10 ^ 37 → AreNear limit s.locals → IsWritten r → greatest_shift (shifts_from s r) ≤ 10 ^ 37 + 500
from_near limit s r low near written =
    let own = own_near limit (10 ^ 37) (s.counts r.name.name) r.name.name (shift_of r.shift) s.locals low written.periods near in
    omega (arith, own, differenced_near r.depth (own_shifts s.locals (s.counts r.name.name) r.name.name (shift_of r.shift)), written.depth)

abbrev greatest_in : Option FarName → ℕ
greatest_in None = 0
greatest_in (Some x) = x.greatest

-- the first far name is one of these, and those before it are near
first_near : (limit : ℕ) (s : Shifts) (rs : List Reading) (x : FarName) → limit ≤ 10 ^ 37 → AreNear limit s.locals → AllByRecursion IsWritten rs → first_far limit s rs ≡ Some x → x.greatest ≤ 10 ^ 37 + 500
first_near limit s [] x low near all found = absurd cc
first_near limit s (r ∷ rs) x low near all found = by (nat_le (greatest_shift (shifts_from s r)) limit) (first_near limit s rs x low near all.1) found
  where
    by : (b : Bool) → (first_far limit s rs ≡ Some x → x.greatest ≤ 10 ^ 37 + 500) → cond b (first_far limit s rs) (Some (record { name = r.name; greatest = greatest_shift (shifts_from s r) })) ≡ Some x → x.greatest ≤ 10 ^ 37 + 500
    by true further h = further h
    by false further h =
        let e : x.greatest ≡ greatest_shift (shifts_from s r) = sym (ap greatest_in h) in
        omega (arith, e, from_near limit s r low near all.0)

none_near : (limit : ℕ) (s : Shifts) (rs : List Reading) → first_far limit s rs ≡ None → greatest_shift (flat_map (shifts_from s) rs) ≤ limit
none_near limit s [] none = omega arith
none_near limit s (r ∷ rs) none = by (nat_le (greatest_shift (shifts_from s r)) limit) refl (none_near limit s rs) none
  where
    by : (b : Bool) → nat_le (greatest_shift (shifts_from s r)) limit ≡ b → (first_far limit s rs ≡ None → greatest_shift (flat_map (shifts_from s) rs) ≤ limit) → cond b (first_far limit s rs) (Some (record { name = r.name; greatest = greatest_shift (shifts_from s r) })) ≡ None → greatest_shift (flat_map (shifts_from s) (r ∷ rs)) ≤ limit
    by true e further h =
        let low : greatest_shift (shifts_from s r) ≤ limit = grind (arith, nat_tests) in
        omega (arith, low, further h, greatest-append (shifts_from s r) (flat_map (shifts_from s) rs))
    by false e further h = absurd cc

item_near : (limit : ℕ) (s : Shifts) (x : Item) → AreNear limit s.locals → first_far limit s (item_readings x) ≡ None → AreNear limit (with_item s x).locals
item_near limit s (Local name value) near none = (none_near limit s (readings 0 value) none, near)
item_near limit s (Equates equation) near none = near

all_first : (rs qs : List Reading) → AllByRecursion IsWritten (rs ++ qs) → AllByRecursion IsWritten rs
all_first [] qs all = tt
all_first (r ∷ rs) qs all = (all.0, all_first rs qs all.1)

all_rest : (rs qs : List Reading) → AllByRecursion IsWritten (rs ++ qs) → AllByRecursion IsWritten qs
all_rest [] qs all = all
all_rest (r ∷ rs) qs all = all_rest rs qs all.1

pub far_near : (limit : ℕ) (s : Shifts) (items : List Item) (x : FarName) → limit ≤ 10 ^ 37 → AreNear limit s.locals → AreWritten items → far_name limit s items ≡ Some x → x.greatest ≤ 10 ^ 37 + 500
far_near limit s [] x low near all found = absurd cc
far_near limit s (y ∷ items) x low near all found =
    by (first_far limit s (item_readings y)) refl (λ none. far_near limit (with_item s y) items x low (item_near limit s y near none) (all_rest (item_readings y) (flat_map item_readings items) all)) found
  where
    by : (o : Option FarName) → first_far limit s (item_readings y) ≡ o → (first_far limit s (item_readings y) ≡ None → far_name limit (with_item s y) items ≡ Some x → x.greatest ≤ 10 ^ 37 + 500) → option_or o (far_name limit (with_item s y) items) ≡ Some x → x.greatest ≤ 10 ^ 37 + 500
    by None is further h = further is h
    by (Some z) is further h = first_near limit s (item_readings y) x low near (all_first (item_readings y) (flat_map item_readings items) all) (is ∙ h)
