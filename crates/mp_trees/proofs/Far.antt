-- Where no name is shifted too far, differences can be taken.
use Rattle.std.proofs.Common.{◌≡◌, ◌⊎◌, ◌≤◌, ℕ, zero, suc, ℤ, pos, negsuc, ◌-ℤ◌, ◌≤ℤ◌, nat_le, List, [], ◌∷◌, ◌++◌, map, Bool, true, false, cond, Option, Some, None, option_map, Ok, Err, refl, sym, ap, subst, ◌∙◌, inl, inr, arith}
use Rattle.std.specs.Prelude.{unsigned_abs, is_some, ◌||◌}
use Rattle.std.specs.Option.{option_or}
use Rattle.std.specs.List.{flat_map, Contains}
use Rattle.std.specs.Str.{bytes_eq}
use Rattle.std.proofs.lemmas.Bool.{leb-true}
use Rattle.std.proofs.lemmas.List.Elements.{Contains-append_left, Contains-append_right}
use Rattle.mp_tokens.specs.Literals.{decimal_of}
use Rattle.mp_syntax.specs.declared.operator.Sign.{Sign}
use Rattle.mp_syntax.specs.declared.operator.Sign.TheVariants as sign
use Rattle.mp_syntax.specs.Syntax.{Named, Shift, Expr, Number, Variable, Signed, Binary, Power, Paren, Call, Diff, Pick}
use Rattle.mp_statements.specs.Statements.{Item, Local, Equates}
use Rattle.mp_statements.specs.Sides.{right_side}
use Rattle.mp_semantics.specs.Term.{Leaf, number, steady_state, variable, endogenous, exogenous, parameter, Term, leaf, negative, binary, power_of, pick}
use Rattle.mp_semantics.specs.Shifted.{with_leaves, earlier_leaf, difference}
use Rattle.mp_values.specs.Names.{Names, place_of, named_term, is_variable, shift_of}
use Rattle.mp_values.specs.Limits.{Folded, ◌>>=◌, known, limited, near_shift, far_refused, binary_of}
use Rattle.mp_values.specs.ModelOf.{Locals, local_in, meaning_of, number_by, signed_term, binary_called}
use Rattle.mp_values.specs.From.{Taken, term_from, first_of, rest_of}
use Rattle.mp_values.specs.Shifts.{Reading, readings, Shifts, own_shifts, differenced, shifts_from, greatest_shift, FarName, first_far, far_name, no_locals}
use Rattle.mp_trees.specs.Earlier.{AllLeaves, IsNearLeaf, HasDifferences, ItemsHaveDifferences}

-- ---- shifts, each and those before it
-- so many periods back
back : ℕ → ℤ → ℤ
back zero k = k
back (suc i) k = back i (k -ℤ pos 1)

near_of : (ks : List ℤ) (k : ℤ) → Contains ks k → unsigned_abs k ≤ greatest_shift ks
near_of [] k h = absurd (omega (arith, h.1))
near_of (j ∷ ks) k (zero, l, e) = omega (arith, ap unsigned_abs e)
near_of (j ∷ ks) k (suc i, l, e) = let r = near_of ks k (i, omega arith, e) in omega (arith, r)

here_in : (k : ℤ) (ks : List ℤ) → Contains (k ∷ ks) k
here_in k ks = (0, omega arith, refl)

further_in : (j : ℤ) (ks : List ℤ) (k : ℤ) → Contains ks k → Contains (j ∷ ks) k
further_in j ks k h = Contains-append_right (j ∷ []) ks k h

backs_in : (ks : List ℤ) (k : ℤ) → Contains ks k → Contains (map (λ j. j -ℤ pos 1) ks) (k -ℤ pos 1)
backs_in [] k h = absurd (omega (arith, h.1))
backs_in (j ∷ ks) k (zero, l, e) = subst (λ (i : ℤ). Contains (map (λ j. j -ℤ pos 1) (j ∷ ks)) (i -ℤ pos 1)) e (here_in (j -ℤ pos 1) (map (λ j. j -ℤ pos 1) ks))
backs_in (j ∷ ks) k (suc i, l, e) = further_in (j -ℤ pos 1) (map (λ j. j -ℤ pos 1) ks) (k -ℤ pos 1) (backs_in ks k (i, omega arith, e))

differenced_has : (d : ℕ) (ks : List ℤ) (k : ℤ) (i : ℕ) → Contains ks k → i ≤ d → Contains (differenced d ks) (back i k)
unfolding back
differenced_has zero ks k zero h l = h
differenced_has zero ks k (suc i) h l = absurd (omega arith)
differenced_has (suc d) ks k zero h l = differenced_has d (ks ++ map (λ j. j -ℤ pos 1) ks) k zero (Contains-append_left ks (map (λ j. j -ℤ pos 1) ks) k h) (omega arith)
differenced_has (suc d) ks k (suc i) h l =
    differenced_has d (ks ++ map (λ j. j -ℤ pos 1) ks) (k -ℤ pos 1) i (Contains-append_right ks (map (λ j. j -ℤ pos 1) ks) (k -ℤ pos 1) (backs_in ks k h)) (omega arith)

-- ---- shifts that come from names
IsFrom : Shifts → List Reading → ℤ → Type 0
IsFrom known [] k = ⊥
IsFrom known (r ∷ rs) k = Contains (shifts_from known r) k ⊎ IsFrom known rs k

from_left : (known : Shifts) (rs ss : List Reading) (k : ℤ) → IsFrom known rs k → IsFrom known (rs ++ ss) k
unfolding IsFrom
from_left known [] ss k h = absurd h
from_left known (r ∷ rs) ss k (inl h) = inl h
from_left known (r ∷ rs) ss k (inr h) = inr (from_left known rs ss k h)

from_right : (known : Shifts) (rs ss : List Reading) (k : ℤ) → IsFrom known ss k → IsFrom known (rs ++ ss) k
unfolding IsFrom
from_right known [] ss k h = h
from_right known (r ∷ rs) ss k h = inr (from_right known rs ss k h)

from_flat : (known : Shifts) (rs : List Reading) (k : ℤ) → IsFrom known rs k → Contains (flat_map (shifts_from known) rs) k
unfolding IsFrom
from_flat known [] k h = absurd h
from_flat known (r ∷ rs) k (inl h) = Contains-append_left (shifts_from known r) (flat_map (shifts_from known) rs) k h
from_flat known (r ∷ rs) k (inr h) = Contains-append_right (shifts_from known r) (flat_map (shifts_from known) rs) k (from_flat known rs k h)

-- what is known of the first of names that are not far, and of the others
record Nears (known : Shifts) (r : Reading) (rs : List Reading) : Type 0 where
  first : greatest_shift (shifts_from known r) ≤ 24
  others : first_far 24 known rs ≡ None

nears : (known : Shifts) (r : Reading) (rs : List Reading) → first_far 24 known (r ∷ rs) ≡ None → Nears known r rs
nears known r rs h = by (nat_le (greatest_shift (shifts_from known r)) 24) refl h
  where
    by : (b : Bool) → nat_le (greatest_shift (shifts_from known r)) 24 ≡ b → cond b (first_far 24 known rs) (Some (record { name = r.name; greatest = greatest_shift (shifts_from known r) })) ≡ None → Nears known r rs
    by true e h = record { first = leb-true (greatest_shift (shifts_from known r)) 24 e; others = h }
    by false e h = absurd (let z : ⊥ = cc in z)

all_near : (known : Shifts) (rs : List Reading) (k : ℤ) → first_far 24 known rs ≡ None → IsFrom known rs k → unsigned_abs k ≤ 24
unfolding IsFrom
all_near known [] k h from = absurd from
all_near known (r ∷ rs) k h (inl from) = let n = nears known r rs h in omega (arith, n.first, near_of (shifts_from known r) k from)
all_near known (r ∷ rs) k h (inr from) = all_near known rs k (nears known r rs h).others from

near_left : (known : Shifts) (rs ss : List Reading) → first_far 24 known (rs ++ ss) ≡ None → first_far 24 known rs ≡ None
near_left known [] ss h = refl
near_left known (r ∷ rs) ss h =
    let n = nears known r (rs ++ ss) h in
    by (nat_le (greatest_shift (shifts_from known r)) 24) refl (near_left known rs ss n.others) h
  where
    by : (b : Bool) → nat_le (greatest_shift (shifts_from known r)) 24 ≡ b → first_far 24 known rs ≡ None
        → cond b (first_far 24 known (rs ++ ss)) (Some (record { name = r.name; greatest = greatest_shift (shifts_from known r) })) ≡ None
        → cond b (first_far 24 known rs) (Some (record { name = r.name; greatest = greatest_shift (shifts_from known r) })) ≡ None
    by true e rest h = rest
    by false e rest h = absurd (let z : ⊥ = cc in z)

near_right : (known : Shifts) (rs ss : List Reading) → first_far 24 known (rs ++ ss) ≡ None → first_far 24 known ss ≡ None
near_right known [] ss h = h
near_right known (r ∷ rs) ss h = near_right known rs ss (nears known r (rs ++ ss) h).others

-- ---- what the leaves of expressions have
all_leaves : (P Q : Leaf → Type 0) → ((l : Leaf) → P l → Q l) → (t : Term) → AllLeaves P t → AllLeaves Q t
all_leaves P Q by (leaf l) h = by l h
all_leaves P Q by (negative a) h = all_leaves P Q by a h
all_leaves P Q by (binary o a b) h = (all_leaves P Q by a h.0, all_leaves P Q by b h.1)
all_leaves P Q by (power_of a k) h = all_leaves P Q by a h
all_leaves P Q by (pick a b c d) h = ((all_leaves P Q by a h.0.0, all_leaves P Q by b h.0.1), (all_leaves P Q by c h.1.0, all_leaves P Q by d h.1.1))

other_leaves : (P Q : Leaf → Type 0) (f : Leaf → Leaf) → ((l : Leaf) → P l → Q (f l)) → (t : Term) → AllLeaves P t → AllLeaves Q (with_leaves f t)
other_leaves P Q f by (leaf l) h = by l h
other_leaves P Q f by (negative a) h = other_leaves P Q f by a h
other_leaves P Q f by (binary o a b) h = (other_leaves P Q f by a h.0, other_leaves P Q f by b h.1)
other_leaves P Q f by (power_of a k) h = other_leaves P Q f by a h
other_leaves P Q f by (pick a b c d) h = ((other_leaves P Q f by a h.0.0, other_leaves P Q f by b h.0.1), (other_leaves P Q f by c h.1.0, other_leaves P Q f by d h.1.1))

-- a variable has one of these shifts
HasShift : List ℤ → Leaf → Type 0
HasShift ks (variable x k) = Contains ks k
HasShift ks _ = Unit {0}

-- the shift of a variable comes from these names, and so do as many before it
Reaches : Shifts → List Reading → ℕ → Leaf → Type 0
Reaches known rs d (variable x k) = (i : ℕ) → i ≤ d → IsFrom known rs (back i k)
Reaches known rs d _ = Unit {0}

reaches_by : (known : Shifts) (rs ss : List Reading) (d : ℕ) → ((k : ℤ) → IsFrom known rs k → IsFrom known ss k) → (l : Leaf) → Reaches known rs d l → Reaches known ss d l
unfolding Reaches
reaches_by known rs ss d by (variable x k) h = λ i l. by (back i k) (h i l)
reaches_by known rs ss d by (number m s) h = tt
reaches_by known rs ss d by (parameter p) h = tt
reaches_by known rs ss d by (steady_state p) h = tt

-- ---- what goes on, and where from
bound : {A B : Type 0} (r : Folded A) (f : A → Folded B) (y : B) → (r >>= f) ≡ Ok y → (x : A) × (r ≡ Ok x) × (f x ≡ Ok y)
bound (Ok x) f y e = (x, refl, e)
bound (Err k) f y e = absurd (let z : ⊥ = cc in z)

known_is : {A : Type 0} (name : List ℕ) (o : Option A) (x : A) → known name o ≡ Ok x → o ≡ Some x
known_is name (Some y) x e = let same : y ≡ x = cc in ap Some same
known_is name None x e = absurd (let z : ⊥ = cc in z)

near_same : (at : ℕ) (k j : ℤ) → near_shift at k ≡ Ok j → k ≡ j
near_same at k j e = by (nat_le (unsigned_abs k) 24) e
  where
    by : (b : Bool) → (let r : Folded ℤ = cond b (Ok k) (Err (far_refused at (unsigned_abs k))) in r ≡ Ok j) → k ≡ j
    by true e = cc
    by false e = absurd (let z : ⊥ = cc in z)

abbrev term_of : Taken Term → Term
term_of (Ok p) = p.0
term_of (Err k) = leaf (number 0 0)

-- a term that is given is this one
module _ (P : Leaf → Type 0) where
  given : (x t : Term) (js is : List ℤ) → (let r : Taken Term = Ok (x, js) in r ≡ Ok (t, is)) → AllLeaves P x → AllLeaves P t
  given x t js is e h = subst (AllLeaves P) (ap term_of e) h

-- ---- locals with the shifts that come from them
AreLinked : List (List ℕ × List ℤ) → Locals → Type 0
AreLinked [] [] = Unit {0}
AreLinked (p ∷ ps) (l ∷ ls) = (p.0 ≡ l.0) × (AllLeaves (HasShift p.1) l.1 × AreLinked ps ls)
AreLinked _ _ = ⊥

local_own : (ps : List (List ℕ × List ℤ)) (ls : Locals) (b : Bool) (n : List ℕ) (k : ℤ) (t : Term) → AreLinked ps ls → local_in ls n ≡ Some t → AllLeaves (HasShift (own_shifts ps b n k)) t
unfolding AreLinked
local_own [] [] b n k t linked e = absurd (let z : ⊥ = cc in z)
local_own [] (l ∷ ls) b n k t linked e = absurd linked
local_own (p ∷ ps) [] b n k t linked e = absurd linked
local_own (p ∷ ps) (l ∷ ls) b n k t (same, (has, linked)) e = by (bytes_eq n l.0) (ap (bytes_eq n) same) e (local_own ps ls b n k t linked)
  where
    by : (c : Bool) → bytes_eq n p.0 ≡ c → cond c (Some l.1) (local_in ls n) ≡ Some t → (local_in ls n ≡ Some t → AllLeaves (HasShift (own_shifts ps b n k)) t) → AllLeaves (HasShift (cond (bytes_eq n p.0) p.1 (own_shifts ps b n k))) t
    by true f e more =
        let is : l.1 ≡ t = cc in
        subst (λ c. AllLeaves (HasShift (cond c p.1 (own_shifts ps b n k))) t) (sym f) (subst (AllLeaves (HasShift p.1)) is has)
    by false f e more = subst (λ c. AllLeaves (HasShift (cond c p.1 (own_shifts ps b n k))) t) (sym f) (more e)

none_own : (ps : List (List ℕ × List ℤ)) (ls : Locals) (b : Bool) (n : List ℕ) (k : ℤ) → AreLinked ps ls → local_in ls n ≡ None → own_shifts ps b n k ≡ own_shifts [] b n k
unfolding AreLinked
none_own [] [] b n k linked e = refl
none_own [] (l ∷ ls) b n k linked e = absurd linked
none_own (p ∷ ps) [] b n k linked e = absurd linked
none_own (p ∷ ps) (l ∷ ls) b n k (same, (has, linked)) e = by (bytes_eq n l.0) (ap (bytes_eq n) same) e (none_own ps ls b n k linked)
  where
    by : (c : Bool) → bytes_eq n p.0 ≡ c → cond c (Some l.1) (local_in ls n) ≡ None → (local_in ls n ≡ None → own_shifts ps b n k ≡ own_shifts [] b n k) → cond (bytes_eq n p.0) p.1 (own_shifts ps b n k) ≡ own_shifts [] b n k
    by true f e more = absurd (let z : ⊥ = cc in z)
    by false f e more = ap (λ c. cond c p.1 (own_shifts ps b n k)) f ∙ more e

-- a declared name is a variable of its shift, or a parameter
named_own : (ns : Names) (n : List ℕ) (k : ℤ) (t : Term) → named_term ns n k ≡ Some t → AllLeaves (HasShift (own_shifts [] (is_variable ns n) n k)) t
unfolding HasShift
named_own ns n k t e = by (place_of ns.endogenous n) (place_of ns.exogenous n) (place_of ns.parameters n) e
  where
    by : (a b c : Option ℕ) → option_or (option_map (λ (p : ℕ). leaf (variable (endogenous p) k)) a) (option_or (option_map (λ (p : ℕ). leaf (variable (exogenous p) k)) b) (option_map (λ (p : ℕ). leaf (parameter p)) c)) ≡ Some t
        → AllLeaves (HasShift (own_shifts [] (is_some a || is_some b) n k)) t
    by (Some p) b c e = let is : leaf (variable (endogenous p) k) ≡ t = cc in subst (AllLeaves (HasShift (k ∷ []))) is (here_in k [])
    by None (Some p) c e = let is : leaf (variable (exogenous p) k) ≡ t = cc in subst (AllLeaves (HasShift (k ∷ []))) is (here_in k [])
    by None None (Some p) e = let is : leaf (parameter p) ≡ t = cc in subst (AllLeaves (HasShift [])) is tt
    by None None None e = absurd (let z : ⊥ = cc in z)

-- ---- expressions of these names and locals
module _ (ns : Names) (ks : List (List ℕ × List ℤ)) (ls : Locals) (linked : AreLinked ks ls) where
  abbrev shifts : Shifts
  shifts = record { counts = is_variable ns; locals = ks }

  abbrev own : List ℕ → ℤ → List ℤ
  own n k = own_shifts ks (is_variable ns n) n k

  meant_own : (n : List ℕ) (k : ℤ) (t : Term) → meaning_of ns ls n k ≡ Some t → AllLeaves (HasShift (own n k)) t
  meant_own n k t e = by (local_in ls n) refl e
    where
      by : (o : Option Term) → local_in ls n ≡ o → option_or o (named_term ns n k) ≡ Some t → AllLeaves (HasShift (own n k)) t
      by (Some u) f e = local_own ks ls (is_variable ns n) n k t linked (f ∙ e)
      by None f e = subst (λ l. AllLeaves (HasShift l) t) (sym (none_own ks ls (is_variable ns n) n k linked f)) (named_own ns n k t e)

  own_reaches : (d : ℕ) (r : Reading) → r.depth ≡ d → (l : Leaf) → HasShift (own r.name.name (shift_of r.shift)) l → Reaches shifts (r ∷ []) d l
  unfolding Reaches HasShift IsFrom
  own_reaches d r e (variable x k) h = λ i l. inl (differenced_has r.depth (own r.name.name (shift_of r.shift)) k i h (omega (arith, l, e)))
  own_reaches d r e (number m s) h = tt
  own_reaches d r e (parameter p) h = tt
  own_reaches d r e (steady_state p) h = tt

  abbrev Reached : ℕ → Expr → Term → Type 0
  Reached d e t = AllLeaves (Reaches shifts (readings d e) d) t

  name_reaches : (d : ℕ) (name : Named) (shift : Option Shift) (js is : List ℤ) (t : Term) → term_from ns ls (Variable name shift) js ≡ Ok (t, is) → Reached d (Variable name shift) t
  unfolding readings
  name_reaches d name shift js is t e =
      let r : Reading = record { name = name; shift = shift; depth = d } in
      let a = bound (limited.shift name.at (shift_of shift)) _ (t, is) e in
      let b = bound (known name.name (meaning_of ns ls name.name a.0)) _ (t, is) a.2 in
      let k = near_same name.at (shift_of shift) a.0 a.1 in
      let m = subst (λ (j : ℤ). meaning_of ns ls name.name j ≡ Some b.0) (sym k) (known_is name.name (meaning_of ns ls name.name a.0) b.0 b.1) in
      given (Reaches shifts (r ∷ []) d) b.0 t js is b.2
      (all_leaves (HasShift (own name.name (shift_of shift))) (Reaches shifts (r ∷ []) d) (own_reaches d r refl) b.0 (meant_own name.name (shift_of shift) b.0 m))

  -- the operands of an operator
  both_reach : (d : ℕ) (a b : Expr) (x y : Term) → Reached d a x → Reached d b y → AllLeaves (Reaches shifts (readings d a ++ readings d b) d) x × AllLeaves (Reaches shifts (readings d a ++ readings d b) d) y
  both_reach d a b x y p q = (
    all_leaves (Reaches shifts (readings d a) d) _ (reaches_by shifts (readings d a) (readings d a ++ readings d b) d (from_left shifts (readings d a) (readings d b))) x p,
    all_leaves (Reaches shifts (readings d b) d) _ (reaches_by shifts (readings d b) (readings d a ++ readings d b) d (from_right shifts (readings d a) (readings d b))) y q,
  )

  sooner : (rs : List Reading) (d : ℕ) (l : Leaf) → Reaches shifts rs (suc d) l → Reaches shifts rs d l
  unfolding Reaches
  sooner rs d (variable x k) h = λ i l. h i (omega (arith, l))
  sooner rs d (number m s) h = tt
  sooner rs d (parameter p) h = tt
  sooner rs d (steady_state p) h = tt

  earlier_reaches : (rs : List Reading) (d : ℕ) (l : Leaf) → Reaches shifts rs (suc d) l → Reaches shifts rs d (earlier_leaf l)
  unfolding Reaches back
  earlier_reaches rs d (variable x k) h = λ i l. h (suc i) (omega (arith, l))
  earlier_reaches rs d (number m s) h = tt
  earlier_reaches rs d (parameter p) h = tt
  earlier_reaches rs d (steady_state p) h = tt

  reached : (d : ℕ) (e : Expr) (js is : List ℤ) (t : Term) → term_from ns ls e js ≡ Ok (t, is) → Reached d e t
  unfolding readings Reaches
  reached d (Number literal at) js is t e =
      let a = bound (limited.literal at (decimal_of literal)) _ (t, is) e in given (Reaches shifts [] d) (number_by a.0) t js is a.2 tt
  reached d (Variable name shift) js is t e = name_reaches d name shift js is t e
  reached d (Signed s a) js is t e =
      let x = bound (term_from ns ls a js) _ (t, is) e in
      given (Reaches shifts (readings d a) d) (signed_term s x.0.0) t x.0.1 is x.2 (by s x.0.0 (reached d a js x.0.1 x.0.0 x.1))
    where
      by : (s : Sign) (x : Term) → Reached d a x → Reached d a (signed_term s x)
      by sign.Plus x h = h
      by sign.Minus x h = h
  reached d (Binary o a at b) js is t e =
      let x = bound (term_from ns ls a js) _ (t, is) e in
      let y = bound (term_from ns ls b x.0.1) _ (t, is) x.2 in
      given (Reaches shifts (readings d a ++ readings d b) d) (binary (binary_of o) x.0.0 y.0.0) t y.0.1 is y.2 (both_reach d a b x.0.0 y.0.0 (reached d a js x.0.1 x.0.0 x.1) (reached d b x.0.1 y.0.1 y.0.0 y.1))
  reached d (Power a at s b) js is t e =
      let x = bound (term_from ns ls a js) _ (t, is) e in
      given (Reaches shifts (readings d a) d) (power_of x.0.0 (first_of x.0.1)) t (rest_of x.0.1) is x.2 (reached d a js x.0.1 x.0.0 x.1)
  reached d (Paren a) js is t e = reached d a js is t e
  reached d (Call f a b) js is t e =
      let x = bound (term_from ns ls a js) _ (t, is) e in
      let y = bound (term_from ns ls b x.0.1) _ (t, is) x.2 in
      given (Reaches shifts (readings d a ++ readings d b) d) (binary (binary_called f) x.0.0 y.0.0) t y.0.1 is y.2 (both_reach d a b x.0.0 y.0.0 (reached d a js x.0.1 x.0.0 x.1) (reached d b x.0.1 y.0.1 y.0.0 y.1))
  reached d (Diff at a) js is t e =
      let x = bound (term_from ns ls a js) _ (t, is) e in
      let h = reached (suc d) a js x.0.1 x.0.0 x.1 in
      given (Reaches shifts (readings (suc d) a) d) (difference x.0.0) t x.0.1 is x.2
      (all_leaves (Reaches shifts (readings (suc d) a) (suc d)) _ (sooner (readings (suc d) a) d) x.0.0 h, other_leaves (Reaches shifts (readings (suc d) a) (suc d)) _ earlier_leaf (earlier_reaches (readings (suc d) a) d) x.0.0 h)
  reached d (Pick a b c f) js is t e = let z : ⊥ = cc in absurd z

  -- ---- names that are not far
  one_back : (k : ℤ) → unsigned_abs (k -ℤ pos 1) ≤ 24 → negsuc 22 ≤ℤ k
  one_back (pos n) h = omega arith
  one_back (negsuc n) h = grind (arith, h)

  near_leaf : (rs : List Reading) (d : ℕ) → first_far 24 shifts rs ≡ None → (l : Leaf) → Reaches shifts rs (suc d) l → IsNearLeaf l
  unfolding Reaches back
  near_leaf rs d near (variable x k) h = one_back k (all_near shifts rs (k -ℤ pos 1) near (h 1 (omega arith)))
  near_leaf rs d near (number m s) h = tt
  near_leaf rs d near (parameter p) h = tt
  near_leaf rs d near (steady_state p) h = tt

  differences : (d : ℕ) (e : Expr) → first_far 24 shifts (readings d e) ≡ None → HasDifferences ns ls e
  unfolding readings
  differences d (Number literal at) near = tt
  differences d (Variable name shift) near = tt
  differences d (Signed s a) near = differences d a near
  differences d (Binary o a at b) near =
      (differences d a (near_left shifts (readings d a) (readings d b) near), differences d b (near_right shifts (readings d a) (readings d b) near))
  differences d (Power a at s b) near = differences d a near
  differences d (Paren a) near = differences d a near
  differences d (Call f a b) near =
      (differences d a (near_left shifts (readings d a) (readings d b) near), differences d b (near_right shifts (readings d a) (readings d b) near))
  differences d (Diff at a) near =
      (differences (suc d) a near, λ js is t e. all_leaves (Reaches shifts (readings (suc d) a) (suc d)) IsNearLeaf (near_leaf (readings (suc d) a) d near) t (reached (suc d) a js is t e))
  differences d (Pick a b c f) near = tt

  -- a local has the shifts that come from its expression
  own_shift : (rs : List Reading) (l : Leaf) → Reaches shifts rs 0 l → HasShift (flat_map (shifts_from shifts) rs) l
  unfolding Reaches HasShift back
  own_shift rs (variable x k) h = from_flat shifts rs k (h 0 (omega arith))
  own_shift rs (number m s) h = tt
  own_shift rs (parameter p) h = tt
  own_shift rs (steady_state p) h = tt

  linked_more : (name : List ℕ) (value : Expr) (js is : List ℤ) (t : Term) → term_from ns ls value js ≡ Ok (t, is) → AreLinked ((name, flat_map (shifts_from shifts) (readings 0 value)) ∷ ks) ((name, t) ∷ ls)
  unfolding AreLinked
  linked_more name value js is t e =
      (refl, (all_leaves (Reaches shifts (readings 0 value) 0) (HasShift (flat_map (shifts_from shifts) (readings 0 value))) (own_shift (readings 0 value)) t (reached 0 value js is t e), linked))

both_none : (a b : Option FarName) → option_or a b ≡ None → (a ≡ None) × (b ≡ None)
both_none None b e = (refl, e)
both_none (Some x) b e = absurd (let z : ⊥ = cc in z)

items_differ : (ns : Names) (ks : List (List ℕ × List ℤ)) (ls : Locals) → AreLinked ks ls → (xs : List Item) → far_name 24 (record { counts = is_variable ns; locals = ks }) xs ≡ None → ItemsHaveDifferences ns ls xs
items_differ ns ks ls linked [] near = tt
items_differ ns ks ls linked (Local name value ∷ xs) near =
    let n = both_none _ _ near in
    (differences ns ks ls linked 0 value n.0, λ js is t e. items_differ ns ((name.name, flat_map (shifts_from (record { counts = is_variable ns; locals = ks })) (readings 0 value)) ∷ ks) ((name.name, t) ∷ ls) (linked_more ns ks ls linked name.name value js is t e) xs n.1)
items_differ ns ks ls linked (Equates x ∷ xs) near =
    let n = both_none _ _ near in
    let known : Shifts = record { counts = is_variable ns; locals = ks } in
    let right = near_right known (readings 0 x.left) _ n.0 in (
      (differences ns ks ls linked 0 x.left (near_left known (readings 0 x.left) _ n.0), differences ns ks ls linked 0 (right_side x.right) (near_left known (readings 0 (right_side x.right)) [] right)),
      items_differ ns ks ls linked xs n.1,
    )

-- where no name is shifted by more than 24 periods
pub not_far : (ns : Names) (xs : List Item) → far_name 24 (no_locals (is_variable ns)) xs ≡ None → ItemsHaveDifferences ns [] xs
unfolding AreLinked
not_far ns xs near = items_differ ns [] [] tt xs near
