-- What stands at a place of a grid or of its edges.
use Rattle.std.proofs.Common.{◌≡◌, ℕ, ℤ, zero, suc, pos, negsuc, ◌+◌, ◌-◌, ◌*◌, ◌<◌, ◌≤◌, Bool, true, false, cond, List, [], ◌∷◌, length, map, get_or, set, Option, Some, None, refl, ap, sym, ◌∙◌, subst, arith, inl, inr}
use Rattle.std.specs.Prelude.{slice_get, option_map, IsSome, nat_lt}
use Rattle.std.proofs.lemmas.Bool.{cases_Bool}
use Rattle.std.proofs.lemmas.Bool.Decides.{nat_tests}
use Rattle.std.proofs.lemmas.Nat.{same_from_place}
use Rattle.std.proofs.lemmas.Option.{slice_get-map, slice_get-get_or, slice_get_within}
use Rattle.mp_frac.specs.Value.{value_of}
use Rattle.mp_frac.specs.declared.frac.Frac.{Frac}
use Rattle.mp_base.specs.declared.fraction.Ratio.{Ratio}
use Rattle.mp_rational.specs.Fraction.{Fraction}
use Rattle.mp_rational.specs.Lowest.{numerator, denominator}
use Rattle.mp_rational.proofs.Lowest.{ratio_of-parts}
use Rattle.mp_semantics.specs.Term.{Variable, endogenous, exogenous}
use Rattle.mp_semantics.specs.Solves.{is_inside, is_near}
use Rattle.mp_walk.specs.Cells as w
use Rattle.mp_path.specs.Edges.{Edges, edge_of, periods_to}
use Rattle.mp_path.specs.Points.{Points, point_of, units_at, slot_place, ratio_value}

-- a fraction is that of its parts
pub parts_value : (x : Fraction) (r : Ratio) → r.n ≡ numerator x → r.d ≡ pos (denominator x) → ratio_value r ≡ x
parts_value x r hn hd = rw (hn, hd) (ratio_of-parts x)

near_some : (b : Bool) (q : Option Fraction) → IsSome (cond b q None) → cond b q None ≡ q
near_some true q h = refl
near_some false q h = cc

-- where an exogenous variable stands
pub edge_exo : (b : Edges) (v : ℕ) (t : ℤ) → IsSome (edge_of b (exogenous v) t) → edge_of b (exogenous v) t ≡ slice_get b.exogenous (v * (b.periods + 49) + periods_to t)
edge_exo b v t h = near_some (is_near b.periods t) (slice_get b.exogenous (v * (b.periods + 49) + periods_to t)) h

frac_within : (items : List Frac) (p : ℕ) → IsSome (option_map value_of (slice_get items p)) → p < length items
frac_within items p h = by (slice_get items p) refl h
  where
    by : (q : Option Frac) → slice_get items p ≡ q → IsSome (option_map value_of q) → p < length items
    by None e h = cc
    by (Some y) e h = slice_get_within items p y e

-- the fraction at the place of an exogenous variable
pub exo_is : (b : Edges) (v p : ℕ) (t : ℤ) (items : List Frac) (x : Frac) → b.exogenous ≡ map value_of items → p ≡ v * (b.periods + 49) + periods_to t
    → IsSome (edge_of b (exogenous v) t) → x ≡ get_or items p x → edge_of b (exogenous v) t ≡ Some (value_of x)
exo_is b v p t items x hb hp some r =
    let e : edge_of b (exogenous v) t ≡ option_map value_of (slice_get items p) =
    edge_exo b v t some ∙ (ap (λ (i : ℕ). slice_get b.exogenous i) (sym hp) ∙ (ap (λ (xs : List Fraction). slice_get xs p) hb ∙ slice_get-map value_of items p)) in
    let h : p < length items = frac_within items p (subst (λ (q : Option Fraction). IsSome q) e some) in
    e ∙ (ap (λ (q : Option Frac). option_map value_of q) (slice_get-get_or items p x h) ∙ ap (λ (y : Frac). let q : Option Fraction = Some (value_of y) in q) (sym r))

get_other : (xs : List ℤ) (i j : ℕ) (x : ℤ) → (j ≡ i → ⊥) → slice_get (set xs i x) j ≡ slice_get xs j
get_other [] i j x ne = refl
get_other (y ∷ ys) zero zero x ne = absurd (ne refl)
get_other (y ∷ ys) zero (suc j) x ne = refl
get_other (y ∷ ys) (suc i) zero x ne = refl
get_other (y ∷ ys) (suc i) (suc j) x ne = get_other ys i j x (λ e. ne (ap suc e))

inside_from : (T s : ℕ) → is_inside T (pos s) ≡ true → 1 ≤ s
inside_from T zero h = cc
inside_from T (suc s) h = omega arith

-- with a number in slot v of period t
abbrev pub with_units : Points → ℕ → ℤ → Points
with_units g i x = record { edges = g.edges; slots = g.slots; units = set g.units i x }

slot_other : (g : Points) (t v s w : ℕ) (x : ℤ) → 1 ≤ t → 1 ≤ s → v < g.slots → (w ≡ v → s ≡ t → ⊥)
    → units_at (with_units g (slot_place g.slots t v) x) w (pos s) ≡ units_at g w (pos s)
slot_other g t v s w x ht hs hv ne = elim (cases_Bool (nat_lt w g.slots)) [
  | inr e ↦ rw (e) refl
  | inl e ↦
      let l : w < g.slots = grind (arith, nat_tests) in
      rw (e) (get_other g.units (slot_place g.slots t v) (slot_place g.slots s w) x (λ same.
      let p = same_from_place (s - 1) w (t - 1) v g.slots l hv same in
      ne p.1 (omega (arith, p.0))))
]

chosen_same : (b : Bool) (p q r : Option w.Cell) → (b ≡ true → p ≡ q) → cond b p r ≡ cond b q r
chosen_same true p q r h = h refl
chosen_same false p q r h = refl

-- all but the slot that is put stays
pub point_other : (g : Points) (t v : ℕ) (x : ℤ) (y : Variable) (u : ℤ) → 1 ≤ t → v < g.slots → (y ≡ endogenous v → u ≡ pos t → ⊥)
    → point_of (with_units g (slot_place g.slots t v) x) y u ≡ point_of g y u
point_other g t v x (exogenous k) u ht hv ne = refl
point_other g t v x (endogenous k) (pos s) ht hv ne =
    chosen_same (is_inside g.edges.periods (pos s)) _ _ _
    (λ e. ap (λ (q : Option ℤ). option_map w.units q) (slot_other g t v s k x ht (inside_from g.edges.periods s e) hv (λ a b. ne (ap endogenous a) (ap pos b))))
point_other g t v x (endogenous k) (negsuc s) ht hv ne = refl
