-- Each slot of a grid has a number.
use Rattle.std.proofs.Common.{rules, ◌≡◌, ◌∙◌, ℕ, ℤ, zero, suc, pos, ◌*◌, ◌<◌, ◌≤◌, true, List, length, replicate, get_or, Option, Some, ap, refl, arith}
use Rattle.std.specs.Prelude.{slice_get, nat_lt}
use Rattle.std.proofs.lemmas.Bool.Decides.{nat_tests}
use Rattle.std.proofs.lemmas.List.{length-replicate}
use Rattle.std.proofs.lemmas.Option.{slice_get-get_or}
use Rattle.mp_semantics.specs.Term.{endogenous}
use Rattle.mp_semantics.specs.Solves.{is_inside}
use Rattle.mp_walk.specs.Cells.{Cell, units}
use Rattle.mp_path.specs.Points.{Points, point_of, slot_place, AllSlots, IsFilled}

place_within : (T n t v : ℕ) → 1 ≤ t → t ≤ T → v < n → slot_place n t v < T * n
place_within T n t v h1 h2 hv = search rules

inside_from : (T t : ℕ) → 1 ≤ t → t ≤ T → is_inside T (pos t) ≡ true
inside_from T zero h1 h2 = absurd (omega (arith, h1))
inside_from T (suc s) h1 h2 = grind (arith, nat_tests)

-- what stands for a slot, by its place
slot_is : (g : Points) → length g.units ≡ g.edges.periods * g.slots → (v t : ℕ) → v < g.slots → 1 ≤ t → t ≤ g.edges.periods
    → point_of g (endogenous v) (pos t) ≡ Some (units (get_or g.units (slot_place g.slots t v) (pos 0)))
slot_is g h v t hv h1 h2 =
    let inside : is_inside g.edges.periods (pos t) ≡ true = inside_from g.edges.periods t h1 h2 in
    let below : nat_lt v g.slots ≡ true = grind (arith, nat_tests) in
    let within : slot_place g.slots t v < length g.units = rw h (place_within g.edges.periods g.slots t v h1 h2 hv) in
    let got : slice_get g.units (slot_place g.slots t v) ≡ Some (get_or g.units (slot_place g.slots t v) (pos 0)) = slice_get-get_or g.units (slot_place g.slots t v) (pos 0) within in
    rw (inside, below, got) refl

pub filled_by_length : (g : Points) → length g.units ≡ g.edges.periods * g.slots → IsFilled g
filled_by_length g h v t hv h1 h2 = rw (slot_is g h v t hv h1 h2) refl

zero_at : (n i : ℕ) → get_or (replicate n (pos 0)) i (pos 0) ≡ pos 0
zero_at zero i = refl
zero_at (suc n) zero = refl
zero_at (suc n) (suc i) = zero_at n i

-- all are 0 in a new grid
pub zeros : (g : Points) → g.units ≡ replicate (g.edges.periods * g.slots) (pos 0) → AllSlots (λ q. q ≡ Some (units (pos 0))) g
zeros g h v t hv h1 h2 =
    let long : length g.units ≡ g.edges.periods * g.slots = ap (λ (xs : List ℤ). length xs) h ∙ length-replicate (g.edges.periods * g.slots) (pos 0) in
    let at : get_or g.units (slot_place g.slots t v) (pos 0) ≡ pos 0 =
    ap (λ (xs : List ℤ). get_or xs (slot_place g.slots t v) (pos 0)) h ∙ zero_at (g.edges.periods * g.slots) (slot_place g.slots t v) in
    slot_is g long v t hv h1 h2 ∙ ap (λ (u : ℤ). let q : Option Cell = Some (units u) in q) at
