-- A grid for a model stands for the model's environment.
use Rattle.std.proofs.Common.{◌≡◌, ℕ, ℤ, zero, suc, pos, negsuc, ◌+◌, ◌<◌, ◌≤◌, Bool, true, false, cond, Option, Some, None, refl, arith}
use Rattle.std.specs.Prelude.{option_map, unwrap_or, IsSome}
use Rattle.std.proofs.lemmas.Bool.Decides.{nat_tests}
use Rattle.mp_rational.specs.Fraction.{Fraction}
use Rattle.mp_fix.specs.Enclosure.{number_of}
use Rattle.mp_semantics.specs.Term.{Variable, endogenous, exogenous}
use Rattle.mp_semantics.specs.Model.{Model, is_declared}
use Rattle.mp_semantics.specs.Solves.{is_inside, value_at, environment}
use Rattle.mp_walk.specs.Cells.{Cell, units, exact, fraction_of, environment_of}
use Rattle.mp_path.specs.Edges.{edge_of}
use Rattle.mp_path.specs.Points.{Points, point_of, units_at, cells_of}
use Rattle.mp_path.specs.Environments.{IsGridOf, declared_part, path_of}

exact_map : (q : Option Fraction) → option_map fraction_of (option_map exact q) ≡ q
exact_map None = refl
exact_map (Some x) = refl

unit_map : (q : Option ℤ) → IsSome (option_map units q) → option_map fraction_of (option_map units q) ≡ Some (number_of (unwrap_or q (pos 0)))
unit_map None h = cc
unit_map (Some u) h = refl

-- a slot inside the horizon, and the edge outside it
slot_map : (b : Bool) (q : Option ℤ) (r : Option Fraction) → (b ≡ true → IsSome (option_map units q))
    → option_map fraction_of (cond b (option_map units q) (option_map exact r)) ≡ cond b (Some (number_of (unwrap_or q (pos 0)))) r
slot_map true q r h = unit_map q (h refl)
slot_map false q r h = exact_map r

some_inside : (b : Bool) (p q : Option Cell) → b ≡ true → IsSome (cond b p q) → IsSome p
some_inside true p q e h = h
some_inside false p q e h = cc

is_filled : (M : Model) (g : Points) → IsGridOf M g → (v : ℕ) (t : ℤ) → is_declared M (endogenous v) ≡ true → is_inside g.edges.periods t ≡ true → IsSome (option_map units (units_at g v t))
is_filled M g made v (negsuc k) h e = cc
is_filled M g made v (pos zero) h e = cc
is_filled M g made v (pos (suc t)) h e =
    let below : v < g.slots = rw made.slots (grind (arith, nat_tests)) in
    let last : suc t ≤ g.edges.periods = grind (arith, nat_tests) in
    let first : 1 ≤ suc t = omega arith in
    some_inside (is_inside g.edges.periods (pos (suc t))) (option_map units (units_at g v (pos (suc t)))) (option_map exact (edge_of g.edges (endogenous v) (pos (suc t)))) e (made.filled v (suc t) below first last)

point_map : (M : Model) (g : Points) → IsGridOf M g → (x : Variable) (t : ℤ) → is_declared M x ≡ true
    → option_map fraction_of (point_of g x t) ≡ value_at g.edges.periods (edge_of g.edges) (path_of g) x t
point_map M g made (endogenous v) t h =
    slot_map (is_inside g.edges.periods t) (units_at g v t) (edge_of g.edges (endogenous v) t) (is_filled M g made v t h)
point_map M g made (exogenous v) t h = exact_map (edge_of g.edges (exogenous v) t)

declared_same : (b : Bool) (p q : Option Fraction) → (b ≡ true → p ≡ q) → cond b p None ≡ cond b q None
declared_same true p q h = h refl
declared_same false p q h = refl

pub same_environment : (M : Model) (g : Points) → IsGridOf M g
    → declared_part M (environment_of (cells_of g)) ≡ environment M g.edges.periods (edge_of g.edges) (path_of g)
same_environment M g made = λ i. record {
  value = λ x t. declared_same (is_declared M x) (option_map fraction_of (point_of g x t)) (value_at g.edges.periods (edge_of g.edges) (path_of g) x t) (point_map M g made x t) i;
  parameter_value = λ p. made.edges.parameters p i;
  terminal = pos (g.edges.periods + 1);
}
