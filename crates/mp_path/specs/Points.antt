-- The values of a grid.
use Rattle.std.specs.Prelude.{ℕ, ℤ, pos, negsuc, ◌+◌, ◌-◌, ◌*◌, ◌<◌, ◌≤◌, ◌<ℤ◌, IsSome, List, slice_get, Option, None, option_map, if◌then◌else◌, nat_lt, refl}
use Rattle.std.specs.Coded.{Coded, code_by, coded×, coded_ℕ, coded_ℤ, coded_list}
use Rattle.std.specs.Int.RustNames.{unsigned_abs}
use Rattle.mp_base.specs.declared.fraction.Ratio.{Ratio}
use Rattle.mp_rational.specs.Fraction.{Fraction, ratio_of}
use Rattle.mp_fix.specs.Units.{part_limit}
use Rattle.mp_semantics.specs.Term.{Variable, endogenous, exogenous}
use Rattle.mp_semantics.specs.Solves.{is_inside}
use Rattle.mp_walk.specs.Cells as w
use Rattle.mp_path.specs.Edges.{Edges, edge_of, parameter_of, edges_code}
use Rattle.mp_path.specs.declared.grid.Cell.{Cell}
use Rattle.mp_path.specs.declared.grid.Cell.TheVariants.{Units, Exact}

-- the slots of each period in turn, with the edges beside them
pub record Points : Type 0 where
  pub edges : Edges
  pub slots : ℕ
  pub units : List ℤ

abbrev pub points_code : Coded Points
points_code =
    code_by (Edges × (ℕ × List ℤ)) (coded× edges_code (coded× coded_ℕ (coded_list coded_ℤ)))
    (λ g. (g.edges, (g.slots, g.units))) (λ p. record { edges = p.0; slots = p.1.0; units = p.1.1 }) (λ _. refl)

-- where slot v, from 0, of a period from 1 stands
abbrev pub slot_place : ℕ → ℕ → ℕ → ℕ
slot_place slots t v = (t - 1) * slots + v

-- the units of slot v, from 0, in a period of the horizon
abbrev pub units_at : Points → ℕ → ℤ → Option ℤ
units_at g v (pos t) = if nat_lt v g.slots then (slice_get g.units (slot_place g.slots t v)) else None
units_at g v (negsuc k) = None

-- what stands for a variable in a period: an endogenous one has a slot inside the horizon, and all else is exact
abbrev pub point_of : Points → Variable → ℤ → Option w.Cell
point_of g (endogenous v) t =
    if is_inside g.edges.periods t then (option_map w.units (units_at g v t)) else (option_map w.exact (edge_of g.edges (endogenous v) t))
point_of g (exogenous v) t = option_map w.exact (edge_of g.edges (exogenous v) t)

-- what stands for each slot in each period of the horizon
abbrev pub AllSlots : (Option w.Cell → Type 0) → Points → Type 0
AllSlots P g = (v t : ℕ) → v < g.slots → 1 ≤ t → t ≤ g.edges.periods → P (point_of g (endogenous v) (pos t))

-- each slot has a number in each period
abbrev pub IsFilled : Points → Type 0
IsFilled = AllSlots (λ q. IsSome q)

-- all that a walk can read
abbrev pub cells_of : Points → w.Cells
cells_of g = record { value = point_of g; parameter_value = parameter_of g.edges; terminal = pos (g.edges.periods + 1) }

-- the fraction of these parts
abbrev pub ratio_value : Ratio → Fraction
ratio_value r = ratio_of r.n (unsigned_abs r.d)

-- a positive denominator, and parts within their limit
pub record IsPart (r : Ratio) : Type 0 where
  pub positive : pos 0 <ℤ r.d
  pub numerator : unsigned_abs r.n ≤ part_limit
  pub denominator : unsigned_abs r.d ≤ part_limit

-- the cell of the definitions
abbrev pub cell_of : Cell → w.Cell
cell_of (Units u) = w.units u
cell_of (Exact r) = w.exact (ratio_value r)

abbrev pub IsCell : Cell → Type 0
IsCell (Units u) = Unit {0}
IsCell (Exact r) = IsPart r
