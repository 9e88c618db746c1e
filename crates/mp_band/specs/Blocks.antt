-- What contracts see of a band: its periods, and the rows of the system that was put, with 0 elsewhere.
use Rattle.std.specs.Prelude.{◌≡◌, ℕ, ℤ, ◌+◌, ◌-◌, ◌*◌, ◌/◌, ◌^◌, ◌<◌, ◌≤◌, max, pos, List, [], replicate, slice_index_or, slice_set}
use Rattle.mp_elim.specs.Elimination.{System, system, row_lists, column_list}
use Rattle.mp_elim.specs.Shape.{IsTridiagonal}
use Rattle.mp_sheet.specs.Layout.{Form}

-- periods of so many rows each; a row has an entry for each column, and a right side
pub record Blocks : Type 0 where
  pub periods : ℕ
  pub size : ℕ
  pub rows : List (List ℤ)
  pub right : List ℤ

-- how many rows and columns there are
abbrev pub count_of : Blocks → ℕ
count_of b = b.periods * b.size

-- 0 everywhere
abbrev pub zeros : ℕ → ℕ → Blocks
zeros t n = record { periods = t; size = n; rows = replicate (t * n) (replicate (t * n) (pos 0)); right = replicate (t * n) (pos 0) }

-- with x in a row and a column, from 1
abbrev pub with_entry : Blocks → ℕ → ℕ → ℤ → Blocks
with_entry b row column x = record {
  periods = b.periods;
  size = b.size;
  rows = slice_set b.rows (row - 1) (slice_set (slice_index_or b.rows (row - 1) []) (column - 1) x);
  right = b.right;
}

-- with x as the right side of a row, from 1
abbrev pub with_right : Blocks → ℕ → ℤ → Blocks
with_right b row x = record { periods = b.periods; size = b.size; rows = b.rows; right = slice_set b.right (row - 1) x }

-- the row and the column, from 1, stand in one period or in neighbouring ones
pub record IsPlace (b : Blocks) (row column : ℕ) : Type 0 where
  pub from : (1 ≤ row) × (1 ≤ column)
  pub within : (row ≤ count_of b) × (column ≤ count_of b)
  pub low : (row - 1) / b.size ≤ (column - 1) / b.size + 1
  pub high : (column - 1) / b.size ≤ (row - 1) / b.size + 1

-- each entry is 0 but those whose row and column stand in one period or in neighbouring ones
abbrev pub IsInShape : Blocks → Type 0
IsInShape b = IsTridiagonal b.size (system b.rows b.right)

-- the band that shows a system
unfoldable pub blocks_of : ℕ → ℕ → System → Blocks
blocks_of t n s = record { periods = t; size = n; rows = row_lists s (t * n); right = column_list s (t * n) }

-- a row keeps four periods, of which one stands before its own
pub record IsBand (periods size : ℕ) (f : Form) : Type 0 where
  pub small : periods * size < 2 ^ 32
  pub block : f.block ≡ max size 1
  pub narrow : size < 2 ^ 32
  pub count : f.count ≡ periods * size
  pub lead : f.lead ≡ f.block
  pub width : f.width ≡ 4 * f.block
