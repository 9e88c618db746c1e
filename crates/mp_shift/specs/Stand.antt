-- Where the stand-ins of each variable begin, as code holds it.
use Rattle.std.specs.Prelude.{◌≡◌, ℕ, zero, suc, ◌+◌, ◌<◌, List, length, slice_index_or}
use Rattle.mp_semantics.specs.Term.{Leaf, number, parameter, variable, endogenous, exogenous, steady_state, Term}
use Rattle.mp_semantics.specs.Model.{Model}
use Rattle.mp_solutions.specs.Leaves.{AllLeaves}
use Rattle.mp_solutions.specs.Auxiliaries.{Direction, lead, lag, width, auxiliaries, StandIns, stand_in_of}
use Rattle.mp_shift.specs.declared.reach.Reach.{Reach}
use Rattle.mp_shift.specs.Reach.{lengths_of}
use Rattle.mp_shift.specs.declared.first.First.{First}

abbrev pub no_first : First
no_first = record { lead = 0; lag = 0 }

abbrev pub first_of : First → Direction → ℕ
first_of f lead = f.lead
first_of f lag = f.lag

-- a variable is its own stand-in at 0; the further ones follow the first
abbrev pub stand_by : List First → StandIns
stand_by fs v d zero = v
stand_by fs v d (suc k) = first_of (slice_index_or fs v no_first) d + k

-- they begin at this place for variables that are shifted so far, behind those of the variables before
pub record AreFirstFrom (start : ℕ) (rs : List Reach) (fs : List First) : Type 0 where
  pub count : length fs ≡ length rs
  pub leads : (v : ℕ) → v < length rs → (slice_index_or fs v no_first).lead ≡ start + length (auxiliaries (lengths_of rs) v)
  pub lags : (v : ℕ) → v < length rs → (slice_index_or fs v no_first).lag ≡ start + (length (auxiliaries (lengths_of rs) v) + lengths_of rs lead v)

-- they are those of the model
pub record AreFirst (M : Model) (fs : List First) : Type 0 where
  pub count : length fs ≡ width M
  pub each : (v : ℕ) (d : Direction) (k : ℕ) → v < width M → stand_by fs v d k ≡ stand_in_of M v d k

-- an endogenous variable that the leaf reads at a shift is one of these names
abbrev pub ReadsName : List (List ℕ) → Leaf → Type 0
ReadsName names (number m s) = Unit {0}
ReadsName names (parameter p) = Unit {0}
ReadsName names (variable (endogenous v) k) = v < length names
ReadsName names (variable (exogenous v) k) = Unit {0}
ReadsName names (steady_state v) = Unit {0}

-- so is each that the term reads so
abbrev pub ReadsNames : List (List ℕ) → Term → Type 0
ReadsNames names t = AllLeaves (ReadsName names) t
