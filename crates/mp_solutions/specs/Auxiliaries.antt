-- Which auxiliaries a model needs, and where they stand.
use Rattle.std.specs.Prelude.{ℕ, ℤ, pos, negsuc, suc, zero, ◌+◌, ◌-◌, ◌<◌, ◌==◌, max, if◌then◌else◌, false, List, [], ◌∷◌, ◌++◌, length, codes, slice_index_or}
use Rattle.std.specs.Fmt.{digits_onto}
use Rattle.mp_semantics.specs.Term.{endogenous, exogenous, Leaf, number, parameter, variable, steady_state, Term, leaf, negative, binary, power_of, pick}
use Rattle.mp_semantics.specs.Model.{Model, Equation}

-- towards later periods, or earlier ones
pub data Direction : Type 0 where
  lead : Direction
  lag : Direction

-- the shift by k periods that way
abbrev pub shift_by : Direction → ℕ → ℤ
shift_by lead k = pos k
shift_by lag zero = pos 0
shift_by lag (suc k) = negsuc k

-- how many periods that way a shift is, and 0 the other way
abbrev pub distance : Direction → ℤ → ℕ
distance lead (pos k) = k
distance lead (negsuc k) = 0
distance lag (pos k) = 0
distance lag (negsuc k) = suc k

-- how many endogenous variables a model has
abbrev pub width : Model → ℕ
width M = length M.endogenous_names

-- ---- the greatest shift of the endogenous variable v that way

-- in a leaf
abbrev pub leaf_shift : Direction → ℕ → Leaf → ℕ
leaf_shift d v (number m s) = 0
leaf_shift d v (parameter p) = 0
leaf_shift d v (variable (endogenous u) k) = if u == v then distance d k else 0
leaf_shift d v (variable (exogenous u) k) = 0
leaf_shift d v (steady_state u) = 0

-- in a term
abbrev pub term_shift : Direction → ℕ → Term → ℕ
term_shift d v (leaf l) = leaf_shift d v l
term_shift d v (negative a) = term_shift d v a
term_shift d v (binary op a b) = max (term_shift d v a) (term_shift d v b)
term_shift d v (power_of a k) = term_shift d v a
term_shift d v (pick a b c e) = max (max (term_shift d v a) (term_shift d v b)) (max (term_shift d v c) (term_shift d v e))

-- in equations
abbrev pub equations_shift : Direction → ℕ → List Equation → ℕ
equations_shift d v [] = 0
equations_shift d v (e ∷ es) = max (max (term_shift d v e.left) (term_shift d v e.right)) (equations_shift d v es)

-- in the model
abbrev pub greatest_shift : Model → Direction → ℕ → ℕ
greatest_shift M d v = equations_shift d v M.equations

-- ---- the auxiliaries

-- it stands for the endogenous variable at this place, index + 1 periods that way
pub record Auxiliary : Type 0 where
  pub place : ℕ
  pub direction : Direction
  pub index : ℕ

-- it stands for its variable at this shift
abbrev pub own_shift : Auxiliary → ℤ
own_shift a = shift_by a.direction (suc a.index)

-- how many auxiliaries a variable has each way
abbrev pub Lengths : Type 0
Lengths = Direction → ℕ → ℕ

-- one less than its greatest shift, and 0 where this is 0
abbrev pub lengths : Model → Lengths
lengths M d v = greatest_shift M d v - 1

-- the nearest n auxiliaries of v that way
abbrev pub chain : ℕ → Direction → ℕ → List Auxiliary
chain v d zero = []
chain v d (suc n) = chain v d n ++ record { place = v; direction = d; index = n } ∷ []

-- those of the first n variables: for each its leads and then its lags
abbrev pub auxiliaries : Lengths → ℕ → List Auxiliary
auxiliaries len zero = []
auxiliaries len (suc v) = auxiliaries len v ++ (chain v lead (len lead v) ++ chain v lag (len lag v))

-- those of all variables of the model
abbrev pub auxiliaries_of : Model → List Auxiliary
auxiliaries_of M = auxiliaries (lengths M) (width M)

-- the variable is declared, and shifted further that way than the auxiliary stands
abbrev pub IsNeeded : Model → Auxiliary → Type 0
IsNeeded M a = (a.place < width M) × (a.index + 1 < greatest_shift M a.direction a.place)

-- ---- their places

-- the place of what stands for v, k periods that way
abbrev pub StandIns : Type 0
StandIns = ℕ → Direction → ℕ → ℕ

-- v itself, or its k-th auxiliary that way, behind n variables
abbrev pub stand_in : Lengths → ℕ → StandIns
stand_in len n v d zero = v
stand_in len n v lead (suc k) = n + (length (auxiliaries len v) + k)
stand_in len n v lag (suc k) = n + (length (auxiliaries len v) + (len lead v + k))

-- behind all variables of the model
abbrev pub stand_in_of : Model → StandIns
stand_in_of M = stand_in (lengths M) (width M)

-- where it stands among the names of the transformed model
abbrev pub own_place : Model → Auxiliary → ℕ
own_place M a = stand_in_of M a.place a.direction (suc a.index)

-- ---- their names

-- the decimal digits of a number of any size
abbrev pub decimal_digits : ℕ → List ℕ
decimal_digits n = digits_onto (suc n) 10 false n []

-- how the name of an auxiliary begins
abbrev pub direction_word : Direction → List ℕ
direction_word lead = codes "AUX_LEAD_"
direction_word lag = codes "AUX_LAG_"

-- `AUX_LEAD_x_2` is x two periods later, where these are the variables' names
abbrev pub auxiliary_name : List (List ℕ) → Auxiliary → List ℕ
auxiliary_name names a = direction_word a.direction ++ (slice_index_or names a.place [] ++ (codes "_" ++ decimal_digits (a.index + 1)))
