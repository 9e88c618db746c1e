-- How far each variable is shifted at most, as code holds it.
use Rattle.std.specs.Prelude.{◌≡◌, ℕ, ◌-◌, max, List, [], ◌∷◌, length, slice_index_or}
use Rattle.mp_semantics.specs.Term.{Term, leaf, negative, binary, power_of, pick}
use Rattle.mp_semantics.specs.Model.{Model}
use Rattle.mp_graph.specs.Shared.{term_at}
use Rattle.mp_solutions.specs.Auxiliaries.{Direction, lead, lag, width, leaf_shift, greatest_shift, Lengths}
use Rattle.mp_shift.specs.declared.reach.Reach.{Reach}

abbrev pub no_reach : Reach
no_reach = record { lead = 0; lag = 0 }

abbrev pub reach_of : Reach → Direction → ℕ
reach_of r lead = r.lead
reach_of r lag = r.lag

-- how far the variable at this place is shifted that way
abbrev pub reach_at : List Reach → Direction → ℕ → ℕ
reach_at rs d v = reach_of (slice_index_or rs v no_reach) d

-- each is the greater of what it was and this
pub record RaisedBy (old new : List Reach) (by : Direction → ℕ → ℕ) : Type 0 where
  pub count : length new ≡ length old
  pub each : (d : Direction) (v : ℕ) → reach_at new d v ≡ max (reach_at old d v) (by d v)

-- how far v is shifted in a leaf; in no other node
abbrev pub node_shift : Direction → ℕ → Term → ℕ
node_shift d v (leaf l) = leaf_shift d v l
node_shift d v (negative a) = 0
node_shift d v (binary op a b) = 0
node_shift d v (power_of a k) = 0
node_shift d v (pick a b c e) = 0

-- at most, in the nodes of these numbers
abbrev pub nodes_shift : List Term → Direction → ℕ → List ℕ → ℕ
nodes_shift ts d v [] = 0
nodes_shift ts d v (id ∷ ids) = max (node_shift d v (term_at ts id)) (nodes_shift ts d v ids)

-- they are those of the model
pub record AreReaches (M : Model) (rs : List Reach) : Type 0 where
  pub count : length rs ≡ width M
  pub each : (d : Direction) (v : ℕ) → reach_at rs d v ≡ greatest_shift M d v

-- how many auxiliaries these need
abbrev pub lengths_of : List Reach → Lengths
lengths_of rs d v = reach_at rs d v - 1
