-- What leads to one place by links: a links to b where cell t a b is set.
use Rattle.std.specs.Prelude.{◌≡◌, ◌<◌, ℕ, Bool, true, false, List, length, slice_index, slice_index_or}
use Rattle.mp_pairing.specs.Lists.{Has, IsOnce}
use Rattle.mp_incidence.specs.Tables.{cell}

-- the start, then places that link each to an earlier one, and with each all that link to it
pub record LeadTo (t : List (List Bool)) (start : ℕ) (nodes via : List ℕ) : Type 0 where
  pub some : 0 < length nodes
  pub first : slice_index nodes 0 ≡ start
  pub count : length via ≡ length nodes
  pub within : (j : ℕ) → j < length nodes → slice_index nodes j < length t
  pub once : IsOnce nodes
  pub earlier : (j : ℕ) → 0 < j → j < length nodes → slice_index via j < j
  pub linked : (j : ℕ) → 0 < j → j < length nodes → cell t (slice_index nodes j) (slice_index nodes (slice_index via j)) ≡ true
  pub closed : (a j : ℕ) → a < length t → j < length nodes → cell t a (slice_index nodes j) ≡ true → Has nodes a

-- the same, closed as far as the nodes before `at`, and at this one as far as the places before e
pub record IsSearched (t : List (List Bool)) (start at e : ℕ) (seen : List Bool) (nodes via : List ℕ) : Type 0 where
  pub size : length seen ≡ length t
  pub some : 0 < length nodes
  pub first : slice_index nodes 0 ≡ start
  pub count : length via ≡ length nodes
  pub sound : (a : ℕ) → a < length t → slice_index_or seen a false ≡ true → Has nodes a
  pub within : (j : ℕ) → j < length nodes → slice_index nodes j < length t
  pub marked : (j : ℕ) → j < length nodes → slice_index_or seen (slice_index nodes j) false ≡ true
  pub once : IsOnce nodes
  pub earlier : (j : ℕ) → 0 < j → j < length nodes → slice_index via j < j
  pub linked : (j : ℕ) → 0 < j → j < length nodes → cell t (slice_index nodes j) (slice_index nodes (slice_index via j)) ≡ true
  pub closed : (a j : ℕ) → a < length t → j < at → j < length nodes → cell t a (slice_index nodes j) ≡ true → slice_index_or seen a false ≡ true
  pub turn : (a : ℕ) → a < e → a < length t → at < length nodes → cell t a (slice_index nodes at) ≡ true → slice_index_or seen a false ≡ true
