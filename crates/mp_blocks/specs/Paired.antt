-- What a model's equations are paired with, and their blocks; answers count equations and variables from 1.
use Rattle.std.specs.Prelude.{◌≡◌, ℕ, suc, List, map}
use Rattle.mp_semantics.specs.Model.{Model}
use Rattle.mp_pairing.specs.Pairing.{IsLeast, IsShortSet}
use Rattle.mp_pairing.specs.Blocks.{IsOrder, ReadsPlaced}
use Rattle.mp_match.specs.declared.pairing.Matched.{Matched}
use Rattle.mp_match.specs.declared.pairing.Matched.TheVariants.{Pairs, Short}
use Rattle.mp_blocks.specs.Rows.{AreRows}

-- the first matching of all equations
pub record IsLeastIn (M : Model) (variables : List ℕ) : Type 0 where
  pub rows : List (List ℕ)
  pub places : List ℕ
  pub are_rows : AreRows M rows
  pub least : IsLeast rows places
  pub counted : variables ≡ map suc places

-- the short set with its variables
pub record IsShortIn (M : Model) (equations variables : List ℕ) : Type 0 where
  pub rows : List (List ℕ)
  pub members : List ℕ
  pub places : List ℕ
  pub are_rows : AreRows M rows
  pub short : IsShortSet rows members places
  pub counted : equations ≡ map suc members
  pub counted_variables : variables ≡ map suc places

abbrev pub IsMatchedIn : Model → Matched → Type 0
IsMatchedIn M (Pairs variables) = IsLeastIn M variables
IsMatchedIn M (Short equations variables) = IsShortIn M equations variables

-- the blocks in order; each reads only variables of this and earlier ones
pub record IsOrderIn (M : Model) (variables : List ℕ) (blocks : List (List ℕ)) : Type 0 where
  pub rows : List (List ℕ)
  pub places : List ℕ
  pub numbered : List (List ℕ)
  pub are_rows : AreRows M rows
  pub counted : variables ≡ map suc places
  pub order : IsOrder rows places numbered
  pub reads : ReadsPlaced rows places numbered
  pub counted_blocks : blocks ≡ map (map suc) numbered
