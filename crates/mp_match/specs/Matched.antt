-- What a matching comes to.
use Rattle.std.specs.Prelude.{ℕ, List}
use Rattle.mp_pairing.specs.Pairing.{IsLeast, IsShortSet}
use Rattle.mp_match.specs.declared.pairing.Matched.{Matched}
use Rattle.mp_match.specs.declared.pairing.Matched.TheVariants.{Pairs, Short}

-- the least matching, or the short set with exactly its variables
abbrev pub IsMatched : List (List ℕ) → Matched → Type 0
IsMatched rows (Pairs variables) = IsLeast rows variables
IsMatched rows (Short equations variables) = IsShortSet rows equations variables
