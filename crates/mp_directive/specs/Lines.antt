-- The lines of a text.
use Rattle.std.specs.Prelude.{ℕ, List, [], ◌∷◌, ◌==◌, if◌then◌else◌}

-- a byte more at the front of the first line
abbrev pub with_first : ℕ → List (List ℕ) → List (List ℕ)
with_first b [] = (b ∷ []) ∷ []
with_first b (l ∷ ls) = (b ∷ l) ∷ ls

-- each line ends at a newline, which is no part of it; what stands after the last newline is a line if it isn't empty
unfoldable pub lines : List ℕ → List (List ℕ)
lines [] = []
lines (b ∷ bs) = if b == 10 then [] ∷ lines bs else with_first b (lines bs)
