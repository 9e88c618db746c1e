-- What is said of a word of the command line.
use Rattle.std.specs.Prelude.{◌≡◌, ℕ, ◌≤◌, List, Result, Ok, Err}
use Rattle.std.specs.Str.{IsUtf8}
use Rattle.mp_base.specs.declared.refusal.Refusal.{Refusal}
use Rattle.mp_base.specs.declared.refusal.Refusal.TheVariants as r
use Rattle.modpath.specs.declared.words.Filled.{Filled}
use Rattle.modpath.specs.declared.words.Filled.TheVariants as f

-- a word is refused with its number exactly where it isn't text; for one that is there may be no memory
abbrev pub RefusesWord : {A : Type 0} → List ℕ → ℕ → Result A Refusal → Type 0
RefusesWord bytes number (Ok x) = IsUtf8 bytes
RefusesWord bytes number (Err (r.Words word)) = (word ≡ number) × ¬ (IsUtf8 bytes)
RefusesWord bytes number (Err r.NoMemory) = IsUtf8 bytes
RefusesWord bytes number (Err _) = ⊥

-- a word's length is within the buffer's
abbrev pub FitsIn : Filled → ℕ → Type 0
FitsIn (f.Word length) room = length ≤ room
FitsIn f.End room = Unit {0}
FitsIn f.NoMemory room = Unit {0}
