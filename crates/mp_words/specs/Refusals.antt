-- Where words are refused, as a relation.
use Rattle.std.specs.Prelude.{◌≡◌, ℕ, suc, ◌<◌, List, ◌++◌, length, take, Ok}
use Rattle.mp_words.specs.Words.{Request, request_of}

-- words with which a list begins that is read
abbrev pub Begins : List (List ℕ) → Type 0
Begins words = (more : List (List ℕ)) × (r : Request) × (request_of (words ++ more) ≡ Ok r)

-- the words before the one with this number, from 1, begin a list that is read, and with that word no such list begins
pub record IsWrong (words : List (List ℕ)) (word : ℕ) : Type 0 where
  pub before : ℕ
  pub number : word ≡ suc before
  pub within : before < length words
  pub goes_on : Begins (take before words)
  pub stops : ¬ Begins (take (suc before) words)

-- all words begin a list that is read, in which a word with this number follows them
pub record IsMissing (words : List (List ℕ)) (word : ℕ) : Type 0 where
  pub number : word ≡ suc (length words)
  pub goes_on : Begins words
