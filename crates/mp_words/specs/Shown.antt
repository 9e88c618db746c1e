-- What the words are read as, as the definitions see it.
use Rattle.std.specs.Prelude.{◌≡◌, ℕ, Option, Some, None, Result, Ok, Err}
use Rattle.mp_words.specs.declared.words.Words.{Words}
use Rattle.mp_words.specs.declared.words.WordFault.{WordFault}
use Rattle.mp_words.specs.declared.words.WordFault.TheVariants as f
use Rattle.mp_words.specs.Words.{Request}

abbrev pub request_seen : Words → Request
request_seen w = record {
  job = w.job;
  file = w.file;
  path = w.path;
  seed = w.seed;
  tolerance = w.tolerance;
  pivot = w.pivot;
  steps = w.steps;
  guesses = w.guesses;
  defines = w.defines;
}

-- refused for the same word, unless there was no memory
abbrev pub Refuses : {X : Type 0} → WordFault → Result X ℕ → Type 0
Refuses (f.Refused word) meant = meant ≡ Err word
Refuses f.NoMemory meant = Unit {0}

-- what was read, seen by view, is what is meant, unless there was no memory
abbrev pub Reads : {X Y : Type 0} → (X → Y) → Result X WordFault → Result Y ℕ → Type 0
Reads view (Ok x) meant = meant ≡ Ok (view x)
Reads view (Err e) meant = Refuses e meant

-- the number of the word that was refused
abbrev pub wrong_of : {X : Type 0} → Result X ℕ → Option ℕ
wrong_of (Ok x) = None
wrong_of (Err at) = Some at
