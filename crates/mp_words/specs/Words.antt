-- The words of the command line (modpath's own).
use Rattle.std.specs.Prelude.{ℕ, zero, suc, ◌+◌, ◌-◌, ◌^◌, ℤ, pos, neg_ℤ, List, [], ◌∷◌, length, take, drop, codes, Bool, true, false, not, ◌&&◌, ◌||◌, ◌==◌, nat_lt, nat_le, bytes_eq, position, if◌then◌else◌, Option, Some, None, Result, Ok, Err}
use Rattle.std.specs.Char.{is_ascii_digit}
use Rattle.std.specs.List.{list_all, list_any}
use Rattle.mp_base.specs.declared.job.Job.{Job}
use Rattle.mp_base.specs.declared.job.Job.TheVariants as j
use Rattle.mp_tokens.specs.Literals.{number_of}
use Rattle.mp_tokens.specs.Tokens.{is_first, is_word}
use Rattle.mp_tokens.specs.Terminals.{is_reserved}
use Rattle.mp_mvalue.specs.declared.value.Value.{Value, Whole, Truth, Text}
use Rattle.mp_mvalue.specs.declared.defines.Define.{Define}

-- what the words ask for: a job, the name of a file, macro names with values, and settings of numerical work in units of 10^-12
pub record Request : Type 0 where
  pub job : Job
  pub file : List ℕ
  -- the file of the path that is checked
  pub path : Option (List ℕ)
  -- the number from which a sample is made
  pub seed : ℕ
  -- residual bounds above so many units are refused; where there is none, the text's number or its default stands
  pub tolerance : Option ℤ
  -- in elimination a pivot below so many units is refused
  pub pivot : ℤ
  -- so many Newton steps may be taken; where there is none, the text's number or its default stands
  pub steps : Option ℕ
  -- so many guesses of active pairs or regimes may be tried
  pub guesses : ℕ
  pub defines : List Define

-- a file's name has 1 to 128 bytes and no '-' at the front
abbrev pub is_file : List ℕ → Bool
is_file [] = false
is_file (b ∷ bs) = not (b == 45) && nat_lt (length bs) 128

-- a letter or an underscore, then letters, digits and underscores, 128 bytes at most
abbrev pub is_name : List ℕ → Bool
is_name [] = false
is_name (b ∷ bs) = is_first b && list_all is_word bs && nat_lt (length bs) 128

-- a word that a macro expression reads as no name
abbrev pub is_taken : List ℕ → Bool
is_taken name = bytes_eq name (codes "true") || bytes_eq name (codes "false") || bytes_eq name (codes "in")

-- a name that may be defined: neither reserved nor taken
abbrev pub is_definable : List ℕ → Bool
is_definable name = is_name name && not (is_reserved name) && not (is_taken name)

-- a quote or a newline
abbrev pub is_barred : ℕ → Bool
is_barred b = b == 34 || b == 10

-- a value has at most 128 bytes, without a quote and a newline
abbrev pub is_value : List ℕ → Bool
is_value text = nat_le (length text) 128 && not (list_any is_barred text)

-- digits, one at least
abbrev pub are_digits : List ℕ → Bool
are_digits [] = false
are_digits (d ∷ ds) = list_all is_ascii_digit (d ∷ ds)

-- the number that digits write, where it is at most this one
abbrev pub number_within : ℕ → List ℕ → Option ℕ
number_within most ds = if are_digits ds && nat_le (number_of ds) most then Some (number_of ds) else None

-- the value of a text that may be a number: the number with its sign, or else the text
abbrev pub number_or : Option ℕ → (ℕ → ℤ) → List ℕ → Value
number_or None signed text = Text text
number_or (Some n) signed text = Whole (signed n)

-- a whole number of 64 bits, or else a text
abbrev pub number_value : List ℕ → Value
number_value [] = Text []
number_value (b ∷ bs) =
    if b == 45 then number_or (number_within (2 ^ 63) bs) (λ n. neg_ℤ (pos n)) (b ∷ bs) else number_or (number_within (2 ^ 63 - 1) (b ∷ bs)) pos (b ∷ bs)

-- a truth value, a whole number of 64 bits, or else a text
abbrev pub value_of : List ℕ → Value
value_of text =
    if bytes_eq text (codes "true") then Truth true else if bytes_eq text (codes "false") then Truth false else number_value text

abbrev pub is_equals : ℕ → Bool
is_equals b = b == 61

-- the definition that is written with its '=' at this place
abbrev pub define_at : List ℕ → Option ℕ → Option Define
define_at word None = None
define_at word (Some n) =
    if is_definable (take n word) && is_value (drop (n + 1) word) then Some (record { name = take n word; value = value_of (drop (n + 1) word) }) else None

-- a word NAME=VALUE
abbrev pub define_of : List ℕ → Option Define
define_of word = define_at word (position is_equals word)

-- one more in front
abbrev pub with_define : Define → Result (List Define) ℕ → Result (List Define) ℕ
with_define d (Ok ds) = Ok (d ∷ ds)
with_define d (Err at) = Err at

abbrev pub define_or : ℕ → Option Define → Result (List Define) ℕ → Result (List Define) ℕ
define_or at None more = Err at
define_or at (Some d) more = with_define d more

-- the definitions that these words are, the first of which has this number, where so many may stand; or the number of the first wrong word
abbrev pub defines_of : ℕ → ℕ → List (List ℕ) → Result (List Define) ℕ
defines_of at room [] = Ok []
defines_of at zero (w ∷ ws) = Err at
defines_of at (suc room) (w ∷ ws) = define_or at (define_of w) (defines_of (at + 1) room ws)

-- a request in which no word gives a setting
abbrev pub default_request : Job → List ℕ → List Define → Request
default_request job file defines = record {
  job = job;
  file = file;
  path = None;
  seed = 0;
  tolerance = None;
  pivot = pos 1000;
  steps = None;
  guesses = 100;
  defines = defines;
}

-- the job and the file, with these definitions
abbrev pub request : Job → List ℕ → Result (List Define) ℕ → Result Request ℕ
request job file (Ok ds) = Ok (default_request job file ds)
request job file (Err at) = Err at

-- after the job: a file's name and at most 1,000 definitions
abbrev pub file_then : Job → List (List ℕ) → Result Request ℕ
file_then job [] = Err 2
file_then job (w ∷ ws) = if is_file w then request job w (defines_of 3 1000 ws) else Err 2

-- the jobs that words ask for
abbrev pub IsBuilt : Job → Type 0
IsBuilt j.Expand = Unit {0}
IsBuilt j.Transform = Unit {0}
IsBuilt j.Derive = Unit {0}
IsBuilt _ = ⊥

-- the word of a job
abbrev pub job_of : List ℕ → Option Job
job_of word =
    if bytes_eq word (codes "expand") then Some j.Expand else if bytes_eq word (codes "transform") then Some j.Transform else if bytes_eq word (codes "derive") then Some j.Derive else None

abbrev pub job_then : Option Job → List (List ℕ) → Result Request ℕ
job_then None ws = Err 1
job_then (Some job) ws = file_then job ws

-- what the words ask for: ("expand" | "transform" | "derive") FILE {NAME=VALUE}; or the number, from 1, of the first word with which no such list begins
abbrev pub request_of : List (List ℕ) → Result Request ℕ
request_of [] = Err 1
request_of (w ∷ ws) = job_then (job_of w) ws
