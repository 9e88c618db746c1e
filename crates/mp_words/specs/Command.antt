-- The command line as clap reads it: a job, a file and definitions, each by its place.
use Rattle.std.specs.Prelude.{ℕ, List, [], ◌∷◌, codes, true, Some, unwrap_or, option_map}
use Rattle.clap.specs.Lexer.{usize_max}
use Rattle.clap.specs.Simple.{on_top}
use Rattle.clap.specs.Words.{App, Rule, new_app, new_rule, with_rule, found_of, first_value, matched_of, raw_values}
use Rattle.clap.specs.declared.parser.matches.ArgMatches.{ArgMatches}

-- an argument of one word, which has to stand
abbrev pub needed : List ℕ → Rule
needed id = record (new_rule id) { required = true }

-- an argument of any number of words
abbrev pub any_number : List ℕ → Rule
any_number id = record (new_rule id) { range = Some (record { start_inclusive = 0; end_inclusive = usize_max }) }

-- a command without arguments, with no program's name before its words and no help
abbrev pub bare_app : App
bare_app = on_top (λ s. record s { no_binary_name = true; disable_help_flag = true }) (new_app (codes "modpath"))

-- the command: a job, a file and definitions
abbrev pub command_app : App
command_app =
    with_rule (with_rule (with_rule bare_app (needed (codes "job"))) (needed (codes "file"))) (any_number (codes "defines"))

-- the word that matches hold under this name, or an empty one
abbrev pub word_in : ArgMatches → List ℕ → List ℕ
word_in m name = unwrap_or (first_value (found_of m) name) []

-- all words that they hold under this name
abbrev pub all_words_in : ArgMatches → List ℕ → List (List ℕ)
all_words_in m name = unwrap_or (option_map raw_values (matched_of (found_of m) name)) []

-- the words that matches hold: a job, a file and definitions
abbrev pub words_in : ArgMatches → List (List ℕ)
words_in m = word_in m (codes "job") ∷ word_in m (codes "file") ∷ all_words_in m (codes "defines")
