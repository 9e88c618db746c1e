-- What clap makes of a job, a file and definitions.
use Rattle.std.proofs.Common.{◌≡◌, ◌∙◌, ◌≤◌, ℕ, Bool, true, false, refl, sym, ap, ap₂, arith, List, [], ◌∷◌, ◌++◌, fold, length, append_assoc, append-nil, true≢false, Some, None, codes}
use Rattle.std.specs.Prelude.{◌==◌, ◌&&◌, ◌||◌, unwrap_or, nat_le, is_some}
use Rattle.std.specs.List.{list_all, list_any}
use Rattle.std.specs.Str.{bytes_eq}
use Rattle.clap.specs.Lexer.{long_of, short_of, usize_max}
use Rattle.clap.specs.Walk.{Row, Text, Waiting, Walk, all_of, finished, first_of, idle, nothing_held, positional, walk, walk_from, walked}
use Rattle.clap.specs.Simple.{App, Shape, built, entered, filled, matches_of}
use Rattle.clap.specs.Takes.{takes, walk_passes, values_pass, turn_passes, default_passes, entered_passes, is_valid, settle_passes}
use Rattle.clap.specs.Words.{found_of, rows_of}
use Rattle.clap.proofs.WalkLemmas.{first_value-rows, raw_values-rows}
use Rattle.clap.specs.declared.parser.matches.ArgMatches.{ArgMatches}
use Rattle.clap.specs.declared.parser.matches.ValueSource.TheVariants.{CommandLine}
use Rattle.clap.specs.declared.builder.value_parser.Reading.TheVariants.{AsWritten}
use Rattle.mp_words.specs.Command.{any_number, command_app, words_in}

-- a '-' stands at the front
abbrev pub has_dash : Text → Bool
has_dash [] = false
has_dash (b ∷ bs) = b == 45

neither : (a b : Bool) → (a || b) ≡ false → (a ≡ false) × (b ≡ false)
neither false b h = (refl, h)
neither true b h = absurd (true≢false h)

-- ---- a word without a '-' at its front is no flag

no_end : (word : Text) → has_dash word ≡ false → bytes_eq word (45 ∷ 45 ∷ []) ≡ false
no_end [] h = refl
no_end (b ∷ bs) h = rw h refl

no_long : (word : Text) → has_dash word ≡ false → long_of word ≡ None
no_long [] h = refl
no_long (b ∷ bs) h = rw h refl

no_short : (word : Text) → has_dash word ≡ false → short_of word ≡ None
no_short [] h = refl
no_short (b ∷ bs) h = rw h refl

-- ---- the command as it is built, and the places of the walk

abbrev top : Shape
top = (built command_app).top

-- what stands for a word
abbrev row : Text → List Text → Row
row id values = record { id = id; values = values; count = None; source = Some CommandLine; reading = AsWritten }

-- between two words: what was read, and the values that are being read
abbrev between : List Row → Text → List Text → Waiting → ℕ → Walk
between rows id values waiting position = record {
  held = record { rows = rows; pending = Some (id, values); skip = 0 };
  waiting = waiting;
  position = position;
  is_trailing = false;
  stopped = None;
}

abbrev start : Walk
start = walk_from nothing_held

abbrev after_job : Text → Walk
after_job job = between [] (codes "job") (job ∷ []) idle 2

abbrev after_file : Text → Text → Walk
after_file job file = between (row (codes "job") (job ∷ []) ∷ []) (codes "file") (file ∷ []) idle 3

abbrev after_defines : Text → Text → List Text → Walk
after_defines job file ds = between (row (codes "job") (job ∷ []) ∷ row (codes "file") (file ∷ []) ∷ []) (codes "defines") ds positional 3

walked-job : (job : Text) → has_dash job ≡ false → walked top.rules [] start job ≡ after_job job
unfolding walked
walked-job job plain = rw (no_end job plain, no_long job plain, no_short job plain) refl

walked-file : (job file : Text) → has_dash file ≡ false → walked top.rules [] (after_job job) file ≡ after_file job file
unfolding walked
walked-file job file plain = rw (no_end file plain, no_long file plain, no_short file plain) refl

walked-define : (job file d : Text) → has_dash d ≡ false → walked top.rules [] (after_file job file) d ≡ after_defines job file (d ∷ [])
unfolding walked
walked-define job file d plain = rw (no_end d plain, no_long d plain, no_short d plain) refl

walked-more : (job file : Text) (ds : List Text) (d : Text) → has_dash d ≡ false → walked top.rules [] (after_defines job file ds) d ≡ after_defines job file (ds ++ d ∷ [])
unfolding walked
walked-more job file ds d plain = rw (no_end d plain, no_long d plain, no_short d plain) refl

walked-defines : (job file : Text) (ds more : List Text) → list_any has_dash more ≡ false → fold (walked top.rules []) (after_defines job file ds) more ≡ after_defines job file (ds ++ more)
walked-defines job file ds [] plain = ap (after_defines job file) (sym (append-nil ds))
walked-defines job file ds (d ∷ more) plain =
    let parts = neither (has_dash d) (list_any has_dash more) plain in
    ap (λ w. fold (walked top.rules []) w more) (walked-more job file ds d parts.0) ∙ walked-defines job file (ds ++ d ∷ []) more parts.1
    ∙ ap (after_defines job file) (append_assoc ds (d ∷ []) more)

-- ---- each word passes

job_passes : (job : Text) → has_dash job ≡ false → turn_passes top [] start job ≡ true
job_passes job plain = rw (no_end job plain, no_long job plain, no_short job plain) refl

file_passes : (job file : Text) → has_dash file ≡ false → turn_passes top [] (after_job job) file ≡ true
file_passes job file plain = rw (no_end file plain, no_long file plain, no_short file plain) refl

define_passes : (job file d : Text) → has_dash d ≡ false → turn_passes top [] (after_file job file) d ≡ true
define_passes job file d plain = rw (no_end d plain, no_long d plain, no_short d plain) refl

more_passes : (job file : Text) (ds : List Text) (d : Text) → has_dash d ≡ false → turn_passes top [] (after_defines job file ds) d ≡ true
more_passes job file ds d plain = rw (no_end d plain, no_long d plain, no_short d plain) refl

walk_passes-more : (job file : Text) (ds more : List Text) → list_any has_dash more ≡ false → walk_passes top [] (after_defines job file ds) more ≡ true
unfolding walk_passes
walk_passes-more job file ds [] plain = refl
walk_passes-more job file ds (d ∷ more) plain =
    let parts = neither (has_dash d) (list_any has_dash more) plain in
    ap₂ (λ a w. a && walk_passes top [] w more) (more_passes job file ds d parts.0) (walked-more job file ds d parts.0) ∙ walk_passes-more job file (ds ++ d ∷ []) more parts.1

-- ---- the whole walk

walk-alone : (job file : Text) → has_dash job ≡ false → has_dash file ≡ false → walk top.rules [] nothing_held (job ∷ file ∷ []) ≡ after_file job file
walk-alone job file j f = ap (λ w. walked top.rules [] w file) (walked-job job j) ∙ walked-file job file f

walk-defines : (job file d : Text) (more : List Text) → has_dash job ≡ false → has_dash file ≡ false → list_any has_dash (d ∷ more) ≡ false
    → walk top.rules [] nothing_held (job ∷ file ∷ d ∷ more) ≡ after_defines job file (d ∷ more)
walk-defines job file d more j f plain =
    let parts = neither (has_dash d) (list_any has_dash more) plain in
    ap (λ w. fold (walked top.rules []) (walked top.rules [] w d) more) (walk-alone job file j f) ∙ ap (λ w. fold (walked top.rules []) w more) (walked-define job file d parts.0)
    ∙ walked-defines job file (d ∷ []) more parts.1

walk_passes-alone : (job file : Text) → has_dash job ≡ false → has_dash file ≡ false → walk_passes top [] start (job ∷ file ∷ []) ≡ true
unfolding walk_passes
walk_passes-alone job file j f =
    ap₂ (λ a w. a && (turn_passes top [] w file && true)) (job_passes job j) (walked-job job j) ∙ ap (λ a. a && true) (file_passes job file f)

walk_passes-defines : (job file d : Text) (more : List Text) → has_dash job ≡ false → has_dash file ≡ false → list_any has_dash (d ∷ more) ≡ false
    → walk_passes top [] start (job ∷ file ∷ d ∷ more) ≡ true
unfolding walk_passes
walk_passes-defines job file d more j f plain =
    let parts = neither (has_dash d) (list_any has_dash more) plain in
    ap₂ (λ a w. a && walk_passes top [] w (file ∷ d ∷ more)) (job_passes job j) (walked-job job j)
    ∙ ap₂ (λ a w. a && walk_passes top [] w (d ∷ more)) (file_passes job file f) (walked-file job file f)
    ∙ ap₂ (λ a w. a && walk_passes top [] w more) (define_passes job file d parts.0) (walked-define job file d parts.0) ∙ walk_passes-more job file (d ∷ []) more parts.1

-- a job, a file and at most 1,000 definitions, none with a '-' at its front
abbrev pub AreTaken : List Text → Type 0
AreTaken (job ∷ file ∷ ds) = (has_dash job ≡ false) × (has_dash file ≡ false) × (list_any has_dash ds ≡ false) × (length ds ≤ 1000)
AreTaken _ = ⊥

-- the words that rows hold
abbrev pub held : List Row → List Text
held rows = unwrap_or (first_of (codes "job") rows) [] ∷ unwrap_or (first_of (codes "file") rows) [] ∷ unwrap_or (all_of (codes "defines") rows) []

-- the getters read the rows
pub held-rows : (m : ArgMatches) → words_in m ≡ held (rows_of (found_of m))
held-rows m =
    let found = found_of m in
    λ i. unwrap_or (first_value-rows found (codes "job") i) [] ∷ unwrap_or (first_value-rows found (codes "file") i) [] ∷ unwrap_or (raw_values-rows found (codes "defines") i) []

-- the matches hold the words
pub held-all : (words : List Text) → AreTaken words → held (matches_of command_app words) ≡ words
held-all [] h = absurd h
held-all (job ∷ []) h = absurd h
held-all (job ∷ file ∷ []) h = ap (λ (w : Walk). held (finished top.rules w.held)) (walk-alone job file h.0 h.1)
held-all (job ∷ file ∷ d ∷ more) h = ap (λ (w : Walk). held (finished top.rules w.held)) (walk-defines job file d more h.0 h.1 h.2)

-- any text is a value of a definition
values_pass-any : (ds : List Text) → values_pass (filled (any_number (codes "defines"))) ds ≡ true
values_pass-any [] = refl
values_pass-any (d ∷ ds) = values_pass-any ds

abbrev command : App
command = built command_app

-- the end of the parse passes, where each word did
abbrev ends_well : Walk → Bool → Bool
ends_well w passed =
    let entered_sub = is_some (entered command w.stopped) in
    entered_passes command w.stopped
    && (passed && (settle_passes top.rules false w.held && (list_all default_passes top.rules && is_valid top (finished top.rules w.held) entered_sub)))

-- the parse fails for want of memory alone
pub takes-all : (words : List Text) → AreTaken words → takes command_app words ≡ true
takes-all [] h = absurd h
takes-all (job ∷ []) h = absurd h
takes-all (job ∷ file ∷ []) h = ap₂ ends_well (walk-alone job file h.0 h.1) (walk_passes-alone job file h.0 h.1)
takes-all (job ∷ file ∷ d ∷ more) h =
    let some : nat_le 0 (length (d ∷ more)) ≡ true = grind arith in
    let few : nat_le (length (d ∷ more)) usize_max ≡ true = grind (arith, h.3) in
    ap₂ ends_well (walk-defines job file d more h.0 h.1 h.2) (walk_passes-defines job file d more h.0 h.1 h.2) ∙ rw (some, few, values_pass-any (d ∷ more)) refl
