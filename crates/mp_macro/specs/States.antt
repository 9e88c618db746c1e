-- What one line does.
use Rattle.std.specs.Prelude.{ℕ, ◌+◌, List, [], ◌∷◌, ◌++◌, length, Bool, true, not, ◌&&◌, nat_lt, nat_le, bytes_eq, if◌then◌else◌, Option, Some, None, Result, Ok, Err, is_some, pos}
use Rattle.std.specs.Str.{is_utf8}
use Rattle.mp_base.specs.declared.kinds.MacroKind.{MacroKind}
use Rattle.mp_base.specs.declared.kinds.MacroKind.TheVariants.{BadExpression, WrongKind, UserError, FileName, TurnsLimit, TextLimit}
use Rattle.mp_mvalue.specs.declared.value.Value.{Value, Whole, Text}
use Rattle.mp_mvalue.specs.Values.{printed}
use Rattle.mp_mvalue.specs.Environments.{Names}
use Rattle.mp_mvalue.specs.Made.{Valued}
use Rattle.mp_mexpr.specs.Grammar.{meaning}
use Rattle.mp_mexpr.specs.Meaning.{truth_of, elements_of}
use Rattle.mp_directive.specs.Results.{◌>>=◌}
use Rattle.mp_directive.specs.Directives.{Condition, Holds, Defined, Undefined, Otherwise, Statement, Plain, Define, Echo, Error, Content, Alone}
use Rattle.mp_macro.specs.Plain.{Piece, Verbatim, Expression, Unclosed, pieces}

-- the same names but for one
abbrev pub with_name : Names → List ℕ → Option Value → Names
with_name names name value = λ other. if bytes_eq name other then value else names other

-- of the bytes of an expression
unfoldable pub value : Names → List ℕ → Valued
value names text = meaning names text

-- what an expansion has come to: the values of names, how many loop turns and includes were made, and the text written
pub record State : Type 0 where
  pub names : Names
  pub turns : ℕ
  pub text : List ℕ

-- what a line makes of a state, or why it is refused
abbrev pub Outcome : Type 0
Outcome = Result State MacroKind

-- a piece more is written; the text has at most 8,388,608 bytes
abbrev pub written : List ℕ → State → Outcome
written piece s =
    if nat_le (length s.text + length piece) 8388608 then Ok (record { names = s.names; turns = s.turns; text = s.text ++ piece }) else Err TextLimit

-- a name has this value from now on, or none
abbrev pub named : List ℕ → Option Value → State → State
named name value s = record { names = with_name s.names name value; turns = s.turns; text = s.text }

-- a turn of a loop, or an include, more; at most 1,000,000 are made
abbrev pub counted : State → Outcome
counted s = if nat_lt s.turns 1000000 then Ok (record { names = s.names; turns = s.turns + 1; text = s.text }) else Err TurnsLimit

-- a piece of a plain line
abbrev pub after_piece : Piece → State → Outcome
after_piece (Verbatim text) s = written text s
after_piece (Expression expr) s = value s.names expr >>= λ v. written (printed v) s
after_piece Unclosed s = Err BadExpression

-- pieces, from left to right
abbrev pub after_pieces : List Piece → State → Outcome
after_pieces [] s = Ok s
after_pieces (p ∷ ps) s = after_piece p s >>= after_pieces ps

-- a text
abbrev pub text_of : Value → Result (List ℕ) MacroKind
text_of (Text t) = Ok t
text_of _ = Err WrongKind

-- the value that `@#define` gives: without an expression the number 1
abbrev pub defined_value : Names → Option (List ℕ) → Result Value MacroKind
defined_value names None = Ok (Whole (pos 1))
defined_value names (Some expr) = value names expr

-- a text is evaluated
abbrev pub echoed : Names → List ℕ → Result (Unit {0}) MacroKind
echoed names expr = value names expr >>= text_of >>= λ t. Ok tt

-- the user's fault, where the expression is a text
abbrev pub user_error : Names → List ℕ → Result (Unit {0}) MacroKind
user_error names expr = value names expr >>= text_of >>= λ t. Err UserError

-- what one line does by itself
abbrev pub after_statement : Statement → State → Outcome
after_statement (Plain line) s = after_pieces (pieces line) s
after_statement (Define name expr) s = defined_value s.names expr >>= λ v. Ok (named name (Some v) s)
after_statement (Echo expr) s = echoed s.names expr >>= λ u. Ok s
after_statement (Error expr) s = user_error s.names expr >>= λ u. Ok s

-- what a line by itself does; another does nothing
abbrev pub after_alone : Content → State → Outcome
after_alone (Alone s) x = after_statement s x
after_alone _ x = Ok x

-- whether a branch is taken
abbrev pub holds : Names → Condition → Result Bool MacroKind
holds names (Holds expr) = value names expr >>= truth_of
holds names (Defined name) = Ok (is_some (names name))
holds names (Undefined name) = Ok (not (is_some (names name)))
holds names Otherwise = Ok true

-- the elements over which a loop goes
abbrev pub elements : Names → List ℕ → Result (List Value) MacroKind
elements names expr = value names expr >>= elements_of

-- a turn of a loop begins
abbrev pub turn_begun : List ℕ → Value → State → Outcome
turn_begun name element s = counted s >>= λ t. Ok (named name (Some element) t)

-- a file's name has 1 to 128 bytes, which are UTF-8
abbrev pub is_file_name : List ℕ → Bool
is_file_name name = nat_lt 0 (length name) && nat_le (length name) 128 && is_utf8 name

-- the name of an included file
abbrev pub file_name : Names → List ℕ → Result (List ℕ) MacroKind
file_name names expr =
    value names expr >>= text_of >>= λ name. if is_file_name name then Ok name else Err FileName
