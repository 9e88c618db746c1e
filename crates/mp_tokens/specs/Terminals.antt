-- What a token is to the grammar.
use Rattle.std.specs.Prelude.{ℕ, List, [], ◌∷◌, ◌++◌, Bool, true, false, map, if◌then◌else◌, codes}
use Rattle.std.specs.Str.{bytes_eq}
use Rattle.mp_tokens.specs.declared.token.TokenKind.{TokenKind}
use Rattle.mp_tokens.specs.declared.token.TokenKind.TheVariants as k
use Rattle.mp_tokens.specs.declared.terminal.Terminal.{Terminal}
use Rattle.mp_tokens.specs.declared.terminal.Terminal.TheVariants as t
use Rattle.mp_tokens.specs.Tokens.{Tok}

-- a word and the terminal that it is
abbrev pub Keyword : Type 0
Keyword = List ℕ × Terminal

-- words that begin a statement or end a block (Dynare manual, "The model file"; the profile is modpath's own)
abbrev pub statement_words : List Keyword
statement_words =
    (codes "var", t.Var) ∷ (codes "varexo", t.Varexo) ∷ (codes "parameters", t.Parameters) ∷ (codes "model", t.Model) ∷ (codes "end", t.End) ∷ (codes "initval", t.Initval) ∷ (codes "endval", t.Endval) ∷ (codes "histval", t.Histval) ∷ (codes "shocks", t.Shocks) ∷ (codes "steady", t.Steady) ∷ (codes "steady_state_model", t.SteadyStateModel) ∷ (codes "perfect_foresight_setup", t.PerfectForesightSetup) ∷ (codes "perfect_foresight_solver", t.PerfectForesightSolver) ∷ (codes "occbin_constraints", t.OccbinConstraints) ∷ (codes "occbin_setup", t.OccbinSetup) ∷ (codes "occbin_solver", t.OccbinSolver) ∷ (codes "check", t.Check) ∷ (codes "resid", t.Resid) ∷ (codes "rplot", t.Rplot) ∷ (codes "model_diagnostics", t.ModelDiagnostics) ∷ []

-- words that stand for a function of the language
abbrev pub function_words : List Keyword
function_words =
    (codes "min", t.Min) ∷ (codes "max", t.Max) ∷ (codes "diff", t.Diff) ∷ (codes "abs", t.Abs) ∷ (codes "pick", t.Pick) ∷ (codes "STEADY_STATE", t.SteadyState) ∷ (codes "steady_state", t.SteadyState) ∷ []

-- words of functions that no production takes
abbrev pub reserved_words : List (List ℕ)
reserved_words =
    codes "exp" ∷ codes "log" ∷ codes "ln" ∷ codes "log10" ∷ codes "sqrt" ∷ codes "cbrt" ∷ codes "sign" ∷ codes "sin" ∷ codes "cos" ∷ codes "tan" ∷ codes "asin" ∷ codes "acos" ∷ codes "atan" ∷ codes "sinh" ∷ codes "cosh" ∷ codes "tanh" ∷ codes "asinh" ∷ codes "acosh" ∷ codes "atanh" ∷ codes "normcdf" ∷ codes "normpdf" ∷ codes "erf" ∷ codes "erfc" ∷ []

-- the terminal that this word is among these, or else this one
abbrev pub word_in : List Keyword → Terminal → List ℕ → Terminal
word_in [] other bs = other
word_in (w ∷ ws) other bs = if bytes_eq bs w.0 then w.1 else word_in ws other bs

-- the table of all words that are no names
abbrev pub keywords : List Keyword
keywords = statement_words ++ (function_words ++ map (λ w. (w, t.Reserved)) reserved_words)

-- the terminal that a word is: what the table says, or a name
unfoldable pub word_of : List ℕ → Terminal
word_of bs = word_in keywords t.Name bs

abbrev pub is_one_of : List Keyword → List ℕ → Bool
is_one_of [] bs = false
is_one_of (w ∷ ws) bs = if bytes_eq bs w.0 then true else is_one_of ws bs

-- no name may be one of the words of the table
unfoldable pub is_reserved : List ℕ → Bool
is_reserved bs = is_one_of keywords bs

abbrev pub terminal_by : TokenKind → List ℕ → Terminal
terminal_by k.Name bs = word_of bs
terminal_by k.Whole bs = t.Whole
terminal_by k.Number bs = t.Number
terminal_by k.Text bs = t.Text
terminal_by k.Tex bs = t.Tex
terminal_by k.Semicolon bs = t.Semicolon
terminal_by k.Comma bs = t.Comma
terminal_by k.Equals bs = t.Equals
terminal_by k.Open bs = t.Open
terminal_by k.Close bs = t.Close
terminal_by k.OpenBracket bs = t.OpenBracket
terminal_by k.CloseBracket bs = t.CloseBracket
terminal_by k.Plus bs = t.Plus
terminal_by k.Minus bs = t.Minus
terminal_by k.Star bs = t.Star
terminal_by k.Slash bs = t.Slash
terminal_by k.Caret bs = t.Caret
terminal_by k.Hash bs = t.Hash
terminal_by k.Colon bs = t.Colon
terminal_by k.Less bs = t.Less
terminal_by k.Greater bs = t.Greater
terminal_by k.AtMost bs = t.AtMost
terminal_by k.AtLeast bs = t.AtLeast

unfoldable pub terminal_of : Tok → Terminal
terminal_of t = terminal_by t.kind t.bytes
