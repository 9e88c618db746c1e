-- What is written of a text: the canonical text of its transformed model or the records of the derivatives of that model, or the first refusal in the order of the steps.
use Rattle.std.specs.Prelude.{ℕ, List, [], ◌∷◌, length, take, Option, Some, None, Result, Ok, Err}
use Rattle.mp_base.specs.declared.refusal.Refusal.{Refusal}
use Rattle.mp_base.specs.declared.refusal.Refusal.TheVariants as o
use Rattle.mp_base.specs.declared.kinds.TextKind.TheVariants as t
use Rattle.mp_base.specs.declared.kinds.DataKind.TheVariants as d
use Rattle.mp_tokens.specs.Tokens.{Tok, Fault, BadByte, LongName, OpenComment, OpenText, tokens}
use Rattle.mp_statements.specs.Statements.{Statement}
use Rattle.mp_grammar.specs.Grammar.{file_read}
use Rattle.mp_declared.specs.Declared as declared
use Rattle.mp_semantics.specs.Model.{Model}
use Rattle.mp_solutions.specs.Transformed.{transformed}
use Rattle.mp_values.specs.Limits.{Folded}
use Rattle.mp_canonical.specs.Files.{canonical_text}
use Rattle.mp_derivatives.specs.Records.{Derivation, records_text}
use Rattle.mp_derivatives.specs.Derived.{derived}
use Rattle.mp_decl.specs.Given.{declared_given, stuck_told}
use Rattle.mp_local.specs.Local.{local_given}
use Rattle.mp_shift.specs.Faults.{name_fault}
use Rattle.mp_transform.specs.Steps.{Step, and_then, whole}
use Rattle.mp_transform.specs.declared.output.Output.{Output}
use Rattle.mp_transform.specs.declared.output.Output.TheVariants as out

-- the tokens of a text, or its first fault
abbrev pub token_step : Result (List Tok) Fault → Step (List Tok)
token_step (Ok ts) = Ok ts
token_step (Err (BadByte at)) = Err (o.Text t.BadByte at [])
token_step (Err (LongName at)) = Err (o.Text t.LongName at [])
token_step (Err (OpenComment at)) = Err (o.Text t.OpenComment at [])
token_step (Err (OpenText at)) = Err (o.Text t.OpenText at [])

-- where no token is left, the end of the text is wrong
abbrev pub wrong_token : ℕ → List Tok → Refusal
wrong_token end [] = o.Text t.Token end []
wrong_token end (w ∷ left) = o.Text t.Token w.at (take 128 w.bytes)

-- the file that the tokens read as, or the token at which the reading stops
abbrev pub file_step : ℕ → Result (List Statement) (List Tok) → Step (List Statement)
file_step end (Ok file) = Ok file
file_step end (Err left) = Err (wrong_token end left)

-- the model of a file
abbrev pub model_step : ℕ → Folded Model → Step Model
model_step end (Ok M) = Ok M
model_step end (Err stuck) = Err (stuck_told end stuck)

-- the model of a file, within the limits of models
abbrev pub limited : ℕ → List Statement → Step Model
limited end file = model_step end (local_given file)

-- each auxiliary of the model can have its name
abbrev pub name_step : Option declared.Fault → Step (Unit {0})
name_step None = Ok tt
name_step (Some x) = Err (o.Declared x.kind x.name x.at)

abbrev pub named_step : List Statement → Model → Step Model
named_step file M = and_then (name_step (name_fault file M)) (λ _. Ok M)

-- the model of a file that declares it, within all limits
abbrev pub sourced : ℕ → List Tok → List Statement → Step Model
sourced end ts file = and_then (declared_given end ts file) (λ _. limited end file)

-- the same with names for its auxiliaries
abbrev pub tested : ℕ → List Tok → List Statement → Step Model
tested end ts file = and_then (sourced end ts file) (named_step file)

-- the model of what the tokens read as
abbrev pub tokens_give : ℕ → List Tok → Step Model
tokens_give end ts = and_then (file_step end (file_read ts)) (tested end ts)

-- the model that a text means
abbrev pub model_of_text : List ℕ → Step Model
model_of_text text = and_then (token_step (tokens text)) (tokens_give (length text))

-- the records of derivatives, or that these have too many operations together
abbrev pub limit_step : Result (List Derivation) ℕ → Step (List Derivation)
limit_step (Ok ds) = Ok ds
limit_step (Err count) =
    Err (o.Data (record { kind = d.DerivativesLarge; at = 0; first = whole count; second = whole 2000000 }))

-- what is written of a model
abbrev pub output_of : Output → Model → Step (List ℕ)
output_of out.Model M = and_then (limit_step (derived M)) (λ ds. Ok (canonical_text M))
output_of out.Derivatives M = and_then (limit_step (derived M)) (λ ds. Ok (records_text ds))

-- what is written of the transformed model of a text
abbrev pub output_gives : Output → List ℕ → Step (List ℕ)
output_gives output text = and_then (model_of_text text) (λ M. output_of output (transformed M))

-- the canonical text of its transformed model
abbrev pub text_gives : List ℕ → Step (List ℕ)
text_gives text = output_gives out.Model text

-- the records of the derivatives of its transformed model
abbrev pub derivatives_give : List ℕ → Step (List ℕ)
derivatives_give text = output_gives out.Derivatives text
