-- A canonical text and listed derivatives, and the headline for them.
use Rattle.std.specs.Prelude.{◌≡◌, ℕ, List, Some, Ok, Err}
use Rattle.mp_tokens.specs.Tokens.{Tok, tokens}
use Rattle.mp_statements.specs.Statements.{Statement}
use Rattle.mp_grammar.specs.Grammar.{ReadsFile}
use Rattle.mp_semantics.specs.Model.{Model}
use Rattle.mp_solutions.specs.Transformed.{transformed}
use Rattle.mp_values.specs.ModelOf.{model_of}
use Rattle.mp_canonical.specs.Files.{canonical_text}
use Rattle.mp_canonical.specs.Printable.{HasFreeNames}
use Rattle.mp_model.specs.Headline.{KeepsSolutions}
use Rattle.mp_derivatives.specs.Derivatives.{derivatives_text}
use Rattle.mp_derivatives.specs.Listed.{ListsDerivatives}
use Rattle.mp_transform.specs.Steps.{Step}

-- these bytes are the canonical text of the transformed model of what the file means which the grammar reads from the tokens of the text; and a path solves them exactly when it solves that file and has for each auxiliary the shifted value of its variable
pub record IsCanonical (text written : List ℕ) : Type 0 where
  pub ts : List Tok
  pub file : List Statement
  pub model : Model
  pub lexed : tokens text ≡ Ok ts
  pub reads : ReadsFile ts file
  pub means : model_of file ≡ Some model
  pub printed : written ≡ canonical_text (transformed model)
  pub keeps : KeepsSolutions file written

-- these bytes are the records of the derivatives of the transformed model of what the file means which the grammar reads from the tokens of the text; they read back, and each derivative is worth the slope of the dual number wherever that exists
pub record AreDerivatives (text written : List ℕ) : Type 0 where
  pub ts : List Tok
  pub file : List Statement
  pub model : Model
  pub lexed : tokens text ≡ Ok ts
  pub reads : ReadsFile ts file
  pub means : model_of file ≡ Some model
  pub written_so : written ≡ derivatives_text (transformed model)
  pub lists : ListsDerivatives (transformed model) written

-- the names of the auxiliaries of the model that there is are free
abbrev pub HasNames : Step Model → Type 0
HasNames (Ok M) = HasFreeNames M
HasNames (Err refusal) = Unit {0}
