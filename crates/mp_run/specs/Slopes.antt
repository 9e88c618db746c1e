-- The derivatives that are written are those of the transformed equations.
use Rattle.std.specs.Prelude.{◌≡◌, ℕ, List, Option, IfSome, Some, Ok}
use Rattle.mp_base.specs.declared.outcome.Outcome.{Outcome}
use Rattle.mp_base.specs.declared.job.Job.{Job}
use Rattle.mp_base.specs.declared.job.Job.TheVariants as j
use Rattle.mp_tokens.specs.Tokens.{Tok, tokens}
use Rattle.mp_statements.specs.Statements.{Statement}
use Rattle.mp_grammar.specs.Grammar.{ReadsFile}
use Rattle.mp_semantics.specs.Model.{Model}
use Rattle.mp_solutions.specs.Transformed.{transformed}
use Rattle.mp_values.specs.ModelOf.{model_of}
use Rattle.mp_derivatives.specs.Listed.{ListsDerivatives}
use Rattle.mp_outside.specs.Outside.{Held, Listing, gained}
use Rattle.mp_words.specs.Words.{Request, request_of}
use Rattle.mp_macro.specs.Expansion.{expands}
use Rattle.mp_run.specs.Answers.{IfDone}

-- the text reads as a file that means a model, and the bytes list the derivatives of the transformed one
pub record Lists (text written : List ℕ) : Type 0 where
  pub ts : List Tok
  pub file : List Statement
  pub model : Model
  pub lexed : tokens text ≡ Ok ts
  pub reads : ReadsFile ts file
  pub means : model_of file ≡ Some model
  pub lists : ListsDerivatives (transformed model) written

-- what `derive` writes lists the derivatives of the transformed model of the expanded text
abbrev pub ListsFor : Job → List ℕ → List ℕ → Type 0
ListsFor j.Derive text written = Lists text written
ListsFor _ text written = Unit {0}

-- under Done of `derive` the bytes that the sink gained read back to a record for each place that occurs in the difference of both sides of an equation of the expanded text's transformed model, and to no other; each text means a derivative that is worth the dual number's slope wherever that exists
abbrev pub WritesDerivatives : Option Listing → List (List ℕ) → Held → Held → Outcome → Type 0
WritesDerivatives told words before now outcome =
    IfDone outcome (IfSome told (λ l. (request : Request) × (text written : List ℕ) × (request_of words ≡ Ok request) × (expands l request.file request.defines ≡ Ok text) × ListsFor request.job text written × (now.taken ≡ gained before.taken written)))
