-- The headline: a path solves what was written exactly when it solves what was read.
use Rattle.std.specs.Prelude.{◌≡◌, ℕ, List, Option, IfSome, Ok}
use Rattle.mp_base.specs.declared.outcome.Outcome.{Outcome}
use Rattle.mp_base.specs.declared.job.Job.{Job}
use Rattle.mp_base.specs.declared.job.Job.TheVariants as j
use Rattle.mp_tokens.specs.Tokens.{Tok, tokens}
use Rattle.mp_statements.specs.Statements.{Statement}
use Rattle.mp_grammar.specs.Grammar.{ReadsFile}
use Rattle.mp_model.specs.Headline.{KeepsSolutions}
use Rattle.mp_outside.specs.Outside.{Held, Listing, gained}
use Rattle.mp_words.specs.Words.{Request, request_of}
use Rattle.mp_macro.specs.Expansion.{expands}
use Rattle.mp_run.specs.Answers.{IfDone}

-- the text reads as a file, and the bytes read back to a model with its names, values of parameters, equations and solutions
pub record Keeps (text written : List ℕ) : Type 0 where
  pub ts : List Tok
  pub file : List Statement
  pub lexed : tokens text ≡ Ok ts
  pub reads : ReadsFile ts file
  pub keeps : KeepsSolutions file written

-- what `transform` writes keeps the solutions of the expanded text
abbrev pub KeepsFor : Job → List ℕ → List ℕ → Type 0
KeepsFor j.Transform text written = Keeps text written
KeepsFor _ text written = Unit {0}

-- under Done of `transform` the bytes that the sink gained read back to a model with the names, the values of parameters, the equations and the solutions of the expanded text's model
abbrev pub WritesSameSolutions : Option Listing → List (List ℕ) → Held → Held → Outcome → Type 0
WritesSameSolutions told words before now outcome =
    IfDone outcome (IfSome told (λ l. (request : Request) × (text written : List ℕ) × (request_of words ≡ Ok request) × (expands l request.file request.defines ≡ Ok text) × KeepsFor request.job text written × (now.taken ≡ gained before.taken written)))
