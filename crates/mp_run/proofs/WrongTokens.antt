-- A run that refuses a token tells the first wrong one.
use Rattle.std.proofs.Common.{◌≡◌, ℕ, List, Option, Some, None, Result, Ok, Err, refl, sym, ap}
use Rattle.mp_base.specs.declared.outcome.Outcome.{Outcome}
use Rattle.mp_base.specs.declared.outcome.Outcome.TheVariants.{Refused}
use Rattle.mp_base.specs.declared.refusal.Refusal.TheVariants as o
use Rattle.mp_base.specs.declared.kinds.TextKind.TheVariants as t
use Rattle.mp_base.specs.declared.job.Job.{Job}
use Rattle.mp_base.specs.declared.job.Job.TheVariants as j
use Rattle.mp_outside.specs.Outside.{Held, Listing}
use Rattle.mp_words.specs.Words.{Request, request_of}
use Rattle.mp_macro.specs.Expansion.{Refusal, Macro, Absent, expands}
use Rattle.mp_transform.specs.Steps.{Step, and_then}
use Rattle.mp_transform.specs.declared.output.Output.TheVariants as out
use Rattle.mp_transform.specs.Wrong.{ShowsWrongToken}
use Rattle.mp_transform.proofs.WrongTokens.{wrong_shown}
use Rattle.mp_run.specs.Verdict.{answer_of, words_step, expansion_step, job_gives, request_gives, run_gives}
use Rattle.mp_run.specs.Answers.{AsVerdict}
use Rattle.mp_run.specs.Wrong.{IsFirstWrong, TellsWrongToken}

-- what a run refuses with this outcome, it refuses in its steps
refused : (r : Step (List ℕ)) (at : ℕ) (token : List ℕ) → Refused (o.Text t.Token at token) ≡ (answer_of r).outcome → r ≡ Err (o.Text t.Token at token)
refused (Ok bytes) at token e = absurd cc
refused (Err refusal) at token e =
    let same : o.Text t.Token at token ≡ refusal = cc in ap Err (sym same)

by_job : (job : Job) (text : List ℕ) (at : ℕ) (token : List ℕ) → job_gives job text ≡ Err (o.Text t.Token at token) → ShowsWrongToken text (o.Text t.Token at token)
by_job j.Expand text at token e = absurd cc
by_job j.Transform text at token e = wrong_shown out.Model text (o.Text t.Token at token) e
by_job j.Derive text at token e = wrong_shown out.Derivatives text (o.Text t.Token at token) e
by_job j.Solve text at token e = absurd cc
by_job j.Occbin text at token e = absurd cc
by_job j.Check text at token e = absurd cc
by_job j.Sample text at token e = absurd cc

first_wrong : (words : List (List ℕ)) (l : Listing) (at : ℕ) (token : List ℕ) → run_gives words l ≡ Err (o.Text t.Token at token) → IsFirstWrong words l (o.Text t.Token at token)
first_wrong words l at token e = by_words (request_of words) refl e
  where
    by_text : (r : Request) → request_of words ≡ Ok r → (x : Result (List ℕ) Refusal) → expands l r.file r.defines ≡ x → and_then (expansion_step x) (job_gives r.job) ≡ Err (o.Text t.Token at token) → IsFirstWrong words l (o.Text t.Token at token)
    by_text r asked (Ok text) expanded e = record { request = r; text = text; asked = asked; expanded = expanded; shows = by_job r.job text at token e }
    by_text r asked (Err (Macro kind file line)) expanded e = absurd cc
    by_text r asked (Err (Absent name)) expanded e = absurd cc

    by_words : (r : Result Request ℕ) → request_of words ≡ r → and_then (words_step r) (request_gives l) ≡ Err (o.Text t.Token at token) → IsFirstWrong words l (o.Text t.Token at token)
    by_words (Ok r) asked e = by_text r asked (expands l r.file r.defines) refl e
    by_words (Err w) asked e = absurd cc

pub tells_wrong : (told : Option Listing) (words : List (List ℕ)) (before now : Held) (outcome : Outcome) → AsVerdict told words before now outcome → TellsWrongToken told words outcome
tells_wrong None words before now (Refused (o.Text t.Token at token)) h = h
tells_wrong (Some l) words before now (Refused (o.Text t.Token at token)) h = first_wrong words l at token (refused (run_gives words l) at token h.0)
tells_wrong told words before now _ h = tt
