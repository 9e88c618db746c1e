-- The verdict: what a run answers on files that are told. It is the first refusal, or all is done and the job's text is written.
use Rattle.std.specs.Prelude.{ℕ, List, [], Result, Ok, Err}
use Rattle.mp_base.specs.declared.outcome.Outcome.{Outcome}
use Rattle.mp_base.specs.declared.outcome.Outcome.TheVariants.{Done, Refused}
use Rattle.mp_base.specs.declared.refusal.Refusal.TheVariants as o
use Rattle.mp_base.specs.declared.job.Job.{Job}
use Rattle.mp_base.specs.declared.job.Job.TheVariants as j
use Rattle.mp_outside.specs.Outside.{Listing}
use Rattle.mp_words.specs.Words.{Request, request_of}
use Rattle.mp_macro.specs.Expansion.{Refusal, Macro, Absent, expands}
use Rattle.mp_transform.specs.Steps.{Step, and_then}
use Rattle.mp_transform.specs.Text.{text_gives, derivatives_give}

-- an outcome, and the bytes written with it
pub record Answer : Type 0 where
  pub outcome : Outcome
  pub bytes : List ℕ

-- the answer of the last step: all is done, or nothing is written
abbrev pub answer_of : Step (List ℕ) → Answer
answer_of (Ok bytes) = record { outcome = Done; bytes = bytes }
answer_of (Err refusal) = record { outcome = Refused refusal; bytes = [] }

-- what the words ask for, or the first wrong word
abbrev pub words_step : Result Request ℕ → Step Request
words_step (Ok request) = Ok request
words_step (Err word) = Err (o.Words word)

-- the expanded text, or its first refusal
abbrev pub expansion_step : Result (List ℕ) Refusal → Step (List ℕ)
expansion_step (Ok text) = Ok text
expansion_step (Err (Macro kind file line)) = Err (o.Macro kind file line)
expansion_step (Err (Absent name)) = Err (o.Absent name)

-- a job that is not built is asked for by no word
abbrev pub unbuilt : Step (List ℕ)
unbuilt = Err (o.Words 1)

-- what a job makes of the expanded text
abbrev pub job_gives : Job → List ℕ → Step (List ℕ)
job_gives j.Expand text = Ok text
job_gives j.Transform text = text_gives text
job_gives j.Derive text = derivatives_give text
job_gives j.Solve text = unbuilt
job_gives j.Occbin text = unbuilt
job_gives j.Check text = unbuilt
job_gives j.Sample text = unbuilt

-- the first refusal, or the bytes of what is asked for
abbrev pub request_gives : Listing → Request → Step (List ℕ)
request_gives l r = and_then (expansion_step (expands l r.file r.defines)) (job_gives r.job)

abbrev pub run_gives : List (List ℕ) → Listing → Step (List ℕ)
run_gives words l = and_then (words_step (request_of words)) (request_gives l)

abbrev pub verdict : List (List ℕ) → Listing → Answer
verdict words l = answer_of (run_gives words l)
