-- What a job has written has the solutions of what was read, or lists its derivatives.
use Rattle.std.proofs.Common.{List, ℕ, Option, Some, None}
use Rattle.mp_base.specs.declared.job.Job.{Job}
use Rattle.mp_base.specs.declared.job.Job.TheVariants as j
use Rattle.mp_base.specs.declared.outcome.Outcome.{Outcome}
use Rattle.mp_base.specs.declared.outcome.Outcome.TheVariants.{Done}
use Rattle.mp_outside.specs.Outside.{Held, Listing}
use Rattle.mp_run.specs.Answers.{IsDone, WritesResult}
use Rattle.mp_run.specs.Headline.{KeepsFor, WritesSameSolutions}
use Rattle.mp_run.specs.Slopes.{ListsFor, WritesDerivatives}

keeps : (job : Job) (text written : List ℕ) → IsDone job text written → KeepsFor job text written
keeps j.Expand text written d = tt
keeps j.Transform text written d = record { ts = d.ts; file = d.file; lexed = d.lexed; reads = d.reads; keeps = d.keeps }
keeps j.Derive text written d = tt
keeps j.Solve text written d = tt
keeps j.Occbin text written d = tt
keeps j.Check text written d = tt
keeps j.Sample text written d = tt

pub same_solutions : (told : Option Listing) (words : List (List ℕ)) (before now : Held) (outcome : Outcome) → WritesResult told words before now outcome → WritesSameSolutions told words before now outcome
same_solutions None words before now Done h = h
same_solutions (Some l) words before now Done h =
    let w = h.1 in (w.request, w.text, h.0, w.asked, w.expanded, keeps w.request.job w.text h.0 w.done, h.2)
same_solutions told words before now _ h = tt

lists : (job : Job) (text written : List ℕ) → IsDone job text written → ListsFor job text written
lists j.Derive text written d = record { ts = d.ts; file = d.file; model = d.model; lexed = d.lexed; reads = d.reads; means = d.means; lists = d.lists }
lists _ text written d = tt

pub writes_derivatives : (told : Option Listing) (words : List (List ℕ)) (before now : Held) (outcome : Outcome) → WritesResult told words before now outcome → WritesDerivatives told words before now outcome
writes_derivatives None words before now Done h = h
writes_derivatives (Some l) words before now Done h =
    let w = h.1 in (w.request, w.text, h.0, w.asked, w.expanded, lists w.request.job w.text h.0 w.done, h.2)
writes_derivatives told words before now _ h = tt
