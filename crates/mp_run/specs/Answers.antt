-- What a run's answer says of its words, files and sinks.
use Rattle.std.specs.Prelude.{◌≡◌, ◌⊎◌, ℕ, List, Option, Some, IfSome, Result, Ok, Err}
use Rattle.mp_base.specs.declared.outcome.Outcome.{Outcome}
use Rattle.mp_base.specs.declared.outcome.Outcome.TheVariants.{Done, Refused}
use Rattle.mp_base.specs.declared.refusal.Refusal.TheVariants as o
use Rattle.mp_base.specs.declared.refusal.Refusal.{Refusal}
use Rattle.mp_base.specs.declared.job.Job.{Job}
use Rattle.mp_base.specs.declared.job.Job.TheVariants as j
use Rattle.mp_outside.specs.Outside.{Outside, Held, Listing, Rose, CutOff, gained}
use Rattle.mp_words.specs.Words.{Request, request_of}
use Rattle.mp_macro.specs.Expansion.{expands}
use Rattle.mp_transform.specs.Steps.{Step, Refuses}
use Rattle.mp_transform.specs.Canonical.{IsCanonical, AreDerivatives}
use Rattle.mp_run.specs.Verdict.{verdict}

-- what a step of the code that reads files refused is what the definition refuses; want of memory and a fault of the files may come at any time
abbrev pub RefusesFiles : {X : Type 0} → Step X → Refusal → Type 0
RefusesFiles gives (o.ReadFault count) = Unit {0}
RefusesFiles gives refusal = Refuses gives refusal

-- what such a step gave, seen by view, is what the definition gives, where the files are told
abbrev pub SaysFiles : {X Y : Type 0} → (X → Y) → Option Listing → (Listing → Step Y) → Result X Refusal → Type 0
SaysFiles view told gives (Ok x) = IfSome told (λ l. gives l ≡ Ok (view x))
SaysFiles view told gives (Err refusal) = IfSome told (λ l. RefusesFiles (gives l) refusal)

-- a refusal before anything is written shows its cause, told or not
abbrev pub RefusalShows : List (List ℕ) → Outside → Outside → Refusal → Type 0
RefusalShows words before now (o.Words word) = request_of words ≡ Err word
RefusalShows words before now (o.Absent name) = Rose before.absents now.absents
RefusalShows words before now (o.ReadFault count) = Rose before.faults now.faults × (count ≡ now.faults)
RefusalShows words before now _ = Unit {0}

-- the same of an outcome
abbrev pub ShowsCause : List (List ℕ) → Outside → Outside → Outcome → Type 0
ShowsCause words before now Done = Unit {0}
ShowsCause words before now (Refused refusal) = RefusalShows words before now refusal

-- the same of a step after the words
abbrev pub FilesShow : Outside → Outside → Refusal → Type 0
FilesShow before now (o.Absent name) = Rose before.absents now.absents
FilesShow before now (o.ReadFault count) = Rose before.faults now.faults × (count ≡ now.faults)
FilesShow before now (o.Words word) = ⊥
FilesShow before now _ = Unit {0}

-- nothing is written yet
abbrev pub EndsEarly : Refusal → Type 0
EndsEarly (o.WriteFault count) = ⊥
EndsEarly _ = Unit {0}

-- where the files are told, the outcome and the bytes gained are the verdict's, and a fault of the sink cuts these bytes off; want of memory and a fault of the files may come in place of them
abbrev pub AsVerdict : Option Listing → List (List ℕ) → Held → Held → Outcome → Type 0
AsVerdict told words before now (Refused o.NoMemory) = Unit {0}
AsVerdict told words before now (Refused (o.ReadFault count)) = Unit {0}
AsVerdict told words before now (Refused (o.WriteFault count)) =
    IfSome told (λ l. ((verdict words l).outcome ≡ Done) × CutOff before now (verdict words l).bytes)
AsVerdict told words before now outcome =
    IfSome told (λ l. (outcome ≡ (verdict words l).outcome) × (now.taken ≡ gained before.taken (verdict words l).bytes))

-- where the files are told and no count of faults rose, the answer is the verdict, or there was no memory
abbrev pub Complete : List (List ℕ) → Outside → Outside → Held → Held → Outcome → Type 0
Complete words files files' out out' outcome =
    (l : Listing) → files.listing ≡ Some l → ¬ (Rose files.faults files'.faults) → ¬ (Rose out.faults out'.faults) → (outcome ≡ Refused o.NoMemory) ⊎ ((outcome ≡ (verdict words l).outcome) × (out'.taken ≡ gained out.taken (verdict words l).bytes))

-- nothing is written but under Done, or in part at a fault of the sink, which carries its risen count
abbrev pub ShowsSink : Held → Held → Outcome → Type 0
ShowsSink before now (Refused (o.WriteFault count)) = Rose before.faults now.faults × (count ≡ now.faults)
ShowsSink before now Done = Unit {0}
ShowsSink before now _ = now ≡ before

-- what a job writes for an expanded text: the text itself, the canonical text of the model that it means, or the records of that model's derivatives
abbrev pub IsDone : Job → List ℕ → List ℕ → Type 0
IsDone j.Expand text written = written ≡ text
IsDone j.Transform text written = IsCanonical text written
IsDone j.Derive text written = AreDerivatives text written
IsDone _ text written = ⊥

-- these bytes are what the words ask for, made of the expanded text of the file that they name
pub record Writes (words : List (List ℕ)) (l : Listing) (written : List ℕ) : Type 0 where
  pub request : Request
  pub text : List ℕ
  pub asked : request_of words ≡ Ok request
  pub expanded : expands l request.file request.defines ≡ Ok text
  pub done : IsDone request.job text written

abbrev pub IfDone : Outcome → Type 0 → Type 0
IfDone Done P = P
IfDone _ P = Unit {0}

-- under Done the sink gained what the words ask for
abbrev pub WritesResult : Option Listing → List (List ℕ) → Held → Held → Outcome → Type 0
WritesResult told words before now outcome =
    IfDone outcome (IfSome told (λ l. (written : List ℕ) × Writes words l written × (now.taken ≡ gained before.taken written)))
