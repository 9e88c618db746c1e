-- What the words ask for, made of the expanded text, is what the whole run gives.
use Rattle.std.proofs.Common.{◌≡◌, ℕ, List, Option, Some, None, Result, Ok, Err, sym, ap, ◌∙◌, subst}
use Rattle.std.specs.Prelude.{IfSome, IfOk}
use Rattle.mp_base.specs.declared.refusal.Refusal as base
use Rattle.mp_base.specs.declared.refusal.Refusal.TheVariants as o
use Rattle.mp_outside.specs.Outside.{Listing}
use Rattle.mp_words.specs.Words.{Request, request_of}
use Rattle.mp_macro.specs.Expansion.{Refusal, Macro, Absent, expands}
use Rattle.mp_transform.specs.Steps.{Step, and_then, Refuses, Says}
use Rattle.mp_run.specs.Verdict.{words_step, expansion_step, job_gives, request_gives, run_gives}
use Rattle.mp_run.specs.Answers.{RefusesFiles, SaysFiles, IsDone, Writes}

expanded_is : (x : Result (List ℕ) Refusal) (text : List ℕ) → expansion_step x ≡ Ok text → x ≡ Ok text
expanded_is (Ok t) text e = let same : t ≡ text = cc in ap Ok same
expanded_is (Err (Macro kind file line)) text e = absurd cc
expanded_is (Err (Absent name)) text e = absurd cc

refuses_files : {X : Type 0} (g : Step X) (y : base.Refusal) → Refuses g y → RefusesFiles g y
refuses_files g (o.ReadFault count) h = tt
refuses_files g _ h = h

module _ (words : List (List ℕ)) (r : Request) (text : List ℕ) (asked : request_of words ≡ Ok r) where
  run_is : (l : Listing) → expansion_step (expands l r.file r.defines) ≡ Ok text → run_gives words l ≡ job_gives r.job text
  run_is l expanded =
      ap (λ x. and_then (words_step x) (request_gives l)) asked ∙ ap (λ x. and_then x (job_gives r.job)) expanded

  pub says_files : (told : Option Listing) → IfSome told (λ l. expansion_step (expands l r.file r.defines) ≡ Ok text) → (x : Result (List ℕ) base.Refusal) → Says (λ b. b) (job_gives r.job text) x → SaysFiles (λ b. b) told (run_gives words) x
  says_files None expanded (Ok b) says = expanded
  says_files None expanded (Err y) says = expanded
  says_files (Some l) expanded (Ok b) says = run_is l expanded ∙ says
  says_files (Some l) expanded (Err y) says =
      subst (λ (g : Step (List ℕ)). RefusesFiles g y) (sym (run_is l expanded)) (refuses_files (job_gives r.job text) y says)

  pub writes_files : (told : Option Listing) → IfSome told (λ l. expansion_step (expands l r.file r.defines) ≡ Ok text) → (x : Result (List ℕ) base.Refusal) → IfOk x (λ bytes. IsDone r.job text bytes) → IfOk x (λ bytes. IfSome told (λ l. Writes words l bytes))
  writes_files None expanded (Ok b) done = expanded
  writes_files (Some l) expanded (Ok b) done =
      record { request = r; text = text; asked = asked; expanded = expanded_is (expands l r.file r.defines) text expanded; done = done }
  writes_files told expanded (Err y) done = done
