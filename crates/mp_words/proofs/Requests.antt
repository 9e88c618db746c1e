-- What the command takes: words of which none is wrong.
use Rattle.std.proofs.Common.{◌≡◌, ◌∙◌, ◌≤◌, ◌+◌, ℕ, zero, suc, Bool, true, false, refl, sym, ap, arith, List, [], ◌∷◌, length, Option, Some, None, Result, Ok, Err, if◌then◌else◌, true≢false}
use Rattle.std.specs.Prelude.{is_some, position, codes, bytes_eq, IfSome, IfOk}
use Rattle.std.specs.List.{list_any}
use Rattle.mp_base.specs.declared.job.Job.{Job}
use Rattle.mp_base.specs.declared.job.Job.TheVariants as j
use Rattle.mp_mvalue.specs.declared.defines.Define.{Define}
use Rattle.mp_words.specs.Shown.{wrong_of}
use Rattle.mp_words.specs.Words.{Request, IsBuilt, default_request, job_of, is_file, define_of, define_at, is_equals, defines_of, define_or, file_then, job_then, request, request_of}
use Rattle.mp_words.proofs.Walk.{AreTaken, has_dash}
use Rattle.mp_words.proofs.Defines.{wrong-one}

-- ---- a word with a '-' at its front is no job, no file and no definition

job-dash : (word : List ℕ) → has_dash word ≡ true → job_of word ≡ None
job-dash [] h = refl
job-dash (b ∷ bs) h = let is : b ≡ 45 = grind (arith, h) in rw is refl

file-dash : (word : List ℕ) → has_dash word ≡ true → is_file word ≡ false
file-dash [] h = refl
file-dash (b ∷ bs) h = rw h refl

define-dash : (word : List ℕ) → has_dash word ≡ true → define_of word ≡ None
define-dash [] h = refl
define-dash (b ∷ bs) h = let is : b ≡ 45 = grind (arith, h) in rw is (go (position is_equals (45 ∷ bs)))
  where
    go : (o : Option ℕ) → define_at (45 ∷ bs) o ≡ None
    go None = refl
    go (Some zero) = refl
    go (Some (suc n)) = refl

-- so no such word is accepted
no-dash : (word : List ℕ) (b : Bool) → has_dash word ≡ b → (has_dash word ≡ true → ⊥) → has_dash word ≡ false
no-dash word true is h = absurd (h is)
no-dash word false is h = is

right-defines : (at room : ℕ) (ws : List (List ℕ)) → wrong_of (defines_of at room ws) ≡ None → (list_any has_dash ws ≡ false) × (length ws ≤ room)
right-defines at room [] h = (refl, omega arith)
right-defines at zero (w ∷ ws) h = absurd (true≢false (ap is_some h))
right-defines at (suc room) (w ∷ ws) h = go (define_of w) refl h (right-defines (at + 1) room ws)
  where
    go : (o : Option Define) → define_of w ≡ o → wrong_of (define_or at o (defines_of (at + 1) room ws)) ≡ None
        → (wrong_of (defines_of (at + 1) room ws) ≡ None → (list_any has_dash ws ≡ false) × (length ws ≤ room)) → (list_any has_dash (w ∷ ws) ≡ false) × (length (w ∷ ws) ≤ suc room)
    go None is wrong more = absurd (true≢false (ap is_some wrong))
    go (Some d) is wrong more =
        let rest = more (sym (wrong-one d (defines_of (at + 1) room ws)) ∙ wrong) in
        let plain : has_dash w ≡ false = no-dash w (has_dash w) refl (λ dash. true≢false (sym (ap is_some (sym (define-dash w dash) ∙ is)))) in
        (rw plain rest.0, omega (arith, rest.1))

wrong-request : (job : Job) (file : List ℕ) (r : Result (List Define) ℕ) → wrong_of (request job file r) ≡ wrong_of r
wrong-request job file (Ok ds) = refl
wrong-request job file (Err at) = refl

-- words of which none is wrong are taken by the command
pub right-taken : (words : List (List ℕ)) → wrong_of (request_of words) ≡ None → AreTaken words
right-taken [] h = absurd (true≢false (ap is_some h))
right-taken (w ∷ ws) h = by_job (job_of w) refl h
  where
    by_file : (job : Job) (f : List ℕ) (ds : List (List ℕ)) (b : Bool) → has_dash w ≡ false → is_file f ≡ b → wrong_of (if b then request job f (defines_of 3 1000 ds) else Err 2) ≡ None → AreTaken (w ∷ f ∷ ds)
    by_file job f ds false plain is wrong = absurd (true≢false (ap is_some wrong))
    by_file job f ds true plain is wrong =
        let defines = right-defines 3 1000 ds (sym (wrong-request job f (defines_of 3 1000 ds)) ∙ wrong) in
        (plain, no-dash f (has_dash f) refl (λ dash. true≢false (sym is ∙ file-dash f dash)), defines.0, defines.1)

    by_rest : (job : Job) (ws : List (List ℕ)) → has_dash w ≡ false → wrong_of (file_then job ws) ≡ None → AreTaken (w ∷ ws)
    by_rest job [] plain wrong = absurd (true≢false (ap is_some wrong))
    by_rest job (f ∷ ds) plain wrong = by_file job f ds (is_file f) plain refl wrong

    by_job : (o : Option Job) → job_of w ≡ o → wrong_of (job_then o ws) ≡ None → AreTaken (w ∷ ws)
    by_job None is wrong = absurd (true≢false (ap is_some wrong))
    by_job (Some job) is wrong = by_rest job ws (no-dash w (has_dash w) refl (λ dash. true≢false (sym (ap is_some (sym (job-dash w dash) ∙ is))))) wrong

-- ---- what is asked for

-- the request of a job, a file and definitions, where no word is wrong
pub request-made : (w f : List ℕ) (ds : List (List ℕ)) (job : Job) (defines : List Define) → wrong_of (request_of (w ∷ f ∷ ds)) ≡ None → job_of w ≡ Some job → defines_of 3 1000 ds ≡ Ok defines
    → request_of (w ∷ f ∷ ds) ≡ Ok (default_request job f defines)
request-made w f ds job defines right job_is defines_is =
    ap (λ o. job_then o (f ∷ ds)) job_is ∙ by_file (is_file f) (sym (ap (λ o. wrong_of (job_then o (f ∷ ds))) job_is) ∙ right) ∙ ap (request job f) defines_is
  where
    by_file : (b : Bool) → wrong_of (if b then request job f (defines_of 3 1000 ds) else Err 2) ≡ None → (if b then request job f (defines_of 3 1000 ds) else Err 2) ≡ request job f (defines_of 3 1000 ds)
    by_file true right = refl
    by_file false right = absurd (true≢false (ap is_some right))

job-built : (word : List ℕ) → IfSome (job_of word) IsBuilt
job-built word = go (bytes_eq word (codes "expand")) (bytes_eq word (codes "transform")) (bytes_eq word (codes "derive"))
  where
    go : (a b c : Bool) → IfSome (if a then Some j.Expand else if b then Some j.Transform else if c then Some j.Derive else None) IsBuilt
    go true b c = tt
    go false true c = tt
    go false false true = tt
    go false false false = tt

file-short : (word : List ℕ) → is_file word ≡ true → length word ≤ 128
file-short word h = grind arith

-- a job that is built, and a file whose name is short
abbrev pub IsShort : Request → Type 0
IsShort r = IsBuilt r.job × (length r.file ≤ 128)

pub asked : (words : List (List ℕ)) → IfOk (request_of words) IsShort
asked [] = tt
asked (w ∷ ws) = by_job (job_of w) (job-built w)
  where
    by_defines : (job : Job) (f : List ℕ) (r : Result (List Define) ℕ) → IsBuilt job → is_file f ≡ true → IfOk (request job f r) IsShort
    by_defines job f (Ok ds) built is = (built, file-short f is)
    by_defines job f (Err at) built is = tt

    by_file : (job : Job) (f : List ℕ) (ds : List (List ℕ)) (b : Bool) → IsBuilt job → is_file f ≡ b → IfOk (if b then request job f (defines_of 3 1000 ds) else Err 2) IsShort
    by_file job f ds false built is = tt
    by_file job f ds true built is = by_defines job f (defines_of 3 1000 ds) built is

    by_rest : (job : Job) (ws : List (List ℕ)) → IsBuilt job → IfOk (file_then job ws) IsShort
    by_rest job [] built = tt
    by_rest job (f ∷ ds) built = by_file job f ds (is_file f) built refl

    by_job : (o : Option Job) → IfSome o IsBuilt → IfOk (job_then o ws) IsShort
    by_job None built = tt
    by_job (Some job) built = by_rest job ws built
