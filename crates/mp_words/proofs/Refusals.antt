-- The word at which words are refused is the first with which no list that is read begins.
use Rattle.std.proofs.Common.{◌≡◌, ◌∙◌, ◌+◌, ◌<◌, ◌⊎◌, inl, inr, ℕ, zero, suc, Bool, true, false, refl, sym, ap, arith, List, [], ◌∷◌, ◌++◌, append-nil, length, take, Option, Some, None, Result, Ok, Err, if◌then◌else◌, codes}
use Rattle.mp_base.specs.declared.job.Job.{Job}
use Rattle.mp_base.specs.declared.job.Job.TheVariants as j
use Rattle.mp_mvalue.specs.declared.defines.Define.{Define}
use Rattle.mp_words.specs.Refusals.{Begins, IsWrong, IsMissing}
use Rattle.mp_words.specs.Words.{Request, default_request, request, job_of, is_file, define_of, with_define, define_or, defines_of, file_then, job_then, request_of}

-- where definitions are refused: those before the wrong word are read, and whatever follows it is refused there
record WrongDefine (at room : ℕ) (words : List (List ℕ)) (word : ℕ) : Type 0 where
  before : ℕ
  number : word ≡ at + before
  within : before < length words
  read : List Define
  goes_on : defines_of at room (take before words) ≡ Ok read
  stops : (more : List (List ℕ)) → defines_of at room (take (suc before) words ++ more) ≡ Err word

with_define-wrong : (d : Define) (r : Result (List Define) ℕ) (word : ℕ) → with_define d r ≡ Err word → r ≡ Err word
with_define-wrong d (Ok ds) word e = cc
with_define-wrong d (Err at) word e = e

defines-wrong : (at room : ℕ) (words : List (List ℕ)) (word : ℕ) → defines_of at room words ≡ Err word → WrongDefine at room words word
defines-wrong at room [] word e = cc
defines-wrong at zero (w ∷ ws) word e =
    record {
      before = 0;
      number = let same : at ≡ word = cc in omega (arith, same);
      within = omega arith;
      read = [];
      goes_on = refl;
      stops = λ more. e;
    }
defines-wrong at (suc room) (w ∷ ws) word e = by (define_of w) refl e (defines-wrong (at + 1) room ws word)
  where
    by : (o : Option Define) → define_of w ≡ o → define_or at o (defines_of (at + 1) room ws) ≡ Err word → (defines_of (at + 1) room ws ≡ Err word → WrongDefine (at + 1) room ws word) → WrongDefine at (suc room) (w ∷ ws) word
    by None is e further =
        record {
          before = 0;
          number = let same : at ≡ word = cc in omega (arith, same);
          within = omega arith;
          read = [];
          goes_on = refl;
          stops = λ more. ap (λ o. define_or at o (defines_of (at + 1) room more)) is ∙ e;
        }
    by (Some d) is e further =
        let rest = further (with_define-wrong d (defines_of (at + 1) room ws) word e) in
        record {
          before = suc rest.before;
          number = omega (arith, rest.number);
          within = omega (arith, rest.within);
          read = d ∷ rest.read;
          goes_on = ap (λ o. define_or at o (defines_of (at + 1) room (take rest.before ws))) is ∙ ap (with_define d) rest.goes_on;
          stops = λ more. ap (λ o. define_or at o (defines_of (at + 1) room (take (suc rest.before) ws ++ more))) is ∙ ap (with_define d) (rest.stops more);
        }

-- an ending that makes a list read
nothing-begins : Begins []
nothing-begins = (codes "expand" ∷ codes "m" ∷ [], default_request j.Expand (codes "m") [], refl)

job-begins : (w : List ℕ) (job : Job) → job_of w ≡ Some job → Begins (w ∷ [])
job-begins w job is = (codes "m" ∷ [], default_request job (codes "m") [], ap (λ o. job_then o (codes "m" ∷ [])) is)

request-wrong : (job : Job) (file : List ℕ) (r : Result (List Define) ℕ) (word : ℕ) → request job file r ≡ Err word → r ≡ Err word
request-wrong job file (Ok ds) word e = cc
request-wrong job file (Err at) word e = let same : at ≡ word = cc in ap Err same

-- what is read of a job and a file, whatever follows
request-is : (w f : List ℕ) (job : Job) (ds : List (List ℕ)) → job_of w ≡ Some job → is_file f ≡ true → request_of (w ∷ f ∷ ds) ≡ request job f (defines_of 3 1000 ds)
request-is w f job ds job_is file_is =
    ap (λ o. job_then o (f ∷ ds)) job_is ∙ ap (λ (b : Bool). if b then request job f (defines_of 3 1000 ds) else Err 2) file_is

never : (r : Request) (word : ℕ) (x : Result Request ℕ) → x ≡ Ok r → x ≡ Err word → ⊥
never r word x ok err = let e : Ok r ≡ Err word = sym ok ∙ err in cc

pub refused-where : (words : List (List ℕ)) (word : ℕ) → request_of words ≡ Err word → IsWrong words word ⊎ IsMissing words word
refused-where [] word e = inr (record { number = let same : 1 ≡ word = cc in omega (arith, same); goes_on = nothing-begins })
refused-where (w ∷ ws) word e = by_job (job_of w) refl e
  where
    by_define : (job : Job) (f : List ℕ) (ds : List (List ℕ)) → job_of w ≡ Some job → is_file f ≡ true → WrongDefine 3 1000 ds word → IsWrong (w ∷ f ∷ ds) word
    by_define job f ds job_is file_is wrong =
        record {
          before = suc (suc wrong.before);
          number = omega (arith, wrong.number);
          within = omega (arith, wrong.within);
          goes_on = ([], default_request job f wrong.read, ap request_of (append-nil (w ∷ f ∷ take wrong.before ds)) ∙ request-is w f job (take wrong.before ds) job_is file_is ∙ ap (request job f) wrong.goes_on);
          stops = λ b. never b.1 word _ b.2 (request-is w f job (take (suc wrong.before) ds ++ b.0) job_is file_is ∙ ap (request job f) (wrong.stops b.0));
        }

    by_file : (job : Job) (f : List ℕ) (ds : List (List ℕ)) (b : Bool) → job_of w ≡ Some job → is_file f ≡ b → (if b then request job f (defines_of 3 1000 ds) else Err 2) ≡ Err word → IsWrong (w ∷ f ∷ ds) word
    by_file job f ds true job_is is e =
        by_define job f ds job_is is (defines-wrong 3 1000 ds word (request-wrong job f (defines_of 3 1000 ds) word e))
    by_file job f ds false job_is is e =
        record {
          before = 1;
          number = let same : 2 ≡ word = cc in omega (arith, same);
          within = omega arith;
          goes_on = job-begins w job job_is;
          stops = λ b. never b.1 2 _ b.2 (ap (λ o. job_then o (f ∷ b.0)) job_is ∙ ap (λ (x : Bool). if x then request job f (defines_of 3 1000 b.0) else Err 2) is);
        }

    by_rest : (job : Job) (rest : List (List ℕ)) → job_of w ≡ Some job → file_then job rest ≡ Err word → IsWrong (w ∷ rest) word ⊎ IsMissing (w ∷ rest) word
    by_rest job [] job_is e = inr (record { number = let same : 2 ≡ word = cc in omega (arith, same); goes_on = job-begins w job job_is })
    by_rest job (f ∷ ds) job_is e = inl (by_file job f ds (is_file f) job_is refl e)

    by_job : (o : Option Job) → job_of w ≡ o → job_then o ws ≡ Err word → IsWrong (w ∷ ws) word ⊎ IsMissing (w ∷ ws) word
    by_job None is e =
        inl (record {
          before = 0;
          number = let same : 1 ≡ word = cc in omega (arith, same);
          within = omega arith;
          goes_on = nothing-begins;
          stops = λ b. never b.1 1 _ b.2 (ap (λ o. job_then o b.0) is);
        })
    by_job (Some job) is e = by_rest job ws is e
