use Rattle.std.proofs.Common.{◌≡◌, ◌∙◌, ap, sym, refl, List, [], Option, Some, None, Ok, codes}
use Rattle.std.specs.Borrow.{Bor}
use Rattle.std.specs.Prelude.{unwrap_or, option_map}
use Rattle.clap.specs.Walk.{Text, texts}
use Rattle.mp_words.specs.Command.{word_in, all_words_in}
use Rattle.mp_words.specs.Words.{job_of, defines_of, default_request}
use Rattle.mp_words.proofs.Requests.{request-made}
use Rattle.mp_words.proofs.command.request_in.Goals as goal

texts-or : (o : Option (Bor (List (Bor Text)))) (d : Bor (List (Bor Text))) → texts (unwrap_or o d).now ≡ unwrap_or (option_map (λ s. texts s.now) o) (texts d.now)
texts-or None d = refl
texts-or (Some s) d = refl

pub returns : goal.returns
returns c =
    let m = c.args.matches.now in
    let job = c.unwrap-job.result in
    let defines = c.in_ok-defines.defines in
    let job_is : job_of (word_in m (codes "job")) ≡ Some job = sym (ap job_of c.word_in.ensures) ∙ sym c.job_of.ensures ∙ c.unwrap-job.ensures in
    let file_is : word_in m (codes "file") ≡ c.in_ok-file.file = sym c.word_in-2.ensures ∙ sym c.in_ok-file.ensures in
    let all_is : texts c.unwrap_or.result.now ≡ all_words_in m (codes "defines") = ap (λ s. texts s.now) c.unwrap_or.ensures ∙ texts-or c.get_strs.result _ ∙ ap (λ o. unwrap_or o []) c.get_strs.ensures in
    let defines_is : defines_of 3 1000 (all_words_in m (codes "defines")) ≡ Ok defines = sym (ap (defines_of 3 1000) all_is) ∙ c.in_ok-defines.ensures in
    request-made (word_in m (codes "job")) (word_in m (codes "file")) (all_words_in m (codes "defines")) job defines c.requires job_is defines_is
    ∙ ap (λ f. Ok (default_request job f defines)) file_is ∙ ap Ok (sym c.with_defaults.ensures)
