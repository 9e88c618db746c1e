use Rattle.std.proofs.Common.{ap, ◌∙◌}
use Rattle.std.proofs.lemmas.Result.{IfErr-weaker, IfOk-weaker}
use Rattle.clap.specs.Walk.{texts}
use Rattle.clap.specs.Words.{is_simple, matches_of, takes}
use Rattle.mp_words.proofs.Walk.{takes-all, held-all, held, held-rows}
use Rattle.mp_words.proofs.Requests.{right-taken}
use Rattle.mp_words.proofs.command.matches_of.Goals as goal

pub returns-clause-words : goal.returns-clause-words
returns-clause-words c =
    let words = texts c.args.words.now in
    let app_is = c.in_ok-command.ensures in
    IfOk-weaker c.try_get_matches_from.result _ _ (λ m h. held-rows m ∙ ap held ((h (ap is_simple app_is)).0 ∙ ap (λ a. matches_of a words) app_is) ∙ held-all words (right-taken words c.requires)) c.try_get_matches_from.ensures.matches

pub returns-clause-memory : goal.returns-clause-memory
returns-clause-memory c =
    let words = texts c.args.words.now in
    IfErr-weaker c.try_get_matches_from.result _ _ (λ e h. h (ap (λ a. takes a words) c.in_ok-command.ensures ∙ takes-all words (right-taken words c.requires))) c.try_get_matches_from.ensures.passes
