use Rattle.std.proofs.Common.{◌+◌, take, sym, ◌∙◌, arith}
use Rattle.std.proofs.lemmas.Grind.{common_steps}
use Rattle.mp_mexpr.proofs.Lexing.{token_at-word}
use Rattle.mp_mexpr.specs.Tokens.{tok_of}
use Rattle.mp_mexpr.proofs.lexer.token_at.Goals as goal

pub returns-then-is_first-clause-value : goal.returns-then-is_first-clause-value
returns-then-is_first-clause-value c =
    token_at-word c.args.text.now (take (c.run_length-word.result + 1) c.args.text.now) c.in_ok-first.more.now c.in_ok-first.first.now c.run_length-word.result (tok_of c.word_of.result) c.in_ok-first.ensures.cases.0 (sym c.is_ascii_digit.ensures.value ∙ c.if-is_ascii_digit.false) (sym c.is_first.ensures ∙ c.if-is_first.true) c.run_length-word.ensures.value (grind (arith, common_steps, c.in_ok-first.ensures.cases.0)) c.word_of.ensures
