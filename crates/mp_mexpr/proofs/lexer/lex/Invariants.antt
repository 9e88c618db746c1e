use Rattle.std.proofs.Common.{◌≡◌, length}
use Rattle.mp_mexpr.specs.Tokens.{toks, before, tokens, tokens_from}
use Rattle.mp_mexpr.proofs.lexer.lex.Given as goal

abbrev pub invariant-turns : goal.invariant-turns
invariant-turns l = before (toks l.found) (tokens_from l.rest 0) ≡ tokens l.text

abbrev pub decreases-turns : goal.decreases-turns
decreases-turns l = length l.rest
