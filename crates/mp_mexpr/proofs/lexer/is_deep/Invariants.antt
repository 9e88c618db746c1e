use Rattle.std.proofs.Common.{◌≡◌, ◌≤◌, drop}
use Rattle.mp_mexpr.specs.Tokens.{toks, is_deep, deep_after}
use Rattle.mp_mexpr.proofs.lexer.is_deep.Given as goal

abbrev pub invariant-loop-token : goal.invariant-loop-token
invariant-loop-token l = record {
  opened : l.opened ≤ l.token-index;
  closed : l.closed ≤ l.token-index;
  told : deep_after l.opened l.closed (toks (drop l.token-index l.tokens)) ≡ is_deep (toks l.tokens);
}
