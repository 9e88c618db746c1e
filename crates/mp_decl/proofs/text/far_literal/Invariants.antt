use Rattle.std.proofs.Common.{◌≡◌, map, drop}
use Rattle.mp_tokens.specs.Literals.{far_literal}
use Rattle.mp_lex.specs.Shown.{tok_of}
use Rattle.mp_decl.proofs.text.far_literal.Given as goal

abbrev pub invariant-turns : goal.invariant-turns
invariant-turns l = far_literal (map tok_of (drop l.token-index l.token-items)) ≡ far_literal (map tok_of l.token-items)
