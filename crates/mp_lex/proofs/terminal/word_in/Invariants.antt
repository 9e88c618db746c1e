use Rattle.std.proofs.Common.{◌≡◌, map, drop}
use Rattle.mp_tokens.specs.declared.terminal.Terminal.TheVariants as t
use Rattle.mp_tokens.specs.Terminals.{word_in}
use Rattle.mp_lex.proofs.terminal.word_in.Given as goal

abbrev pub invariant-loop-word : goal.invariant-loop-word
invariant-loop-word l =
    word_in (map (λ w. (w.0.now, w.1)) (drop l.word-index l.words)) t.Name l.text ≡ word_in (map (λ w. (w.0.now, w.1)) l.words) t.Name l.text
