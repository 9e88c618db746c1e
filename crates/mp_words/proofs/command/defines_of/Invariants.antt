use Rattle.std.proofs.Common.{◌≡◌, None}
use Rattle.clap.specs.Walk.{texts}
use Rattle.mp_words.specs.Shown.{wrong_of}
use Rattle.mp_words.proofs.Defines.{from, after}
use Rattle.mp_words.proofs.command.defines_of.Given as goal

abbrev pub invariant-loop-word : goal.invariant-loop-word
invariant-loop-word l = record {
  right : wrong_of (from 3 1000 (texts l.words) l.word-index) ≡ None;
  told : after l.defines (from 3 1000 (texts l.words) l.word-index) ≡ from 3 1000 (texts l.words) 0;
}
