use Rattle.std.proofs.Common.{◌≡◌}
use Rattle.mp_words.specs.Shown.{wrong_of}
use Rattle.mp_words.proofs.Defines.{from}
use Rattle.mp_words.proofs.words.wrong_define.Given as goal

abbrev pub invariant-loop-before : goal.invariant-loop-before
invariant-loop-before l = wrong_of (from 1 1002 l.words l.before) ≡ wrong_of (from 1 1002 l.words 2)
