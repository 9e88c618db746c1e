use Rattle.std.proofs.Common.{◌≡◌, ◌+◌, length}
use Rattle.modpath.proofs.words.words_of.Given as goal

abbrev pub invariant-words : goal.invariant-words
invariant-words l = length l.words + 1 ≡ l.number
