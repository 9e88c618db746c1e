-- Sums of atoms pass the test.
use Rattle.std.proofs.Common.{◌≡◌, true, refl}
use Rattle.mp_tokens.specs.Terminals.{terminal_of, word_of}
use Rattle.mp_format.specs.Format.{told, empty, first, goes_on}
use Rattle.mp_expressions.specs.Productions.{Whole}
use Rattle.mp_expressions.specs.Expressions.{shift, fenced, closed, inside, pair, flat_atom, atom, factor, times, product, plus, sum}

pub flat_told : told (sum flat_atom) ≡ true
unfolding terminal_of word_of told empty first goes_on shift fenced closed inside pair flat_atom atom factor times product plus sum
flat_told = refl

pub sum_told : (e : Whole) → told (sum (atom e)) ≡ true
unfolding terminal_of word_of told empty first goes_on shift fenced closed inside pair flat_atom atom factor times product plus sum
sum_told e = refl
