-- No token of an expression runs into the next.
use Rattle.std.proofs.Common.{◌≡◌, true, false, refl}
use Rattle.mp_tokens.specs.declared.terminal.Terminal.TheVariants as t
use Rattle.mp_tokens.specs.Terminals.{terminal_of, word_of}
use Rattle.mp_format.specs.Format.{empty, many}
use Rattle.mp_format.specs.Notation.{of, ◌⊗◌}
use Rattle.mp_format.specs.Spelling.{opens, closes, spaced}
use Rattle.mp_expressions.specs.Productions.{Whole, name, expr}
use Rattle.mp_expressions.specs.Expressions.{shift, fenced, closed, inside, pair, flat_atom, atom, factor, times, product, plus, sum}

pub flat_spaced : spaced (sum flat_atom) ≡ true
unfolding terminal_of word_of spaced empty opens closes shift fenced closed inside pair flat_atom atom factor times product plus sum
flat_spaced = refl

pub sum_spaced : (e : Whole) → spaced (sum (atom e)) ≡ true
unfolding terminal_of word_of spaced empty opens closes shift fenced closed inside pair flat_atom atom factor times product plus sum
sum_spaced e = refl

-- names without blanks, and digits before letters, are found
run_together : spaced (many name) ≡ false
unfolding terminal_of word_of spaced empty opens closes
run_together = refl

slashes : spaced (of t.Slash ⊗ of t.Star) ≡ false
unfolding terminal_of word_of spaced empty opens closes
slashes = refl

digits_letters : (e : Whole) → spaced (of t.Whole ⊗ expr e) ≡ false
unfolding terminal_of word_of spaced empty opens closes
digits_letters e = refl
