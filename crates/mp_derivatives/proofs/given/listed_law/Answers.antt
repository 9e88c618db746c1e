use Rattle.std.proofs.Common.{arith}
use Rattle.mp_solutions.specs.Transformed.{transformed}
use Rattle.mp_grammar.proofs.TextForms.{text_form}
use Rattle.mp_derivatives.proofs.given.listed_law.Goals as goal

pub returns : goal.returns
returns c = λ text ts file M lexed reads given low free.
    let prints = c.printable_law.ensures 500 file M (text_form text ts file lexed reads) (c.limits_law.ensures.model file M given) low in
    c.derivatives_law.ensures 500 (transformed M) (c.transformed_law.ensures 500 M prints free (omega arith))
