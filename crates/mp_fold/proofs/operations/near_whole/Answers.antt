use Rattle.std.proofs.Common.{SFits, rules, sym, ap, ◌∙◌}
use mir.Syntax.{w8}
use Rattle.std.proofs.lemmas.Int.{to_z-of_z}
use Rattle.mp_rational.specs.Fraction.{whole}
use Rattle.mp_frac.specs.Value.{value_of}
use Rattle.mp_fold.proofs.Tens.{whole_by}
use Rattle.mp_fold.proofs.operations.near_whole.Goals as goal

pub returns-in-Some-clause-whole : goal.returns-in-Some-clause-whole
returns-in-Some-clause-whole c =
    let fits : SFits w8 c.in-Some.k = search rules in
    whole_by (value_of c.args.exponent) c.parts-parts.result.n c.parts-parts.result.d c.in-Some.k c.parts-parts.ensures.numerator c.parts-parts.ensures.denominator c.in-Some.ensures.given
    ∙ ap whole (sym (to_z-of_z w8 c.in-Some.k fits))
