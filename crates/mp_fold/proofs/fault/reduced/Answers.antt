use Rattle.std.proofs.Common.{ap, ◌∙◌}
use Rattle.mp_frac.specs.Value.{value_of}
use Rattle.mp_fold.specs.Reported.{fraction_of}
use Rattle.mp_fold.proofs.Reported.{parts_stand}
use Rattle.mp_fold.proofs.fault.reduced.Goals as goal

pub returns : goal.returns
returns c = ap fraction_of c.of.ensures ∙ parts_stand (value_of c.args.x) c.parts.result c.parts.ensures.numerator c.parts.ensures.denominator
