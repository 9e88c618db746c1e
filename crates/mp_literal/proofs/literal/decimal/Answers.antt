use Rattle.std.proofs.Common.{ap, ◌∙◌}
use Rattle.mp_tokens.specs.Literals.{decimal_of}
use Rattle.mp_literal.specs.Accepted.{accepted}
use Rattle.mp_literal.proofs.Cuts.{decimal_of-parts}
use Rattle.mp_literal.proofs.Told.{told}
use Rattle.mp_literal.proofs.literal.decimal.Goals as goal

pub returns-clause-some : goal.returns-clause-some
returns-clause-some c =
    let p = c.parts_of-parts.ensures in
    (told c.decimal_of_parts.result (decimal_of c.args.literal.now) (c.decimal_of_parts.ensures ∙ ap accepted (decimal_of-parts _ _ _ _ p.whole p.fraction p.exponent))).some

pub returns-clause-m : goal.returns-clause-m
returns-clause-m c =
    let p = c.parts_of-parts.ensures in
    (told c.decimal_of_parts.result (decimal_of c.args.literal.now) (c.decimal_of_parts.ensures ∙ ap accepted (decimal_of-parts _ _ _ _ p.whole p.fraction p.exponent))).m

pub returns-clause-s : goal.returns-clause-s
returns-clause-s c =
    let p = c.parts_of-parts.ensures in
    (told c.decimal_of_parts.result (decimal_of c.args.literal.now) (c.decimal_of_parts.ensures ∙ ap accepted (decimal_of-parts _ _ _ _ p.whole p.fraction p.exponent))).s
