use Rattle.std.proofs.Common.{ap, sym, ◌∙◌, Err}
use Rattle.mp_frac.specs.Stated.{product_outcome}
use Rattle.mp_frac.specs.Value.{value_of}
use Rattle.mp_frac.proofs.Quotients.{quotient_outcome-inverse, quotient_outcome-zero}
use Rattle.mp_frac.proofs.frac.Frac.div.Goals as goal

pub returns-in-Ok : goal.returns-in-Ok
returns-in-Ok c =
    let x = value_of c.args.self in
    let y = value_of c.args.other in
    c.mul.ensures ∙ ap (product_outcome x) c.in-Ok.ensures.1 ∙ sym (quotient_outcome-inverse x y c.in-Ok.ensures.0)

pub returns-in-Err : goal.returns-in-Err
returns-in-Err c =
    ap Err c.in-Err.ensures.0 ∙ sym (quotient_outcome-zero (value_of c.args.self) (value_of c.args.other) c.in-Err.ensures.1)
