use Rattle.std.proofs.Common.{◌+◌, ap, sym, ◌∙◌, arith, Ok}
use Rattle.mp_frac.specs.Value.{value_of}
use Rattle.mp_frac.proofs.Powers.{product_times-zero, product_times-next, product_times-err}
use Rattle.mp_frac.proofs.frac.Frac.times.Goals as goal

pub loop-i-init : goal.loop-i-init
loop-i-init c = product_times-zero (value_of c.args.self) ∙ ap Ok (sym c.one-power.ensures)

pub loop-i-preserved : goal.loop-i-preserved
loop-i-preserved c =
    product_times-next (value_of c.args.self) (value_of c.loop-i.power) c.loop-i._i c.loop-i.invariant ∙ sym c.in-Ok.ensures

pub returns-in-Err : goal.returns-in-Err
returns-in-Err c =
    let x = value_of c.args.self in
    sym (product_times-err x (c.loop-i._i + 1) c.args.n c.in-Err.fault (omega (arith, c.loop-i-test.true))
    (product_times-next x (value_of c.loop-i.power) c.loop-i._i c.loop-i.invariant ∙ sym c.in-Err.ensures))
