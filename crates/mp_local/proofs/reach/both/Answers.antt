use Rattle.std.proofs.Common.{subst}
use Rattle.mp_local.specs.Reaches.{Reaches}
use Rattle.mp_local.proofs.ReachLaws.{reaches_both, reaches_second, reaches_first}
use Rattle.mp_local.proofs.reach.both.Goals as goal

pub returns-in-Err : goal.returns-in-Err
returns-in-Err c limit s rs qs x y = reaches_first limit s rs qs c.in-Err.far (subst (Reaches limit s rs) c.in-Err.is x)

pub returns-in-Ok-y : goal.returns-in-Ok-y
returns-in-Ok-y c limit s rs qs x y =
    reaches_both limit s rs qs c.in-Ok.a c.in-Ok-y.b c.joined.result c.joined.ensures (subst (Reaches limit s rs) c.in-Ok.is x) (subst (Reaches limit s qs) c.in-Ok-y.is y)

pub returns-in-Err-y : goal.returns-in-Err-y
returns-in-Err-y c limit s rs qs x y =
    reaches_second limit s rs qs c.in-Ok.a c.in-Err-y.far (subst (Reaches limit s rs) c.in-Ok.is x) (subst (Reaches limit s qs) c.in-Err-y.is y)
