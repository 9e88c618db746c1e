use Rattle.std.proofs.Common.{refl}
use Rattle.mp_local.proofs.ReachLaws.{sides_none, sides_some, same_reach}
use Rattle.mp_local.proofs.reach.equation_reach.Goals as goal

pub returns-in-None : goal.returns-in-None
returns-in-None c s knows =
    same_reach c.args.known.now.limit s _ _ _ (sides_none c.args.equation.now c.in-None.is) (c.expression_reach-left.ensures 0 s refl knows)

pub returns-in-Some : goal.returns-in-Some
returns-in-Some c s knows =
    same_reach c.args.known.now.limit s _ _ _ (sides_some c.args.equation.now c.in-Some.right c.in-Some.is)
    (c.both.ensures c.args.known.now.limit s _ _ (c.expression_reach-left.ensures 0 s refl knows) (c.expression_reach.ensures 0 s refl knows))
