use Rattle.std.proofs.Common.{refl, rules, arith}
use Rattle.mp_shift.proofs.Firsts.{begun_more}
use Rattle.mp_shift.proofs.first.firsts_from.Goals as goal

pub turns-preserved : goal.turns-preserved
turns-preserved c =
    begun_more c.args.start c.args.reaches.now c.turns.found.items c.turns.place c.turns.index c.turns.invariant c.reach_at-reach.result c.reach_at-reach.ensures _ _ _ c.in_ok-push.ensures.items refl (search rules) (search rules) (omega arith) (omega arith)
