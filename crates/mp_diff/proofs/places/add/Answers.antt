use Rattle.std.proofs.Common.{ap, ◌∙◌, map}
use Rattle.mp_diff.specs.Places.{place_shown}
use Rattle.mp_diff.proofs.Noted.{inserted, place_order, same_order}
use Rattle.mp_diff.proofs.places.add.Goals as goal

pub returns-in-Ok : goal.returns-in-Ok
unfolding place_order
returns-in-Ok c =
    ap (map place_shown) c.in-Ok.ensures.keys
    ∙ inserted place_order (λ p q. same_order p.exogenous q.exogenous p.number q.number p.shift q.shift) c.args.found.now.keys c.args.place
