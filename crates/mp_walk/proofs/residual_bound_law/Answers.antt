use Rattle.mp_walk.specs.Cells.{environment_of}
use Rattle.mp_walk.specs.Instances.{residual_val}
use Rattle.mp_walk.proofs.Boxes.{bounded}
use Rattle.mp_walk.proofs.residual_bound_law.Goals as goal

pub returns : goal.returns
returns c e p g t i plain ok = bounded c.bound_law.ensures (residual_val e (environment_of g) t p) i (c.residual_law.ensures e p g t i plain ok)
