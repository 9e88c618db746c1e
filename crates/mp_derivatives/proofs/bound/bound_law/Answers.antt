use Rattle.mp_slopes.specs.Places.{places}
use Rattle.mp_derivatives.proofs.Bounded.{bounded}
use Rattle.mp_derivatives.proofs.bound.bound_law.Goals as goal

pub returns : goal.returns
returns c = λ i F. bounded i F (places F) (c.places_law.ensures.rising F)
