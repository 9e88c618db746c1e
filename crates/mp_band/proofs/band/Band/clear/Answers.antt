use Rattle.mp_band.proofs.Rows.{blocks_zeros, zeros_shape}
use Rattle.mp_band.proofs.band.Band.clear.Goals as goal

pub returns-clause-zero : goal.returns-clause-zero
returns-clause-zero c = blocks_zeros c.self.inside.periods c.self.inside.size _ _ _ c.self.view_is c.clear.ensures.zero

pub returns-clause-shape : goal.returns-clause-shape
returns-clause-shape c = zeros_shape c.self.inside.periods c.self.inside.size _ c.clear.ensures.zero
