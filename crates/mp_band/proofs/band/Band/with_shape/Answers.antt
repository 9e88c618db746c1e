use Rattle.mp_band.proofs.Rows.{nothing_blocks, zeros_shape}
use Rattle.mp_band.proofs.band.Band.with_shape.Goals as goal

pub returns-clause-zero : goal.returns-clause-zero
returns-clause-zero c = nothing_blocks c.args.periods c.args.size _ c.in_ok-sheet.ensures.zero

pub returns-clause-shape : goal.returns-clause-shape
returns-clause-shape c = zeros_shape c.args.periods c.args.size _ c.in_ok-sheet.ensures.zero
