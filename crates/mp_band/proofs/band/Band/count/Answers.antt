use Rattle.mp_band.proofs.Rows.{blocks_count, blocks_rows, blocks_square}
use Rattle.mp_band.proofs.band.Band.count.Goals as goal

pub returns-clause-value : goal.returns-clause-value
returns-clause-value c = blocks_count _ _ _ _ c.self.view_is

pub returns-clause-rows : goal.returns-clause-rows
returns-clause-rows c = blocks_rows _ _ _ _ c.self.view_is

pub returns-clause-square : goal.returns-clause-square
returns-clause-square c = blocks_square _ _ _ _ c.self.view_is
