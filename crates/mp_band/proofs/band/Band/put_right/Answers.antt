use Rattle.std.proofs.Common.{◌-◌}
use Rattle.mp_sheet.specs.Layout.{system_of}
use Rattle.mp_sheet.proofs.Places.{sheet_within}
use Rattle.mp_band.proofs.Rows.{row_kept, right_blocks, right_shape}
use Rattle.mp_band.proofs.band.Band.put_right.Goals as goal

pub set_right-requires : goal.set_right-requires
set_right-requires c =
    row_kept c.self.inside.periods c.self.inside.size (system_of c.self.inside.sheet) c.self.inside.sheet.form c.args.self.now c.args.row c.self.view_is c.self.invariant c.requires.from c.requires.row

pub returns-clause-entry : goal.returns-clause-entry
returns-clause-entry c =
    right_blocks c.self.inside.periods c.self.inside.size (system_of c.self.inside.sheet) (system_of c.set_right.new.self) c.args.self.now c.args.row c.args.value c.self.view_is c.set_right.ensures.system c.requires.from c.requires.row

pub returns-clause-shape : goal.returns-clause-shape
returns-clause-shape c h =
    right_shape c.self.inside.periods c.self.inside.size c.self.inside.sheet.form.count (system_of c.self.inside.sheet) (system_of c.set_right.new.self) c.args.self.now (c.args.row - 1) c.args.value c.self.view_is c.self.invariant.count
    (row_kept c.self.inside.periods c.self.inside.size (system_of c.self.inside.sheet) c.self.inside.sheet.form c.args.self.now c.args.row c.self.view_is c.self.invariant c.requires.from c.requires.row)
    (sheet_within c.self.inside.sheet c.count-full.ensures.full) c.set_right.ensures.system h
