use Rattle.std.proofs.Common.{ℤ, ap, sym, ◌∙◌, Some}
use Rattle.mp_sheet.specs.Layout.{system_of}
use Rattle.mp_band.proofs.Rows.{row_kept, blocks_answer}
use Rattle.mp_band.proofs.band.Band.answer.Goals as goal

pub right-requires : goal.right-requires
right-requires c =
    row_kept c.self.inside.periods c.self.inside.size (system_of c.self.inside.sheet) c.self.inside.sheet.form c.args.self.now c.args.column c.self.view_is c.self.invariant c.requires.from c.requires.column

pub returns : goal.returns
returns c =
    blocks_answer c.self.inside.periods c.self.inside.size (system_of c.self.inside.sheet) c.args.self.now c.args.column c.self.view_is c.requires.from c.requires.column
    ∙ ap (λ (x : ℤ). Some x) (sym c.right.ensures)
