use Rattle.std.proofs.Common.{◌≡◌, ℤ, List, get_or, ap, subst}
use Rattle.mp_sheet.specs.Layout.{Layout}
use Rattle.mp_sheet.proofs.Places.{read_place}
use Rattle.mp_sheet.proofs.sheet.Sheet.get_from.Goals as goal

pub returns : goal.returns
returns c =
    read_place c.args.self.now c.args.i c.args.k c.place_from-at.result c.index.result.now c.requires.kept c.place_from-at.ensures.value c.place_from-at.ensures.inside
    (subst (λ (ys : List ℤ). c.index.result.now ≡ get_or ys c.place_from-at.result c.index.result.now) (ap (λ (l : Layout). l.places) c.self.view_is) c.index.ensures)
