use Rattle.std.proofs.Common.{◌≡◌, ◌<◌, length, ap, sym, subst, ◌∙◌}
use Rattle.mp_sheet.specs.Layout.{Layout, IsKept, place_of, system_of}
use Rattle.mp_elim.specs.Elimination.{put}
use Rattle.mp_sheet.proofs.Places.{set_place}
use Rattle.mp_sheet.proofs.sheet.Sheet.set_from.Goals as goal

pub returns-clause-system : goal.returns-clause-system
returns-clause-system c =
    let l : Layout = record { form = record { block = c.self.inside.block; lead = c.self.inside.lead; width = c.self.inside.width; count = length c.self.inside.right.items }; places = c.self.inside.places.items; right = c.self.inside.right.items } in
    let v : l ≡ c.args.self.now = c.self.view_is in
    set_place l c.args.i c.args.k c.place_from-at.result c.args.x
    (subst (λ (m : Layout). IsKept m.form c.args.i c.args.k) (sym v) c.requires.kept)
    (subst (λ (m : Layout). c.place_from-at.result ≡ place_of m.form c.args.i c.args.k) (sym v) c.place_from-at.ensures.value)
    (subst (λ (m : Layout). c.place_from-at.result < length m.places) (sym v) c.place_from-at.ensures.inside)
    ∙ ap (λ (m : Layout). put (system_of m) c.args.i c.args.k c.args.x) v
