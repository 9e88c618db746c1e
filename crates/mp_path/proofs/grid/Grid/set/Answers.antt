use Rattle.std.proofs.Common.{◌≡◌, ◌∙◌, ◌-◌, ◌<◌, ap, sym, subst, arith, ℕ}
use Rattle.mp_path.specs.Points.{Points, point_of, slot_place}
use Rattle.mp_path.proofs.Parts.{point_other, with_units}
use Rattle.mp_path.proofs.grid.Grid.set.Goals as goal

pub returns-clause-others : goal.returns-clause-others
returns-clause-others c x u ne =
    let g : Points = record { edges = c.self.inside.boundary; slots = c.self.inside.slots; units = c.self.inside.units.items } in
    let v : g ≡ c.args.self.now = c.self.view_is in
    let below : c.args.slot - 1 < g.slots = subst (λ (h : Points). c.args.slot - 1 < h.slots) (sym v) (omega (arith, c.requires.slot.0, c.requires.slot.1)) in
    let at : c.place-at.result ≡ slot_place g.slots c.args.t (c.args.slot - 1) = c.place-at.ensures.value ∙ ap (λ (h : Points). slot_place h.slots c.args.t (c.args.slot - 1)) (sym v) in
    ap (λ (i : ℕ). point_of (with_units g i c.args.value) x u) at
    ∙ (point_other g c.args.t (c.args.slot - 1) c.args.value x u c.requires.period.0 below ne
    ∙ ap (λ (h : Points). point_of h x u) v)
