use Rattle.std.proofs.Common.{ℕ, ℤ, ◌≤◌, List, get_or, ap, subst, pos}
use Rattle.std.specs.Int.RustNames.{unsigned_abs}
use Rattle.mp_fix.specs.Units.{most}
use Rattle.mp_sheet.specs.Layout.{Layout}
use Rattle.mp_sheet.proofs.Stops.{has_limit}
use Rattle.mp_sheet.proofs.sheet.Sheet.limited.Goals as goal

pub returns : goal.returns
returns c =
    has_limit c.args.self.now (subst (λ (ys : List ℤ). (i : ℕ) → unsigned_abs (get_or ys i (pos 0)) ≤ most) (ap (λ (l : Layout). l.places) c.self.view_is) c.self.invariant.limited)
