use Rattle.std.proofs.Common.{rules, ◌≡◌, ◌≤ℤ◌, ◌∙◌, ap, pos, false}
use Rattle.std.specs.Int.Signed.{◌<ℤ◌}
use Rattle.mp_fix.specs.Interval.{Interval}
use Rattle.mp_fix.specs.Intervals.{interval_negation, holds_zero}
use Rattle.mp_fix.proofs.Quotients.{quotient_by, quotient_mirrored, quotient_ends}
use Rattle.mp_fix.proofs.interval.Iv.quotient.Goals as goal

pub returns-then-is_below : goal.returns-then-is_below
returns-then-is_below c =
    let a = c.args.self in
    let b = c.args.other in
    let none : holds_zero b ≡ false = search rules in
    let ordered : b.lo ≤ℤ b.hi = search rules in
    let below : b.hi <ℤ pos 0 = search rules in
    c.over.ensures
    ∙ ap (λ (i : Interval). quotient_ends i c.negation-then-is_below.result) c.negation.ensures
    ∙ ap (λ (i : Interval). quotient_ends (interval_negation a) i) c.negation-then-is_below.ensures
    ∙ quotient_mirrored a b ordered below
    ∙ quotient_by a b none
