use Rattle.std.proofs.Common.{rules, ◌≡◌, ◌∙◌, ap, ℤ, ◌-ℤ◌}
use Rattle.mp_fix.specs.Intervals.{with_ends}
use Rattle.mp_fix.proofs.Rounding.{le_along, le_differences}
use Rattle.mp_fix.proofs.interval.Iv.difference.Goals as goal

pub returns : goal.returns
returns c =
    let lo : c.minus-lo.result ≡ c.self.inside.lo -ℤ c.other.inside.hi =
    c.minus-lo.ensures ∙ (ap (λ (x : ℤ). x -ℤ c.whole-2.result) c.whole.ensures.value ∙ ap (λ (x : ℤ). c.self.inside.lo -ℤ x) c.whole-2.ensures.value) in
    let hi : c.minus-hi.result ≡ c.self.inside.hi -ℤ c.other.inside.lo =
    c.minus-hi.ensures ∙ (ap (λ (x : ℤ). x -ℤ c.whole-4.result) c.whole-3.ensures.value ∙ ap (λ (x : ℤ). c.self.inside.hi -ℤ x) c.whole-4.ensures.value) in
    let e : c.with_ends.result ≡ with_ends c.minus-lo.result c.minus-hi.result =
    c.with_ends.ensures (le_along _ _ _ _ lo hi (le_differences c.self.inside.lo c.self.inside.hi c.other.inside.lo c.other.inside.hi c.self.invariant c.other.invariant)) in
    search rules
