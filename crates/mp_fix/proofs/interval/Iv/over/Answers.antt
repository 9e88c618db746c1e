use Rattle.std.proofs.Common.{rules, ◌≡◌, ◌*ℤ◌, pos}
use Rattle.std.specs.Int.{int_min, int_max}
use Rattle.std.specs.Int.RustNames.{unsigned_abs}
use Rattle.std.specs.Int.Signed.{◌<ℤ◌}
use Rattle.mp_fix.specs.Units.{unit, floor, ceiling}
use Rattle.mp_fix.specs.Intervals.{with_ends}
use Rattle.mp_fix.proofs.Quotients.{least_of_ends, greatest_of_ends, ordered_ends}
use Rattle.mp_fix.proofs.interval.Iv.over.Goals as goal

pub returns : goal.returns
returns c =
    let a = c.self.inside in
    let b = c.other.inside in
    let lo : c.least_quotient-lo.result ≡ int_min (floor (a.lo *ℤ pos unit) (unsigned_abs b.lo)) (floor (a.lo *ℤ pos unit) (unsigned_abs b.hi)) = cc in
    let hi : c.greatest_quotient-hi.result ≡ int_max (ceiling (a.hi *ℤ pos unit) (unsigned_abs b.lo)) (ceiling (a.hi *ℤ pos unit) (unsigned_abs b.hi)) = cc in
    let s : pos 0 <ℤ b.lo = search rules in
    let e : c.with_ends.result ≡ with_ends c.least_quotient-lo.result c.greatest_quotient-hi.result =
    c.with_ends.ensures (ordered_ends _ _ _ _ b.lo b.hi c.self.invariant s lo hi) in
    let f = least_of_ends _ _ a.hi b.lo b.hi c.self.invariant s c.other.invariant lo in
    let g = greatest_of_ends _ a.lo _ b.lo b.hi c.self.invariant s c.other.invariant hi in
    search rules
