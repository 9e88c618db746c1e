use Rattle.std.proofs.Common.{◌≡◌, ◌<◌, subst, rules, to_z-of_z}
use mir.Val.{SFits}
use mir.Syntax.{w64}
use Rattle.mp_mexpr.specs.Meaning.{count_between}
use Rattle.mp_mexpr.proofs.Numbers.{made-range-long}
use Rattle.mp_mexpr.proofs.meaning.range.Goals as goal

pub returns-then-count-gt100000 : goal.returns-then-count-gt100000
returns-then-count-gt100000 c =
    let fa : SFits w64 c.args.first = search rules in
    let fb : SFits w64 c.args.last = search rules in
    let is : c.count_between-count.result ≡ count_between c.args.first c.args.last = simp to_z-of_z at c.count_between-count.ensures in
    rw c.refused.ensures (made-range-long c.args.first (count_between c.args.first c.args.last) (subst (λ n. 100000 < n) is c.if-count-gt100000.true))
