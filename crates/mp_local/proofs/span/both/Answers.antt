use Rattle.std.proofs.Common.{◌≡◌, ◌^◌, to_z, of_z, arith}
use Rattle.std.specs.Int.{w128, int_min, int_max}
use Rattle.std.proofs.lemmas.Int.{ints, clamps}
use Rattle.mp_local.proofs.EndLaws.{ends_joined, min_near, max_near}
use Rattle.mp_local.proofs.span.both.Goals as goal

pub returns : goal.returns
returns c ks js a b =
    let least : to_z w128 (of_z w128 c.min.result) ≡ int_min c.args.a.least c.args.b.least = omega (arith, ints, clamps, c.min.ensures.value, c.args.a.least_near, c.args.b.least_near) in
    let greatest : to_z w128 (of_z w128 c.max.result) ≡ int_max c.args.a.greatest c.args.b.greatest = omega (arith, ints, clamps, c.max.ensures.value, c.args.a.greatest_near, c.args.b.greatest_near) in
    ends_joined c.args.a.least c.args.a.greatest c.args.b.least c.args.b.greatest ks js a b _ _ least greatest

pub invariant_of-result-clause-least_near : goal.invariant_of-result-clause-least_near
invariant_of-result-clause-least_near c =
    let least : to_z w128 (of_z w128 c.min.result) ≡ int_min c.args.a.least c.args.b.least = omega (arith, ints, clamps, c.min.ensures.value, c.args.a.least_near, c.args.b.least_near) in
    min_near c.args.a.least c.args.b.least _ (2 ^ 124) c.args.a.least_near c.args.b.least_near least

pub invariant_of-result-clause-greatest_near : goal.invariant_of-result-clause-greatest_near
invariant_of-result-clause-greatest_near c =
    let greatest : to_z w128 (of_z w128 c.max.result) ≡ int_max c.args.a.greatest c.args.b.greatest = omega (arith, ints, clamps, c.max.ensures.value, c.args.a.greatest_near, c.args.b.greatest_near) in
    max_near c.args.a.greatest c.args.b.greatest _ (2 ^ 124) c.args.a.greatest_near c.args.b.greatest_near greatest
