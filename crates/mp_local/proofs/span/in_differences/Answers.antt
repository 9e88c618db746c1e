use Rattle.std.proofs.Common.{◌≡◌, ◌^◌, ◌-ℤ◌, ℤ, ℕ, max, pos, unsigned_abs, to_z, of_z, ap, sym, subst, ◌∙◌, arith}
use Rattle.std.specs.Int.{w128}
use Rattle.std.proofs.lemmas.Int.{ints}
use Rattle.mp_values.specs.Shifts.{differenced}
use Rattle.mp_local.specs.Ends.{AreEnds}
use Rattle.mp_local.proofs.Depths.{goes_on}
use Rattle.mp_local.proofs.span.in_differences.Goals as goal

pub returns-then-most-limit : goal.returns-then-most-limit
returns-then-most-limit c d ks is_depth tells =
    let ends = c.args.ends in
    let least = to_z w128 (of_z w128 (to_z w128 (of_z w128 ends.least) -ℤ to_z w128 c.args.depth)) in
    let is_least : least ≡ ends.least -ℤ pos c.args.depth = omega (arith, ints, ends.least_near, c.requires) in
    let kept : to_z w128 (of_z w128 ends.greatest) ≡ ends.greatest = omega (arith, ints, ends.greatest_near) in
    let is_most : c.max-most.result ≡ max (unsigned_abs least) (unsigned_abs ends.greatest) = c.max-most.ensures ∙ ap (λ (n : ℕ). max n c.unsigned_abs-2.result) c.unsigned_abs.ensures.value ∙ ap (λ (n : ℕ). max (unsigned_abs least) n) (c.unsigned_abs-2.ensures.value ∙ ap unsigned_abs kept) in
    let beyond = (goes_on ends.least ends.greatest (2 ^ 124) c.args.depth d c.args.limit c.max-most.result least ks is_depth ends.least_near (omega (arith, c.ranges.limit)) is_least is_most tells).1 c.if-most-limit.true in
    (beyond.0, c.min.ensures ∙ beyond.1)

pub returns : goal.returns
returns c d ks is_depth tells =
    let ends = c.args.ends in
    let least = to_z w128 (of_z w128 (to_z w128 (of_z w128 ends.least) -ℤ to_z w128 c.args.depth)) in
    let is_least : least ≡ ends.least -ℤ pos c.args.depth = omega (arith, ints, ends.least_near, c.requires) in
    let kept : to_z w128 (of_z w128 ends.greatest) ≡ ends.greatest = omega (arith, ints, ends.greatest_near) in
    let is_most : c.max-most.result ≡ max (unsigned_abs least) (unsigned_abs ends.greatest) = c.max-most.ensures ∙ ap (λ (n : ℕ). max n c.unsigned_abs-2.result) c.unsigned_abs.ensures.value ∙ ap (λ (n : ℕ). max (unsigned_abs least) n) (c.unsigned_abs-2.ensures.value ∙ ap unsigned_abs kept) in
    let near = (goes_on ends.least ends.greatest (2 ^ 124) c.args.depth d c.args.limit c.max-most.result least ks is_depth ends.least_near (omega (arith, c.ranges.limit)) is_least is_most tells).0 c.if-most-limit.false in
    (near.0, subst (λ (g : ℤ). AreEnds least g (differenced d ks)) (sym kept) near.1)
