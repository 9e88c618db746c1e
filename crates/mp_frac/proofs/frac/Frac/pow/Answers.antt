use Rattle.std.proofs.Common.{◌≡◌, ℤ, pos, ap, sym, ◌∙◌, true, false}
use mir.Syntax.{w8}
use Rattle.std.specs.Int.RustNames.{unsigned_abs}
use Rattle.std.specs.Int.Signed.{lt_z}
use Rattle.std.proofs.lemmas.Int.{to_z-of_z}
use Rattle.mp_frac.specs.Stated.{product_times}
use Rattle.mp_frac.specs.Value.{value_of}
use Rattle.mp_frac.proofs.Powers.{power_outcome-err, power_outcome-pos, power_outcome-negative, reciprocal_outcome}
use Rattle.mp_frac.proofs.frac.Frac.pow.Goals as goal

pub returns-in-Err : goal.returns-in-Err
returns-in-Err c =
    let k_is = to_z-of_z w8 c.args.k c.ranges.k in
    let x = value_of c.args.self in
    sym (power_outcome-err x c.args.k c.in-Err.fault
    (ap (product_times x) (sym (c.unsigned_abs.ensures.value ∙ ap unsigned_abs k_is)) ∙ sym c.in-Err.ensures))

pub returns-then-below : goal.returns-then-below
returns-then-below c =
    let k_is = to_z-of_z w8 c.args.k c.ranges.k in
    let x = value_of c.args.self in
    let p = value_of c.in-Ok.power in
    let is_below : lt_z c.args.k (pos 0) ≡ true = ap (λ (z : ℤ). lt_z z (pos 0)) (sym k_is) ∙ c.if-below.true in
    reciprocal_outcome p c.reciprocal.result c.reciprocal.ensures
    ∙ sym (power_outcome-negative x p c.args.k is_below
    (ap (product_times x) (sym (c.unsigned_abs.ensures.value ∙ ap unsigned_abs k_is)) ∙ sym c.in-Ok.ensures))

pub returns-else-below : goal.returns-else-below
returns-else-below c =
    let k_is = to_z-of_z w8 c.args.k c.ranges.k in
    let x = value_of c.args.self in
    let p = value_of c.in-Ok.power in
    let above : lt_z c.args.k (pos 0) ≡ false = ap (λ (z : ℤ). lt_z z (pos 0)) (sym k_is) ∙ c.if-below.false in
    sym (power_outcome-pos x p c.args.k above
    (ap (product_times x) (sym (c.unsigned_abs.ensures.value ∙ ap unsigned_abs k_is)) ∙ sym c.in-Ok.ensures))
