use Rattle.std.proofs.Common.{◌≡◌, ℤ, ◌≤◌, sym, ◌∙◌, subst, SFits, rules, to_z, of_z}
use mir.Syntax.{w128}
use Rattle.std.specs.Int.{IsGcd}
use Rattle.std.specs.Int.RustNames.{unsigned_abs}
use Rattle.std.proofs.lemmas.Int.{to_z-of_z}
use Rattle.mp_frac.specs.Limit.{limit}
use Rattle.mp_frac.proofs.frac.Frac.from_parts.Goals as goal

pub invariant_of-result : goal.invariant_of-result
invariant_of-result c =
    let fits : SFits w128 c.value.result = search rules in
    let num_is : to_z w128 (of_z w128 c.value.result) ≡ c.args.num = to_z-of_z w128 c.value.result fits ∙ c.value.ensures in
    record {
      positive = c.requires.positive;
      num_small = subst (λ (z : ℤ). unsigned_abs z ≤ limit) (sym num_is) c.requires.num_small;
      den_small = c.requires.den_small;
      coprime = subst (λ (z : ℤ). IsGcd (unsigned_abs z) c.args.den 1) (sym num_is) c.requires.coprime;
    }
