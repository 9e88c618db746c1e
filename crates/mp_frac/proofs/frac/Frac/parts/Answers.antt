use Rattle.std.proofs.Common.{◌≡◌, ℤ, pos, ◌≤◌, ap, sym, ◌∙◌, arith, subst, to_z, of_z}
use Rattle.std.specs.Prelude.{◌<ℤ◌}
use mir.Syntax.{w128}
use Rattle.std.specs.Int.{IsGcd}
use Rattle.std.specs.Int.RustNames.{unsigned_abs}
use Rattle.std.proofs.lemmas.Int.{to_z-of_z, to_z_pos, fits_signed_from_abs, ints}
use Rattle.mp_frac.specs.Limit.{limit}
use Rattle.mp_frac.proofs.Values.{numerator-value_of, denominator-value_of}
use Rattle.mp_frac.proofs.frac.Frac.parts.Goals as goal

pub returns : goal.returns
returns c =
    let f = c.args.self.now in
    let n_is : to_z w128 (of_z w128 f.num) ≡ f.num = to_z-of_z w128 f.num (fits_signed_from_abs w128 f.num (omega (arith, f.num_small))) in
    let d_is : to_z w128 f.den ≡ pos f.den = to_z_pos w128 f.den (omega (arith, f.den_small)) in
    record {
      numerator = n_is ∙ sym (numerator-value_of f);
      denominator = d_is ∙ ap pos (sym (denominator-value_of f));
      numerator_within = subst (λ (z : ℤ). unsigned_abs z ≤ limit) (sym n_is) f.num_small;
      denominator_within = subst (λ (z : ℤ). unsigned_abs z ≤ limit) (sym d_is) f.den_small;
      positive = subst (λ (z : ℤ). pos 0 <ℤ z) (sym d_is) (omega (arith, ints, f.positive));
      lowest_terms = subst (λ (z : ℤ). IsGcd (unsigned_abs z) (unsigned_abs (to_z w128 f.den)) 1) (sym n_is)
          (subst (λ (z : ℤ). IsGcd (unsigned_abs f.num) (unsigned_abs z) 1) (sym d_is) f.coprime);
    }
