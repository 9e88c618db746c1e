use Rattle.mp_canonical.proofs.Values.{Ratios}
use Rattle.mp_derivatives.proofs.Back.{text_means}
use Rattle.mp_derivatives.proofs.Printable.{printable_writable}
use Rattle.mp_derivatives.proofs.text_law.Goals as goal

pub returns : goal.returns
returns c =
    let laws : Ratios = record {
      value = c.lowest_terms_laws.ensures.value;
      positive = c.lowest_terms_laws.ensures.positive;
      only_numerator = c.lowest_terms_laws.ensures.only_numerator;
      only_denominator = c.lowest_terms_laws.ensures.only_denominator;
      negation = c.ratio_laws.ensures.negation;
      product = c.ratio_laws.ensures.product;
      equal = c.ratio_laws.ensures.equal;
      zero_is = c.ratio_laws.ensures.zero;
      quotient = c.field_laws.ensures.quotient_is_unique;
    } in
    λ ns t is. text_means laws ns t (printable_writable ns t is)
