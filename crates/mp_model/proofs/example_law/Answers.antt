use Rattle.mp_model.proofs.Examples.{Ratios, values_means}
use Rattle.mp_model.proofs.Printed.{values_are_printed}
use Rattle.mp_model.proofs.Texts.{values_reads}
use Rattle.mp_model.proofs.example_law.Goals as goal

pub returns-clause-reads : goal.returns-clause-reads
returns-clause-reads c = values_reads

pub returns-clause-model : goal.returns-clause-model
returns-clause-model c =
    let laws : Ratios = record {
      only_numerator = c.lowest_terms_laws.ensures.only_numerator;
      only_denominator = c.lowest_terms_laws.ensures.only_denominator;
      sum = c.ratio_laws.ensures.sum;
      product = c.ratio_laws.ensures.product;
      equal = c.ratio_laws.ensures.equal;
      zero_is = c.ratio_laws.ensures.zero;
      quotient = c.field_laws.ensures.quotient_is_unique;
    } in
    values_means laws

pub returns-clause-printed : goal.returns-clause-printed
returns-clause-printed c =
    let laws : Ratios = record {
      only_numerator = c.lowest_terms_laws.ensures.only_numerator;
      only_denominator = c.lowest_terms_laws.ensures.only_denominator;
      sum = c.ratio_laws.ensures.sum;
      product = c.ratio_laws.ensures.product;
      equal = c.ratio_laws.ensures.equal;
      zero_is = c.ratio_laws.ensures.zero;
      quotient = c.field_laws.ensures.quotient_is_unique;
    } in
    values_are_printed laws
