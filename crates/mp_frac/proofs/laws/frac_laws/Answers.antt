use Rattle.mp_frac.proofs.Values.{positive_value, coprime_value, numerator_within, denominator_within, equal_from_values}
use Rattle.mp_frac.proofs.laws.frac_laws.Goals as goal

pub returns-clause-positive : goal.returns-clause-positive
returns-clause-positive c = positive_value

pub returns-clause-lowest_terms : goal.returns-clause-lowest_terms
returns-clause-lowest_terms c = coprime_value

pub returns-clause-numerator_within : goal.returns-clause-numerator_within
returns-clause-numerator_within c = numerator_within

pub returns-clause-denominator_within : goal.returns-clause-denominator_within
returns-clause-denominator_within c = denominator_within

pub returns-clause-equal_values : goal.returns-clause-equal_values
returns-clause-equal_values c = equal_from_values
