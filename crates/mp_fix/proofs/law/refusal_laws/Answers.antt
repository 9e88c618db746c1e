use Rattle.mp_fix.proofs.Refusals.{sum_no_zero, difference_no_zero, product_no_zero, quotient_by_zero, interval_sum_no_zero, interval_difference_no_zero, interval_product_no_zero, interval_by_zero}
use Rattle.mp_fix.proofs.law.refusal_laws.Goals as goal

pub returns : goal.returns
returns c = record {
  sum = sum_no_zero;
  difference = difference_no_zero;
  product = product_no_zero;
  quotient = quotient_by_zero;
  interval_sum = interval_sum_no_zero;
  interval_difference = interval_difference_no_zero;
  interval_product = interval_product_no_zero;
  interval_quotient = interval_by_zero;
}
