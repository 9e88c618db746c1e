use Rattle.mp_semantics.specs.Value.{val}
use Rattle.mp_slopes.specs.Derivative.{derivative_of}
use Rattle.mp_slopes.specs.Dual.{dual}
use Rattle.mp_slopes.proofs.Agrees.{derivative_agrees, agrees_real, agrees_slope}
use Rattle.mp_slopes.proofs.Field.{Field}
use Rattle.mp_slopes.proofs.derivative_law.Goals as goal

pub returns : goal.returns
returns c =
    let r = c.ring_laws.ensures in
    let q = c.field_laws.ensures in
    let laws : Field = record {
      add_comm = r.sum_commutes;
      add_assoc = r.sum_associates;
      add-nought = r.sum_with_zero;
      add-neg = r.sum_with_negation;
      mul_comm = r.product_commutes;
      mul_assoc = r.product_associates;
      mul-one = r.product_with_one;
      mul-nought = r.product_with_zero;
      mul-add = r.product_distributes;
      zero_is = q.only_zero_is_zero;
      one_is_not = q.one_is_not_zero;
      inverse = q.inverse;
      inv_unique = q.inverse_is_unique;
      div_is = q.quotient;
      mul-ne-nought = q.no_divisors_of_zero;
      sum = c.ratio_laws.ensures.sum;
      less_self = c.order_laws.ensures.irreflexive;
      less_trans = c.order_laws.ensures.transitive;
    } in
    record {
      real = λ e v k env t d h. agrees_real (dual e v k env t) (val e env t) (val (derivative_of e v k) env t) d (derivative_agrees laws env t e v k) h;
      slope = λ e v k env t d h. agrees_slope (dual e v k env t) (val e env t) (val (derivative_of e v k) env t) d (derivative_agrees laws env t e v k) h;
    }
